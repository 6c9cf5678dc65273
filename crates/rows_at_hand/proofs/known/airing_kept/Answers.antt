-- `airing_kept`: what was aired again, where memory is there for it.
use Rattle.std.proofs.Common.{◌≡◌}
use Rattle.rows_at_hand.proofs.KnownLemmas.{copy_same}
use Rattle.rows_at_hand.proofs.known.airing_kept.Goals as goal

pub returns : goal.returns
returns c = copy_same (λ a. a ≡ c.args.airing.now) c.copied.result c.ok.result c.ok.ensures.value c.copied.ensures
