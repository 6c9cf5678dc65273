-- `sent_again_nothing_changes`: a request that is sent again, right after it was done, changes nothing more.
use Rattle.channel_view_laws.proofs.AgainLemmas.{done_once}
use Rattle.channel_view_laws.proofs.laws.sent_again_nothing_changes.Goals as goal

pub returns : goal.returns
returns c = done_once
