-- `VaultsAtHand::fetch`: a part of the vaults at hand, where no day is asked for.
use Rattle.std.proofs.Common.{◌∙◌, ap}
use Rattle.std.specs.Prelude.{not}
use Rattle.rows_at_hand.proofs.AtHandLemmas.{rules_at_hand}
use Rattle.rows_at_hand.proofs.at_hand.VaultsAtHandRowStore.fetch.Goals as goal

pub returns-then-is_none-2-clause-part : goal.returns-then-is_none-2-clause-part
returns-then-is_none-2-clause-part g c clean rows stands =
    c.part.ensures rows (rules_at_hand rows c.args.self.now.vaults c.in-Some.vaults c.in-Some.is stands.1)
    (c.is_none.ensures ∙ ap not c.if-is_none.true) (c.is_none-then-is_none.ensures ∙ ap not c.if-is_none-2.true)
