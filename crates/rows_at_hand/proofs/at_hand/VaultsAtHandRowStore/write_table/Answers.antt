-- `VaultsAtHand::write_table`: a table of vaults from those at hand, any other from the store below.
use Rattle.std.proofs.Common.{◌∙◌, sym}
use Rattle.rows_at_hand.proofs.AtHandLemmas.{rules_at_hand}
use Rattle.rows_at_hand.proofs.at_hand.VaultsAtHandRowStore.write_table.Goals as goal

pub returns-clause-there : goal.returns-clause-there
returns-clause-there g c clean rows stands =
    c.write.ensures.there rows
    (rules_at_hand rows c.args.self.now.vaults c.in-Some.vaults c.in-Some.is stands.1)
    (sym c.is_at_hand.ensures ∙ c.if-is_at_hand.true)

pub returns-clause-ok : goal.returns-clause-ok
returns-clause-ok g c clean rows stands =
    c.write.ensures.ok rows
    (rules_at_hand rows c.args.self.now.vaults c.in-Some.vaults c.in-Some.is stands.1)
    (sym c.is_at_hand.ensures ∙ c.if-is_at_hand.true)

pub returns-clause-err : goal.returns-clause-err
returns-clause-err g c clean rows stands =
    c.write.ensures.err rows
    (rules_at_hand rows c.args.self.now.vaults c.in-Some.vaults c.in-Some.is stands.1)
    (sym c.is_at_hand.ensures ∙ c.if-is_at_hand.true)
