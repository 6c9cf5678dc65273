-- `LentRows::keep_the_order`: the grants are in the order of their owners and, of one owner, of their numbers.
use Rattle.std.proofs.Common.{subst}
use Rattle.grant_core.specs.Grant.{AreInOrder}
use Rattle.grant_core.proofs.FindLemmas.{before_later}
use Rattle.grant_core.proofs.grant.LentRows.keep_the_order.Goals as goal

pub returns-clause-each : goal.returns-clause-each
returns-clause-each c =
    λ i j d later lt. before_later c.args.self.now i j d (subst AreInOrder c.self.view_is c.self.invariant) later lt
