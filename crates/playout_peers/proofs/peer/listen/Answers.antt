-- `listen`: reads of a connection that no whole message has come of.
use Rattle.std.proofs.Common.{refl}
use Rattle.playout_peers.proofs.OpenLemmas.{hears_more, starves}
use Rattle.playout_peers.proofs.peer.listen.Goals as goal

pub returns-in-More-clause-comes : goal.returns-in-More-clause-comes
returns-in-More-clause-comes g c pieces answers first o =
    let h = c.in-More.ensures.heard in
    rw (c.stays.ensures, h.3) (hears_more pieces answers first _ _ c.args.connection.pending.items h.0 h.1 h.2 o, refl)

pub returns-clause-comes : goal.returns-clause-comes
returns-clause-comes g c pieces answers first o =
    let h = c.in-Starved.ensures.heard in
    rw c.stays-in-Starved.ensures
    (starves pieces answers first _ _ c.args.connection.pending.items h.0 c.new.result.items h.1 h.2 o, refl)
