-- `write_farewell`: writes that there was no memory, which ends the connection.
use Rattle.std.proofs.Common.{refl}
use Rattle.playout_peers.proofs.OpenLemmas.{starves_part, starves_ends}
use Rattle.playout_peers.proofs.peer.write_farewell.Goals as goal

pub returns-in-Part-clause-comes : goal.returns-in-Part-clause-comes
returns-in-Part-clause-comes g c pieces answers first o =
    let s = rw c.bytes.ensures at c.in-Part.ensures.said in
    rw c.stays.ensures (starves_part pieces answers first _ _ c.args.connection.pending.items c.args.sent _ s o, refl)

pub returns-in-All-clause-comes : goal.returns-in-All-clause-comes
returns-in-All-clause-comes g c pieces answers first o =
    let s = rw c.bytes.ensures at c.in-All.ensures.said in
    starves_ends pieces answers first _ _ c.args.connection.pending.items c.args.sent _ s o

pub returns-in-Fails-clause-comes : goal.returns-in-Fails-clause-comes
returns-in-Fails-clause-comes g c pieces answers first o =
    let s = rw c.bytes.ensures at c.in-Fails.ensures.said in
    starves_ends pieces answers first _ _ c.args.connection.pending.items c.args.sent _ s o
