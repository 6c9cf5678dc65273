-- `write_refusal`: writes the answer that ends the connection.
use Rattle.std.proofs.Common.{refl}
use Rattle.playout_peers.proofs.OpenLemmas.{refuses_all, refuses_part}
use Rattle.playout_peers.proofs.peer.write_refusal.Goals as goal

pub returns-in-All-clause-comes : goal.returns-in-All-clause-comes
returns-in-All-clause-comes g c pieces answers first o =
    let s = rw c.bytes.ensures at c.in-All.ensures.said in
    refuses_all pieces answers first _ _ c.args.connection.pending.items c.args.answer c.args.sent _ s refl o

pub returns-in-Part-clause-comes : goal.returns-in-Part-clause-comes
returns-in-Part-clause-comes g c pieces answers first o =
    let s = rw c.bytes.ensures at c.in-Part.ensures.said in
    rw c.stays.ensures
    (refuses_part pieces answers first _ _ c.args.connection.pending.items c.args.answer c.args.sent _ s o, refl)
