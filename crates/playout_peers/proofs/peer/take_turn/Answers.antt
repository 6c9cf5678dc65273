-- `take_turn`: one step of a connection: a message is answered, or one read or one write is made.
use Rattle.std.proofs.Common.{refl, subst}
use Rattle.playout_peers.specs.Turn.{IsOpen}
use Rattle.playout_peers.specs.declared.peer.Task.{Task}
use Rattle.playout_peers.proofs.TurnLemmas.{took_none}
use Rattle.playout_peers.proofs.peer.take_turn.Goals as goal

pub returns-in-Answers-clause-did : goal.returns-in-Answers-clause-did
returns-in-Answers-clause-did g c =
    let store = g.S.RowStore in
    took_none store.is_clean store.stands_for store.may_leave store.leaves_sets _ _ _ _ _ _ refl
    (λ ps xs first o. c.write_answer.ensures.comes ps xs first
    (subst
    (λ (t : Task). IsOpen ps xs first (g.D.Door.wire c.args.door.now c.args.peer.connection.seat.number)
    c.args.peer.connection.pending.items t) c.in-Answers.is o))

pub returns-in-Refuses-clause-did : goal.returns-in-Refuses-clause-did
returns-in-Refuses-clause-did g c =
    let store = g.S.RowStore in
    took_none store.is_clean store.stands_for store.may_leave store.leaves_sets _ _ _ _ _ _ refl
    (λ ps xs first o. c.write_refusal.ensures.comes ps xs first
    (subst
    (λ (t : Task). IsOpen ps xs first (g.D.Door.wire c.args.door.now c.args.peer.connection.seat.number)
    c.args.peer.connection.pending.items t) c.in-Refuses.is o))

pub returns-in-Starves-clause-did : goal.returns-in-Starves-clause-did
returns-in-Starves-clause-did g c =
    let store = g.S.RowStore in
    took_none store.is_clean store.stands_for store.may_leave store.leaves_sets _ _ _ _ _ _ refl
    (λ ps xs first o. c.write_farewell.ensures.comes ps xs first
    (subst
    (λ (t : Task). IsOpen ps xs first (g.D.Door.wire c.args.door.now c.args.peer.connection.seat.number)
    c.args.peer.connection.pending.items t) c.in-Starves.is o))
