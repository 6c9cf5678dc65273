-- `converse`: answers the first message of a connection, or reads of it.
use Rattle.std.proofs.Common.{List, ℕ, refl, sym, subst}
use Rattle.playout_peers.specs.Turn.{IsOpen}
use Rattle.playout_peers.specs.declared.peer.Task.TheVariants.{Reads}
use Rattle.playout_peers.proofs.OpenLemmas.{goes, refuses}
use Rattle.playout_peers.proofs.TurnLemmas.{took_none, took_one}
use Rattle.playout_peers.proofs.peer.converse.Goals as goal

pub returns-in-Waits-clause-did : goal.returns-in-Waits-clause-did
returns-in-Waits-clause-did g c =
    let store = g.S.RowStore in
    let h = rw c.in-Waits.is at c.answer_front-front.ensures in
    took_none store.is_clean store.stands_for store.may_leave store.leaves_sets _ _ _ _ _ _ h.2
    (λ ps xs first o. c.listen.ensures.comes ps xs first
    (subst
    (λ (l : List ℕ). IsOpen ps xs first (g.D.Door.wire c.args.door.now c.args.connection.seat.number) l Reads)
    (sym h.1) o))

pub returns-in-Answered-clause-did : goal.returns-in-Answered-clause-did
returns-in-Answered-clause-did g c =
    let store = g.S.RowStore in
    let h = rw c.in-Answered.is at c.answer_front-front.ensures in
    took_one store.is_clean store.stands_for store.may_leave store.leaves_sets _ _ _ _ _ _ h.1 c.in-Answered.answer h.5
    (λ ps xs first o. rw (c.stays.ensures, h.4) (
      goes ps xs first (g.D.Door.wire c.args.door.now c.args.connection.seat.number)
          (g.D.Door.wire c.args.door.now c.args.connection.seat.number) c.args.connection.pending.items h.0 h.1
          c.in-Answered.answer h.2 h.3 o,
      refl,
    ))

pub returns-in-Last-clause-did : goal.returns-in-Last-clause-did
returns-in-Last-clause-did g c =
    let store = g.S.RowStore in
    let h = rw c.in-Last.is at c.answer_front-front.ensures in
    took_one store.is_clean store.stands_for store.may_leave store.leaves_sets _ _ _ _ _ _ h.1 c.in-Last.answer h.4
    (λ ps xs first o. rw c.stays-in-Last.ensures (
      refuses ps xs first (g.D.Door.wire c.args.door.now c.args.connection.seat.number)
          (g.D.Door.wire c.args.door.now c.args.connection.seat.number) c.args.connection.pending.items h.0 h.1
          c.in-Last.answer _ h.2 h.3 o,
      refl,
    ))
