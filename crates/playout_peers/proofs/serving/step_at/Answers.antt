-- `step_at`: makes a step of the connection at a place, if one is there.
use Rattle.std.proofs.Common.{refl, sym, ◌∙◌}
use Rattle.playout_peers.proofs.ServingLemmas.{all_same, still, turn_stays, turn_ends, nobody_there}
use Rattle.playout_peers.proofs.serving.step_at.Goals as goal

pub returns-in_default-clause-goes_on : goal.returns-in_default-clause-goes_on
returns-in_default-clause-goes_on g c begun first told s =
    let store = g.S.RowStore in
    let here = c.take_at.ensures.here ∙ sym c.in_default.is ∙ c.take_at.ensures.taken in
    nobody_there store.is_clean store.stands_for store.may_leave store.leaves_sets begun _ first _ _ c.args.place
    c.args.peers.now _ told _
    (all_same c.args.peers.now.places.items c.take_at.new.places.items c.args.place here c.take_at.ensures.others) refl
    refl s

pub returns-in-Stays-clause-goes_on : goal.returns-in-Stays-clause-goes_on
returns-in-Stays-clause-goes_on g c begun first told s =
    let store = g.S.RowStore in
    still store.is_clean store.stands_for store.may_leave store.leaves_sets begun _ first _ _
    (g.D.Door.accepted c.args.door.now) _ _ told _ (λ m. refl) c.take_turn.ensures.accepted
    (turn_stays store.is_clean store.stands_for store.may_leave store.leaves_sets begun c.args.store.now
    c.take_turn.new.store first (g.D.Door.wire c.args.door.now)
    (g.D.Door.wire c.take_turn.new.door) (g.D.Door.accepted c.args.door.now) c.args.place c.args.peers.now _ told _
    c.in-Some.peer c.take_turn.result s
    (sym c.take_at.ensures.taken ∙ c.in-Some.is) c.take_turn.ensures.did c.take_turn.ensures.others
    (λ i ne. c.put_at.ensures.others i ne ∙ c.take_at.ensures.others i ne) c.in-Stays.peer c.stamped.result
    c.in-Stays.then c.in-Stays.is
    c.put_at.ensures.here c.stamped.ensures.seat c.stamped.ensures.pending c.stamped.ensures.task refl refl)

pub returns-in-Ends-clause-goes_on : goal.returns-in-Ends-clause-goes_on
returns-in-Ends-clause-goes_on g c begun first told s =
    let store = g.S.RowStore in
    let num = c.in-Some.peer.connection.seat.number in
    still store.is_clean store.stands_for store.may_leave store.leaves_sets begun _ first _ _
    (g.D.Door.accepted c.args.door.now) _ _ told _ c.close.ensures.wires
    (c.close.ensures.accepted ∙ c.take_turn.ensures.accepted)
    (turn_ends store.is_clean store.stands_for store.may_leave store.leaves_sets begun c.args.store.now
    c.take_turn.new.store first (g.D.Door.wire c.args.door.now)
    (g.D.Door.wire c.take_turn.new.door) (g.D.Door.accepted c.args.door.now) c.args.place c.args.peers.now _ told _
    c.in-Some.peer c.take_turn.result s
    (sym c.take_at.ensures.taken ∙ c.in-Some.is) c.take_turn.ensures.did c.take_turn.ensures.others
    c.take_at.ensures.others c.in-Ends.how c.in-Ends.is
    c.take_at.ensures.here _ refl (c.report_end-peers.ensures.well num) (c.report_end-peers.ensures.told num)
    c.report_end-peers.ensures.hushed)
