-- `go_round`: lets one in, if one knocks, and gives one its turn; or looks round, where it is time to.
use Rattle.playout_peers.proofs.ServingLemmas.{admits, still}
use Rattle.playout_peers.proofs.serving.go_round.Goals as goal

pub returns-in_default-clause-goes_on : goal.returns-in_default-clause-goes_on
returns-in_default-clause-goes_on g c begun first told s =
    let store = g.S.RowStore in
    still store.is_clean store.stands_for store.may_leave store.leaves_sets begun _ first _ _
    (g.D.Door.accepted c.answer_door.new.door) _ _ told _ c.look_round.ensures.wires
    c.look_round.ensures.accepted
    (admits store.is_clean store.stands_for store.may_leave store.leaves_sets begun _ first _ _ _ _
    c.answer_door.ensures.0 _ _ told _ _ c.answer_door.result s c.answer_door.ensures.1)

pub returns-clause-goes_on : goal.returns-clause-goes_on
returns-clause-goes_on g c begun first told s =
    let store = g.S.RowStore in
    c.take_turn_at.ensures.goes_on begun first told
    (admits store.is_clean store.stands_for store.may_leave store.leaves_sets begun _ first _ _ _ _
    c.answer_door.ensures.0 _ _ told _ _ c.answer_door.result s c.answer_door.ensures.1)
