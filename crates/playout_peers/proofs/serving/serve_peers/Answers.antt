-- `serve_peers`: serves connections, so many of which are open at once at most, until so many have ended.
use Rattle.playout_lists.specs.declared.streams.InputFault.TheVariants as input
use Rattle.playout_peers.proofs.ServingLemmas.{unserved}
use Rattle.playout_peers.proofs.serving.serve_peers.Goals as goal

pub returns-in_default-clause-did : goal.returns-in_default-clause-did
returns-in_default-clause-did g c =
    let store = g.S.RowStore in
    rw c.fail.ensures.result
    (unserved store.is_clean store.stands_for store.may_leave store.leaves_sets _ _ _ _ _ input.Unavailable
    c.fail.ensures.told.all)

pub returns-in_default-new-clause-did : goal.returns-in_default-new-clause-did
returns-in_default-new-clause-did g c =
    let store = g.S.RowStore in
    rw c.fail-in_default-new.ensures.result
    (unserved store.is_clean store.stands_for store.may_leave store.leaves_sets _ _ _ _ _ input.Unavailable
    c.fail-in_default-new.ensures.told.all)

pub returns-in_default-new-2-clause-did : goal.returns-in_default-new-2-clause-did
returns-in_default-new-2-clause-did g c =
    let store = g.S.RowStore in
    rw c.fail-in_default-new-2.ensures.result
    (unserved store.is_clean store.stands_for store.may_leave store.leaves_sets _ _ _ _ _ input.Unavailable
    c.fail-in_default-new-2.ensures.told.all)
