-- `serve_rounds`: serves the connections that are let in, until so many have ended.
use Rattle.std.proofs.Common.{refl, arith}
use Rattle.playout_lists.specs.declared.streams.InputFault.TheVariants as input
use Rattle.playout_peers.proofs.ServingLemmas.{serves_none, served, broken}
use Rattle.playout_peers.proofs.serving.serve_rounds.Goals as goal

pub loop-init : goal.loop-init
loop-init g c =
    let store = g.S.RowStore in
    record {
      buffer = c.requires.buffer;
      within = omega (arith, c.requires.none);
      serves =
          serves_none store.is_clean store.stands_for store.may_leave store.leaves_sets _ _ _ _ _ c.requires.places
          c.requires.none c.requires.quiet;
    }

pub returns-then-peers-limits-clause-did : goal.returns-then-peers-limits-clause-did
returns-then-peers-limits-clause-did g c =
    let store = g.S.RowStore in
    served store.is_clean store.stands_for store.may_leave store.leaves_sets _ _ _ _ _ _ c.loop.peers _ _ _
    c.loop.invariant.serves c.loop.invariant.within refl
    (λ quiet. omega (arith, c.loop.invariant.within, c.if-peers-limits.true))

pub returns-then-not-go_round-clause-did : goal.returns-then-not-go_round-clause-did
returns-then-not-go_round-clause-did g c =
    let store = g.S.RowStore in
    rw c.fail.ensures.result
    (broken store.is_clean store.stands_for store.may_leave store.leaves_sets _ _ _ _ _ _ c.go_round.new.peers _ _ _
    input.Read
    (c.go_round.ensures.goes_on _ _ _ c.loop.invariant.serves)
    (omega (arith, c.go_round.ensures.count, c.if-peers-limits.false)) c.fail.ensures.told.all)

pub returns-clause-did : goal.returns-clause-did
returns-clause-did g c =
    let store = g.S.RowStore in
    rw c.fail-2.ensures.result
    (broken store.is_clean store.stands_for store.may_leave store.leaves_sets _ _ _ _ _ _ c.loop.peers _ _ _
    input.Read c.loop.invariant.serves
    c.loop.invariant.within c.fail-2.ensures.told.all)
