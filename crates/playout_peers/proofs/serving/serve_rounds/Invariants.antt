-- The loops of `serve_rounds` (serves the connections that are let in, until so many have ended).
use Rattle.std.proofs.Common.{◌≤◌, ◌<◌, length}
use Rattle.playout_lists.specs.Telling.{has_told}
use Rattle.playout_peers.specs.Serving.{Serving}
use Rattle.playout_peers.proofs.serving.serve_rounds.Given as goal

abbrev pub invariant-loop : goal.invariant-loop
invariant-loop g l =
    let store = g.S.RowStore in
    record {
      buffer : 0 < length l.means.buffer.items;
      within : l.peers.ended ≤ l.fn.limits.turns;
      serves : Serving store.is_clean store.stands_for store.may_leave store.leaves_sets l.fn.store l.store
          (g.D.Door.wire l.fn.door) (g.D.Door.wire l.door)
          (g.D.Door.accepted l.door) l.peers (has_told g.E.Write.contents l.fn.faults)
          (has_told g.E.Write.contents l.faults);
    }
