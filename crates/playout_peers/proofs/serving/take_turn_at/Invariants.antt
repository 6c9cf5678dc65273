-- The loops of `take_turn_at` (gives the connection at a place its turn: it is read, one message is answered).
use Rattle.std.proofs.Common.{◌≡◌, length}
use Rattle.playout_lists.specs.Telling.{has_told}
use Rattle.playout_peers.specs.Serving.{GoesOn}
use Rattle.playout_peers.proofs.serving.take_turn_at.Given as goal

abbrev pub invariant-loop : goal.invariant-loop
invariant-loop g l =
    let store = g.S.RowStore in
    record {
      goes_on : GoesOn store.is_clean store.stands_for store.may_leave store.leaves_sets l.fn.store l.store
          (g.D.Door.wire l.fn.door) (g.D.Door.wire l.door)
          (g.D.Door.accepted l.fn.door) (g.D.Door.accepted l.door) l.fn.peers l.peers
          (has_told g.E.Write.contents l.fn.faults) (has_told g.E.Write.contents l.faults);
      buffer : length l.means.buffer.items ≡ length l.fn.means.buffer.items;
      count : l.peers.ended ≡ l.fn.peers.ended;
    }
