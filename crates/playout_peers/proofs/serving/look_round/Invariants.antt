-- The loops of `look_round` (waits until something comes, where nobody has a turn, and else looks for what has come).
use Rattle.std.proofs.Common.{◌≡◌}
use Rattle.playout_peers.specs.Wire.{LeavesAll}
use Rattle.playout_peers.proofs.serving.look_round.Given as goal

abbrev pub invariant-loop : goal.invariant-loop
invariant-loop g l = record {
  accepted : g.D.Door.accepted l.door ≡ g.D.Door.accepted l.fn.door;
  wires : LeavesAll (g.D.Door.wire l.fn.door) (g.D.Door.wire l.door);
}
