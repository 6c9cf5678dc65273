-- The loops of `push_runs` (the line of each run of a track behind the others).
use Rattle.std.proofs.Common.{◌≡◌, ◌++◌, take}
use Rattle.edl_diff.specs.Lines.{track_lines}
use Rattle.edl_diff.proofs.lines.push_runs.Given as goal

abbrev pub invariant-loop-run : goal.invariant-loop-run
invariant-loop-run l = l.out.items ≡ l.fn.out.items ++ track_lines l.rate l.track (take l.run-index l.runs)
