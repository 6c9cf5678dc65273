-- The loops of `push_each` (adds the frames of a stretch, one by one).
use Rattle.std.proofs.Common.{◌≡◌, ◌-◌, ◌++◌}
use Rattle.edl_diff.specs.Layers.{cell_in, event_shown}
use Rattle.edl_diff.specs.Runs.{LieInRow, spelled}
use Rattle.edl_diff.specs.Status.{from_frame, status_of}
use Rattle.edl_diff.proofs.comparing.push_each.Given as goal

-- the frames so far were added
abbrev pub invariant-loop-frame : goal.invariant-loop-frame
invariant-loop-frame l = record {
  list : spelled l.runs.items
      ≡ spelled l.fn.runs.items
      ++ from_frame (λ f. status_of (cell_in l.day (event_shown l.one) f) (cell_in l.day (event_shown l.other) f)) l.at
      (l.frame - l.at);
  row : LieInRow 0 l.runs.items;
}
