-- The loops of `frames_with` (how many frames the runs of a status have).
use Rattle.std.proofs.Common.{◌≡◌, ◌≤◌, ◌*◌, take}
use Rattle.report_texts.specs.Asrun.{frames_with}
use Rattle.reports.proofs.asrun.frames_with.Given as goal

-- the sum of those so far, each below 2 ^ 32
abbrev pub invariant-loop-run : goal.invariant-loop-run
invariant-loop-run l = record {
  sum : l.frames ≡ frames_with l.status (take l.run-index l.runs);
  small : l.frames ≤ 4294967295 * l.run-index;
}
