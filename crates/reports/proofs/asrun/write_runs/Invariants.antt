-- The loops of `write_runs` (writes the line of each run, in their order).
use Rattle.std.proofs.Common.{take}
use Rattle.std.specs.List.{flat_map}
use Rattle.std.specs.Io.KnownBytes.{Appends}
use Rattle.report_texts.specs.Asrun.{run_line}
use Rattle.reports.proofs.asrun.write_runs.Given as goal

-- the lines that were written so far
abbrev pub invariant-loop-run : goal.invariant-loop-run
invariant-loop-run g l =
    Appends (g.W.Write.contents l.initial.output) (g.W.Write.contents l.output)
    (flat_map (run_line l.plan) (take l.run-index l.runs))
