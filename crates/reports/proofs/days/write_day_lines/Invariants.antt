-- The loops of `write_day_lines` (the line of each day, in their order).
use Rattle.std.proofs.Common.{take}
use Rattle.std.specs.List.{flat_map}
use Rattle.std.specs.Io.KnownBytes.{Appends}
use Rattle.report_texts.specs.Days.{day_line}
use Rattle.reports.proofs.days.write_day_lines.Given as goal

-- the lines that were written so far
abbrev pub invariant-loop-day : goal.invariant-loop-day
invariant-loop-day g l =
    Appends (g.W.Write.contents l.initial.output) (g.W.Write.contents l.output)
    (flat_map (day_line l.aired) (take l.day-index l.days))
