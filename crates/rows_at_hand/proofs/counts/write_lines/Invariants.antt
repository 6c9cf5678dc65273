-- The loop of `write_lines` (the line of each of these days).
use Rattle.std.proofs.Common.{take}
use Rattle.std.specs.List.{flat_map}
use Rattle.std.specs.Io.KnownBytes.{Appends}
use Rattle.report_texts.specs.Days.{counts_line}
use Rattle.rows_at_hand.proofs.counts.write_lines.Given as goal

-- the lines that were written so far
abbrev pub invariant-loop-day : goal.invariant-loop-day
invariant-loop-day g l =
    Appends (g.W.Write.contents l.initial.output) (g.W.Write.contents l.output)
    (flat_map counts_line (take l.day-index l.counts))
