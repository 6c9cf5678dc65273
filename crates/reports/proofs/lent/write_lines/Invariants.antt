-- The loops of `write_lines` (writes the line of each lent clip, in their order).
use Rattle.std.proofs.Common.{take}
use Rattle.std.specs.List.{flat_map}
use Rattle.std.specs.Io.KnownBytes.{Appends}
use Rattle.report_texts.specs.Lent.{lent_line}
use Rattle.reports.proofs.lent.write_lines.Given as goal

-- the lines that were written so far
abbrev pub invariant-loop-grant : goal.invariant-loop-grant
invariant-loop-grant g l =
    Appends (g.W.Write.contents l.initial.output) (g.W.Write.contents l.output)
    (flat_map lent_line (take l.grant-index l.grants))
