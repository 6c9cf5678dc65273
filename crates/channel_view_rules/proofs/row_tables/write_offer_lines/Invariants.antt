-- The loops of `write_offer_lines` (writes the line of each offer of these rows, in their order).
use Rattle.std.proofs.Common.{take}
use Rattle.std.specs.List.{flat_map}
use Rattle.std.specs.Io.KnownBytes.{Appends}
use Rattle.report_texts.specs.Offers.{offer_line}
use Rattle.channel_view_rules.proofs.row_tables.write_offer_lines.Given as goal

-- the lines that were written so far
abbrev pub invariant-loop-row : goal.invariant-loop-row
invariant-loop-row g l =
    Appends (g.W.Write.contents l.initial.output) (g.W.Write.contents l.output)
    (flat_map (λ r. offer_line r.1) (take l.row-index l.offers))
