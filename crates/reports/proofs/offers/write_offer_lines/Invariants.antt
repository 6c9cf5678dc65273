-- The loops of `write_offer_lines` (writes the lines of these offers, in their order).
use Rattle.std.proofs.Common.{take}
use Rattle.std.specs.List.{flat_map}
use Rattle.std.specs.Io.KnownBytes.{Appends}
use Rattle.report_texts.specs.Offers.{offer_line}
use Rattle.reports.proofs.offers.write_offer_lines.Given as goal

-- the lines that were written so far
abbrev pub invariant-loop-offer : goal.invariant-loop-offer
invariant-loop-offer g l =
    Appends (g.W.Write.contents l.initial.output) (g.W.Write.contents l.output)
    (flat_map offer_line (take l.offer-index l.offers))
