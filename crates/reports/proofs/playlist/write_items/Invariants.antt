-- The loops of `write_items` (writes the line of each item, in their order).
use Rattle.std.proofs.Common.{take}
use Rattle.std.specs.List.{flat_map}
use Rattle.std.specs.Io.KnownBytes.{Appends}
use Rattle.report_texts.specs.Playlist.{item_line}
use Rattle.reports.proofs.playlist.write_items.Given as goal

-- the lines that were written so far
abbrev pub invariant-loop-item : goal.invariant-loop-item
invariant-loop-item g l =
    Appends (g.W.Write.contents l.initial.output) (g.W.Write.contents l.output)
    (flat_map (item_line l.plan) (take l.item-index l.items))
