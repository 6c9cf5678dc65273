-- The loops of `write_grant_lines` (writes the line of each clip that is lent to the channel, in their order).
use Rattle.std.proofs.Common.{take}
use Rattle.std.specs.List.{flat_map}
use Rattle.std.specs.Io.KnownBytes.{Appends}
use Rattle.channel_view_model.specs.Seen.{grant_lines}
use Rattle.channel_view.proofs.lending.write_grant_lines.Given as goal

-- the lines that were written so far
abbrev pub invariant-loop-row : goal.invariant-loop-row
invariant-loop-row g l =
    Appends (g.W.Write.contents l.initial.output) (g.W.Write.contents l.output)
    (flat_map (grant_lines l.channel) (take l.row-index l.offers))
