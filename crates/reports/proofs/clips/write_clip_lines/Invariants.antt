-- The loops of `write_clip_lines` (writes the line of each clip of a channel of this rate, in their order).
use Rattle.std.proofs.Common.{take}
use Rattle.std.specs.List.{flat_map}
use Rattle.std.specs.Io.KnownBytes.{Appends}
use Rattle.report_texts.specs.Clips.{clip_line}
use Rattle.reports.proofs.clips.write_clip_lines.Given as goal

-- the lines that were written so far
abbrev pub invariant-loop-clip : goal.invariant-loop-clip
invariant-loop-clip g l =
    Appends (g.W.Write.contents l.initial.output) (g.W.Write.contents l.output)
    (flat_map (clip_line l.rate) (take l.clip-index l.clips))
