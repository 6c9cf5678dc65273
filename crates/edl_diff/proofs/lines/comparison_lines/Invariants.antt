-- The loops of `comparison_lines` (the lines of the runs of all tracks, one track behind the other).
use Rattle.std.proofs.Common.{take}
use Rattle.edl.specs.EntryShown.{entries_of}
use Rattle.edl_diff.specs.Lines.{AreCompared}
use Rattle.edl_diff.specs.Track.{all_tracks}
use Rattle.edl_diff.proofs.lines.comparison_lines.Given as goal

-- the lines of the tracks so far
abbrev pub invariant-loop-track : goal.invariant-loop-track
invariant-loop-track l =
    AreCompared l.rate (entries_of l.one) (entries_of l.other) (take l.track-index all_tracks) l.out.items
