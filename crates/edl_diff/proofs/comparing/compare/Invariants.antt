-- The loops of `compare` (the runs of a track of two lists, in the order of their positions: of all frames of the day).
use Rattle.std.proofs.Common.{◌+◌, length}
use Rattle.edl.specs.EntryShown.{entries_of}
use Rattle.edl_diff.proofs.SweepLemmas.{IsSwept}
use Rattle.edl_diff.proofs.comparing.compare.Given as goal

abbrev pub invariant-loop-stretch : goal.invariant-loop-stretch
invariant-loop-stretch l =
    IsSwept l.day l.fn.track (entries_of l.one) (entries_of l.other) l.initial.ones l.initial.others l.ones l.others
    l.runs.items l.at

abbrev pub decreases-loop-stretch : goal.decreases-loop-stretch
decreases-loop-stretch l = length l.ones + length l.others
