-- The loops of `read_input` (all of the input, where it has at most so many bytes; else `TooLarge`).
use Rattle.std.proofs.Common.{◌+◌, ◌-◌, vec_len}
use Rattle.std.specs.Io.KnownBytes.{Consumes}
use Rattle.playout_lists.proofs.streams.read_input.Given as goal

-- what was read so far
abbrev pub invariant-loop-input : goal.invariant-loop-input
invariant-loop-input g l = Consumes (g.R.Read.remaining l.initial.input) (g.R.Read.remaining l.input) l.read.items

abbrev pub decreases-loop-input : goal.decreases-loop-input
decreases-loop-input g l = l.limit + 1 - vec_len l.read
