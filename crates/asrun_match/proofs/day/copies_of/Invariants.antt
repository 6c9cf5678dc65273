-- The loops of `copies_of` (copies of these batches).
use Rattle.std.proofs.Common.{◌≡◌, take}
use Rattle.asrun_match.proofs.day.copies_of.Given as goal

-- the copies are those of the batches so far
abbrev pub invariant-loop-batch : goal.invariant-loop-batch
invariant-loop-batch l = l.copies.items ≡ take l.batch-index l.batches
