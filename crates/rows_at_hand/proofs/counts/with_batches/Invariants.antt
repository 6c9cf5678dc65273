-- The loop of `with_batches` (tells so many batches of the day of this number).
use Rattle.std.proofs.Common.{◌≡◌, map, take}
use Rattle.rows_at_hand.specs.Counted.{with_batches}
use Rattle.rows_at_hand.proofs.counts.with_batches.Given as goal

-- what is told so far
abbrev pub invariant-loop-day : goal.invariant-loop-day
invariant-loop-day l = l.told.items ≡ map (with_batches l.number l.batches) (take l.day-index l.counts)
