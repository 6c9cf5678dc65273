-- The loops of `rows_of` (the rows of these batches, one after another).
use Rattle.std.proofs.Common.{◌≡◌, ◌++◌, drop}
use Rattle.asrun_match.specs.Aired.{all_rows}
use Rattle.asrun_match.proofs.day.rows_of.Given as goal

-- the rows so far, and those of the batches that are left
abbrev pub invariant-loop-batch : goal.invariant-loop-batch
invariant-loop-batch l = l.rows.items ++ all_rows (drop l.batch-index l.batches) ≡ all_rows l.batches
