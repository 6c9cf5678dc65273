-- The loops of `are_same` (whether two lists of rows are the same).
use Rattle.std.proofs.Common.{◌≡◌, drop}
use Rattle.asrun_match.specs.Batches.{same_rows}
use Rattle.asrun_match.proofs.day.are_same.Given as goal

-- what is left decides
abbrev pub invariant-loop-k : goal.invariant-loop-k
invariant-loop-k l = same_rows (drop l.k l.one) (drop l.k l.other) ≡ same_rows l.one l.other
