-- The loops of `fields_of` (the fields of a line that doesn't begin with a blank; none where there are more than ten).
use Rattle.std.proofs.Common.{length}
use Rattle.edl.proofs.TextLemmas.{FieldsTaken}
use Rattle.edl.proofs.text.fields_of.Given as goal

abbrev pub invariant-loop-rest : goal.invariant-loop-rest
invariant-loop-rest l = FieldsTaken l.fn.line l.items l.count l.rest

abbrev pub decreases-loop-rest : goal.decreases-loop-rest
decreases-loop-rest l = length l.rest
