-- `decimal_number`: the number that 1 to `most` digits write, leading zeros included, or `None` for any other text.
use Rattle.std.proofs.Common.{arith, sym, ◌∙◌, eq-eqb}
use Rattle.timecode.proofs.DecimalLemmas.{number_is, number_below}
use Rattle.timecode.proofs.decimal.decimal_number.Goals as goal

pub returns-clause-value : goal.returns-clause-value
returns-clause-value c =
    number_is c.args.most c.args.text.now c.loop-b.n c.loop-b.b-index
    (λ e. let full = eq-eqb _ 0 e in let empty = sym c.is_empty.ensures ∙ c.if-is_empty.false in cc) (omega arith)
    (sym c.is_digits.ensures ∙ c.if-not-is_digits.false) c.loop-b.invariant.value c.loop-b-test.false

pub returns-clause-below : goal.returns-clause-below
returns-clause-below c = number_below c.args.most c.loop-b.n c.loop-b.b-index (omega arith) c.loop-b.invariant.bound
