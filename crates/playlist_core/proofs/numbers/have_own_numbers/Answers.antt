-- `have_own_numbers`: whether each item has a number of its own, from 1 to the largest.
use Rattle.std.proofs.Common.{◌∙◌, sym, ap, refl, arith, true, false, length-set}
use Rattle.std.proofs.lemmas.Bool.{false≢true}
use Rattle.std.proofs.lemmas.List.{get_or-replicate}
use Rattle.playlist_core.specs.declared.item.Item.{Item}
use Rattle.playlist_core.specs.declared.numbers.TheConstants.{NUMBERS}
use Rattle.playlist_core.proofs.NumberLemmas.{marked_more}
use Rattle.playlist_core.proofs.RowLemmas.{numbered_more, numbered_here}
use Rattle.playlist_core.proofs.numbers.have_own_numbers.Goals as goal
use Rattle.playlist_core.proofs.numbers.have_own_numbers.Goals.{then-number-eq0-via-then-number-eq0}
use Rattle.playlist_core.proofs.numbers.have_own_numbers.Goals.{then-number-eq0-via-else-number-eq0+then-number-ge-NUMBERS}
use Rattle.playlist_core.proofs.numbers.have_own_numbers.Goals.{then-number-eq0-via-else-number-eq0+else-number-ge-NUMBERS+then-taken-number}

pub loop-item-init : goal.loop-item-init
loop-item-init c = record { size = refl; marks = λ n lt. get_or-replicate NUMBERS n false false lt; numbered = tt }

pub returns-then-number-eq0 : goal.returns-then-number-eq0
returns-then-number-eq0 c = (
  λ no. absurd (cc),
  λ numbered.
      let here =
      numbered_here c.args.items.now c.loop-item.item-index c.item-item.result c.from-number.result
      (c.from-number.ensures ∙ ap (λ (i : Item). i.n) c.item-item.is) (omega arith) numbered in
      elim c.then-number-eq0.branch [
        | then-number-eq0-via-then-number-eq0 w ↦ absurd (omega (arith, here.0))
        | then-number-eq0-via-else-number-eq0+then-number-ge-NUMBERS w ↦ absurd (omega (arith, here.1))
        | then-number-eq0-via-else-number-eq0+else-number-ge-NUMBERS+then-taken-number w ↦ let marked =
            c.loop-item.invariant.marks c.from-number.result w.if-number-ge-NUMBERS.false in
            absurd (false≢true (sym here.2 ∙ sym marked ∙ w.if-taken-number.true))
      ],
)

pub loop-item-preserved : goal.loop-item-preserved
loop-item-preserved c = record {
  size = length-set c.loop-item.taken c.from-number.result true ∙ c.loop-item.invariant.size;
  marks =
      marked_more NUMBERS c.loop-item.taken c.args.items.now c.loop-item.item-index c.item-item.result
      c.from-number.result (c.from-number.ensures ∙ ap (λ (i : Item). i.n) c.item-item.is) c.loop-item.invariant.size
      (omega arith) (omega arith) c.loop-item.invariant.marks;
  numbered =
      numbered_more c.args.items.now c.loop-item.item-index c.item-item.result c.from-number.result
      (c.from-number.ensures ∙ ap (λ (i : Item). i.n) c.item-item.is) (omega arith) c.loop-item.invariant.numbered
      (omega arith) (omega arith)
      (sym (c.loop-item.invariant.marks c.from-number.result (omega arith)) ∙ c.if-taken-number.false);
}
