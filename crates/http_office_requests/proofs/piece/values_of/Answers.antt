-- `values_of`: the values of the fields of this name.
use Rattle.std.proofs.Common.{arith, subst}
use Rattle.std.proofs.lemmas.Bool.Decides.{same_from_decides}
use Rattle.std.proofs.lemmas.Slice.Eq.{bytes_eq-Decides}
use Rattle.http_office_requests.specs.FoundPiece.{FoundSoFar}
use Rattle.http_office_requests.proofs.FieldLemmas.{named_at, named_end, found_first, found_all}
use Rattle.http_office_requests.proofs.piece.values_of.Goals.{then-eq_ignore_ascii_case+in_default}
use Rattle.http_office_requests.proofs.piece.values_of.Goals.{else-eq_ignore_ascii_case}
use Rattle.http_office_requests.proofs.piece.values_of.Goals as goal

pub returns-in-One : goal.returns-in-One
returns-in-One c =
    let test =
    rw (c.of.ensures)
    at (same_from_decides c.eq_ignore_ascii_case.result _ c.eq_ignore_ascii_case.ensures.test
    (bytes_eq-Decides _ _)) in
    let next =
    named_at c.args.head.now c.args.name.now c.args.fields.now c.loop-field.field-index _
    c.eq_ignore_ascii_case.result (omega arith) test in
    let here = rw (c.if-eq_ignore_ascii_case.true) at next in
    let all = rw (c.in-One.is, here) at c.loop-field.invariant in
    (_, _, _, all)

pub loop-field-preserved : goal.loop-field-preserved
loop-field-preserved c =
    let test =
    rw (c.of.ensures)
    at (same_from_decides c.eq_ignore_ascii_case.result _ c.eq_ignore_ascii_case.ensures.test
    (bytes_eq-Decides _ _)) in
    let next =
    named_at c.args.head.now c.args.name.now c.args.fields.now c.loop-field.field-index _
    c.eq_ignore_ascii_case.result (omega arith) test in
    elim c.if-eq_ignore_ascii_case.branch [
      | then-eq_ignore_ascii_case+in_default w ↦
          let here = rw (w.if-eq_ignore_ascii_case.true) at next in
          rw w.found-is
          (found_first _ _ _ c.loop-field.found w.of-then-eq_ignore_ascii_case.result
          (subst (FoundSoFar _ c.loop-field.found) here c.loop-field.invariant) w.in_default.not-One
          w.of-then-eq_ignore_ascii_case.ensures)
      | else-eq_ignore_ascii_case w ↦
          let here = rw (w.if-eq_ignore_ascii_case.false) at next in
          rw w.found-is (subst (FoundSoFar _ c.loop-field.found) here c.loop-field.invariant)
    ]

pub returns : goal.returns
returns c =
    found_all _ c.loop-field.found
    (subst (FoundSoFar _ c.loop-field.found)
    (named_end c.args.head.now c.args.name.now c.args.fields.now c.loop-field.field-index c.loop-field-test.false)
    c.loop-field.invariant)
