-- `read_lines`: what all lines of the text say.
use Rattle.std.proofs.Common.{◌≡◌, ◌++◌, ◌∷◌, [], ◌∙◌, ◌==◌, false, length, arith, sym, inl, inr}
use Rattle.std.proofs.lemmas.Result.{err_from_is_err_and}
use Rattle.edl.proofs.TextLemmas.{above_zero, after_line_shorter}
use Rattle.edl.proofs.ProgressLemmas.{finish, step, stop, lines_next, no_line}
use Rattle.edl.proofs.read.read_lines.Goals as goal

pub returns-in_err-take_line-clause-err : goal.returns-in_err-take_line-clause-err
returns-in_err-take_line-clause-err c =
    let some : (length c.loop-rest.rest.now == 0) ≡ false = sym c.is_empty.ensures ∙ c.loop-rest-test.true in
    let lines =
    lines_next c.loop-rest.rest.now c.split_line.result.0.now c.split_line.result.1.now c.line_text.result.now some
    c.split_line.ensures.line c.split_line.ensures.rest c.line_text.ensures in
    let p = err_from_is_err_and c.from_residual.result c.from_residual.ensures.1 in
    let h = rw lines at c.loop-rest.invariant.3.1 in
    rw (p.1, p.2) (elim c.in_err-take_line.ensures.err [
      | inl memory ↦ inl memory
      | inr fault ↦ inr (stop _ _ _ _ _ _ _ _ _ _ _ h fault)
    ])

pub loop-rest-preserved : goal.loop-rest-preserved
loop-rest-preserved c =
    let some : (length c.loop-rest.rest.now == 0) ≡ false = sym c.is_empty.ensures ∙ c.loop-rest-test.true in
    let lines =
    lines_next c.loop-rest.rest.now c.split_line.result.0.now c.split_line.result.1.now c.line_text.result.now some
    c.split_line.ensures.line c.split_line.ensures.rest c.line_text.ensures in
    let h = rw lines at c.loop-rest.invariant.3.1 in
    let takes = c.in_ok-take_line.ensures in
    let next =
    step _ _ _ _ _ _ _ _ _ _ _ _ _ h
    (record { no_fault = takes.no_fault; counted_on = takes.counted; title_on = takes.title; added = takes.added })
    in
    let shorter = after_line_shorter c.loop-rest.rest.now (above_zero c.loop-rest.rest.now some) in (
      c.in_ok-take_line.ensures.in_day c.loop-rest.invariant.0,
      c.in_ok-take_line.ensures.few,
      rw (c.in_ok-take_line.ensures.number, c.split_line.ensures.rest) (omega (arith, shorter)),
      (c.loop-rest.invariant.3.0 ++ c.line_text.result.now ∷ [], rw c.in_ok-take_line.ensures.number next),
    )

pub returns-clause-no_fault : goal.returns-clause-no_fault
returns-clause-no_fault c =
    let h =
    rw (no_line c.loop-rest.rest.now (sym c.is_empty.ensures ∙ c.loop-rest-test.false)) at c.loop-rest.invariant.3.1
    in
    (finish _ _ _ _ _ _ _ _ h).no_fault

pub returns-clause-title : goal.returns-clause-title
returns-clause-title c =
    let h =
    rw (no_line c.loop-rest.rest.now (sym c.is_empty.ensures ∙ c.loop-rest-test.false)) at c.loop-rest.invariant.3.1
    in
    (finish _ _ _ _ _ _ _ _ h).title_is

pub returns-clause-events : goal.returns-clause-events
returns-clause-events c =
    let h =
    rw (no_line c.loop-rest.rest.now (sym c.is_empty.ensures ∙ c.loop-rest-test.false)) at c.loop-rest.invariant.3.1
    in
    (finish _ _ _ _ _ _ _ _ h).events_are
