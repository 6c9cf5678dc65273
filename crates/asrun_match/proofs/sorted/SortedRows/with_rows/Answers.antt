-- `SortedRows::with_rows`: the day's rows and these, in one pass over both.
use Rattle.std.proofs.Common.{◌≡◌, ◌++◌, None, is_some, ap, subst}
use Rattle.std.specs.Prelude.{IfSome, IsPermutation}
use Rattle.std.proofs.lemmas.List.Sorted.{IsPermutation-append_right, IsPermutation-trans}
use Rattle.asrun_match.specs.Aired.{Rows, first_twice, rows_picture}
use Rattle.asrun_match.proofs.sorted.SortedRows.with_rows.Goals as goal

pub joined-requires-clause-free : goal.joined-requires-clause-free
joined-requires-clause-free c =
    subst (λ o. IfSome o (λ (batch : Rows). first_twice (rows_picture c.args.self.now) batch.rows ≡ None)) c.in-Some.is
    c.in_ok-batch.ensures.beside

pub returns-in-Some : goal.returns-in-Some
returns-in-Some c =
    let now = c.args.self.now in
    let rows = c.args.rows.now in
    let batch = c.in-Some.batch.rows in
    let moved : IsPermutation rows batch =
    subst (λ o. IfSome o (λ (batch : Rows). IsPermutation rows batch.rows)) c.in-Some.is c.in_ok-batch.ensures.rows
    in (
      c.in_ok-batch.ensures.free.0 (ap is_some c.in-Some.is),
      IsPermutation-trans (now.rows ++ rows) (now.rows ++ batch) c.in_ok-joined.field-0.rows
          (IsPermutation-append_right now.rows rows batch moved) c.in_ok-joined.ensures.rows,
      c.in_ok-joined.ensures.frames,
    )
