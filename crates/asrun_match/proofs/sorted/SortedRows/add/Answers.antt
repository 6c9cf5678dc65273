-- `SortedRows::add`: adds a row, unless one of its frames was aired already: the first such.
use Rattle.std.proofs.Common.{◌∷◌, None, sym, subst}
use Rattle.std.specs.Prelude.{IsPermutation}
use Rattle.std.proofs.lemmas.List.Sorted.{IsPermutation-insert}
use Rattle.asrun_match.specs.Aired.{Rows, FitsIn}
use Rattle.asrun_match.proofs.AiringLemmas.{inserted, said_of, apart_with}
use Rattle.asrun_match.proofs.sorted.SortedRows.add.Goals as goal

pub invariant_of-self-2 : goal.invariant_of-self-2
invariant_of-self-2 c =
    let day : Rows = record { frames = c.self.inside.frames; rows = c.self.inside.rows.items } in
    let row = c.args.row in
    let fits : FitsIn day.frames row = subst (λ (d : Rows). FitsIn d.frames row) (sym c.self.view_is) c.requires in
    let free =
    said_of day row c.deref.result.now c.first_taken.result None c.deref.ensures.value c.in_default.is
    c.first_taken.ensures c.self.invariant fits in
    apart_with day row c.insert.new.self.items c.self.invariant fits free
    (inserted row day.rows c.deref-2.result.now c.insert.new.self.items c.place_for-place.result c.deref-2.ensures.value
    c.place_for-place.ensures.value c.in_ok-insert.ensures.items)

pub returns-clause-rows : goal.returns-clause-rows
returns-clause-rows c = λ done.
    let row = c.args.row in
    subst (λ (d : Rows). IsPermutation (row ∷ d.rows) c.insert.new.self.items) c.self.view_is
    (subst (IsPermutation (row ∷ c.self.inside.rows.items)) (sym c.in_ok-insert.ensures.items)
    (IsPermutation-insert c.self.inside.rows.items c.place_for-place.result row))
