-- `SortedRows::sorted_beside`: these rows in the order of their positions.
use Rattle.std.proofs.Common.{◌≡◌, ◌≤◌, List, [], None, refl, sym, ◌∙◌, ap, subst, arith}
use Rattle.std.specs.Prelude.{All, IsPermutation}
use Rattle.std.proofs.lemmas.Bool.{false≢true}
use Rattle.std.proofs.lemmas.List.Elements.{recursion_from_All}
use Rattle.std.proofs.lemmas.List.Sorted.{IsPermutation-sym}
use Rattle.playlist_core.specs.Picture.{picture_of}
use Rattle.playlist_core.specs.Order.{AreApart}
use Rattle.asrun_match.specs.declared.aired.AiredRow.{AiredRow}
use Rattle.asrun_match.specs.Aired.{Rows, FitsIn, aired, first_twice, rows_picture}
use Rattle.asrun_match.proofs.KeptLemmas.{Taken, taken}
use Rattle.asrun_match.proofs.TwiceLemmas.{fit_of, fit_of_apart, none_alone, none_moved}
use Rattle.asrun_match.proofs.sorted.SortedRows.sorted_beside.Goals as goal

-- what is so of a day's rows
day_apart : (inside now : Rows) → inside ≡ now → AreApart aired 0 inside.frames inside.rows
    → AreApart aired 0 now.frames now.rows
day_apart inside now same apart = subst (λ (d : Rows). AreApart aired 0 d.frames d.rows) same apart

-- rows that air none again lie apart in some order
some_order : (now : Rows) (rows : List AiredRow) → AreApart aired 0 now.frames now.rows → All (FitsIn now.frames) rows
    → first_twice (rows_picture now) rows ≡ None → Taken now.frames [] rows
some_order now rows apart fit none =
    let each = recursion_from_All (FitsIn now.frames) rows fit in
    let start : 0 ≤ now.frames = omega arith in
    taken now.frames [] rows start each (none_alone now.frames now.rows rows apart (fit_of now.frames rows each) none)

pub returns-in_default-clause-free : goal.returns-in_default-clause-free
returns-in_default-clause-free c = (
  λ no. absurd (false≢true no),
  λ none.
      let now = c.args.self.now in
      let inside : Rows = record { frames = c.self.inside.frames; rows = c.self.inside.rows.items } in
      let order =
      some_order now c.args.rows.now (day_apart inside now c.self.view_is c.self.invariant) c.requires none in
      absurd (c.in_default.ensures.none order.later
      (subst (λ xs. IsPermutation xs order.later) (sym c.in_ok-copy.ensures.items) order.same)
      (subst (λ (d : Rows). AreApart aired 0 d.frames order.later) (sym c.self.view_is) order.apart)),
)

-- What the test of the batch's rows in the order of their positions says of them.
record Decided (now : Rows) (rows batch : List AiredRow) (passes : Type 0) : Type 0 where
  pub to : passes → first_twice (rows_picture now) batch ≡ None
  pub from : first_twice (rows_picture now) batch ≡ None → passes
  pub back : first_twice (rows_picture now) batch ≡ None → first_twice (rows_picture now) rows ≡ None
  pub on : first_twice (rows_picture now) rows ≡ None → first_twice (rows_picture now) batch ≡ None

decided : (inside now batch : Rows) (copy rows read there : List AiredRow) (passes : Type 0) → inside ≡ now
    → AreApart aired 0 inside.frames inside.rows → All (FitsIn now.frames) rows → copy ≡ rows
    → batch.frames ≡ inside.frames → IsPermutation copy batch.rows → AreApart aired 0 batch.frames batch.rows
    → there ≡ inside.rows → read ≡ batch.rows
    → ((n : _) → AreApart aired 0 n there → AreApart aired 0 n read
    → (passes → first_twice (picture_of aired n there) read ≡ None)
    × (first_twice (picture_of aired n there) read ≡ None → passes))
    → Decided now rows batch.rows passes
decided inside now batch copy rows read there passes same apart fit copied frames moved apart_batch there_is read_is
    said =
    let frames_now : inside.frames ≡ now.frames = ap (λ (d : Rows). d.frames) same in
    let apart_now = day_apart inside now same apart in
    let apart_inside : AreApart aired 0 inside.frames batch.rows =
    subst (λ n. AreApart aired 0 n batch.rows) frames apart_batch in
    let apart_rows : AreApart aired 0 now.frames batch.rows =
    subst (λ n. AreApart aired 0 n batch.rows) frames_now apart_inside in
    let moved_rows : IsPermutation rows batch.rows = subst (λ xs. IsPermutation xs batch.rows) copied moved in
    let fit_rows = fit_of now.frames rows (recursion_from_All (FitsIn now.frames) rows fit) in
    let fit_batch = fit_of_apart 0 now.frames batch.rows apart_rows in
    let is : first_twice (picture_of aired inside.frames there) read ≡ first_twice (rows_picture now) batch.rows =
    (λ i. first_twice (picture_of aired inside.frames (there_is i)) (read_is i))
    ∙ ap (λ (d : Rows). first_twice (rows_picture d) batch.rows) same in
    let both =
    said inside.frames (subst (AreApart aired 0 inside.frames) (sym there_is) apart)
    (subst (AreApart aired 0 inside.frames) (sym read_is) apart_inside) in
    record {
      to = λ passes. sym is ∙ both.0 passes;
      from = λ none. both.1 (is ∙ none);
      back =
          none_moved now.frames now.rows batch.rows rows apart_now fit_batch fit_rows
          (IsPermutation-sym rows batch.rows moved_rows);
      on = none_moved now.frames now.rows rows batch.rows apart_now fit_rows fit_batch moved_rows;
    }

pub returns-then-lie_beside-clause-beside : goal.returns-then-lie_beside-clause-beside
returns-then-lie_beside-clause-beside c =
    let inside : Rows = record { frames = c.self.inside.frames; rows = c.self.inside.rows.items } in
    let all =
    decided inside c.args.self.now c.in-Some.batch c.in_ok-copy.copy.items c.args.rows.now c.rows.result.now
    c.deref.result.now _ c.self.view_is c.self.invariant c.requires c.in_ok-copy.ensures.items
    c.in-Some.ensures.day.0 c.in-Some.ensures.day.1 c.rows.ensures.apart c.deref.ensures.value c.rows.ensures.rows
    c.lie_beside.ensures in
    all.to c.if-lie_beside.true

pub returns-then-lie_beside-clause-free : goal.returns-then-lie_beside-clause-free
returns-then-lie_beside-clause-free c =
    let inside : Rows = record { frames = c.self.inside.frames; rows = c.self.inside.rows.items } in
    let all =
    decided inside c.args.self.now c.in-Some.batch c.in_ok-copy.copy.items c.args.rows.now c.rows.result.now
    c.deref.result.now _ c.self.view_is c.self.invariant c.requires c.in_ok-copy.ensures.items
    c.in-Some.ensures.day.0 c.in-Some.ensures.day.1 c.rows.ensures.apart c.deref.ensures.value c.rows.ensures.rows
    c.lie_beside.ensures in
    (λ yes. all.back (all.to c.if-lie_beside.true), λ none. refl)

pub returns-else-lie_beside-clause-free : goal.returns-else-lie_beside-clause-free
returns-else-lie_beside-clause-free c =
    let inside : Rows = record { frames = c.self.inside.frames; rows = c.self.inside.rows.items } in
    let all =
    decided inside c.args.self.now c.in-Some.batch c.in_ok-copy.copy.items c.args.rows.now c.rows.result.now
    c.deref.result.now _ c.self.view_is c.self.invariant c.requires c.in_ok-copy.ensures.items
    c.in-Some.ensures.day.0 c.in-Some.ensures.day.1 c.rows.ensures.apart c.deref.ensures.value c.rows.ensures.rows
    c.lie_beside.ensures in
    (λ no. absurd (false≢true no), λ none. absurd (false≢true (sym c.if-lie_beside.false ∙ all.from (all.on none))))
