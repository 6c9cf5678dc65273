-- What was aired of a day, with one batch more, as its rows say it.
use Rattle.std.proofs.Common.{◌≡◌, ℕ, ◌+◌, ◌-◌, List, [], ◌∷◌, ◌++◌, filter, not, length, refl, sym, ap, ap₂, ◌∙◌}
use Rattle.std.proofs.Common.{subst, arith}
use Rattle.std.specs.Prelude.{slice_get, Some}
use Rattle.std.proofs.lemmas.List.{length-append}
use Rattle.sqlite.specs.State.{State}
use Rattle.asrun_match.specs.declared.aired.AiredRow.{AiredRow}
use Rattle.asrun_match.specs.declared.day.DayAsRun.{DayAsRun}
use Rattle.asrun_match.specs.Aired.{Airing}
use Rattle.asrun_match.specs.Batches.{with_batch}
use Rattle.station_tables_records.specs.MadeDays.{Rise, replace_row}
use Rattle.station_tables_records.specs.MadeAirings.{AiredSet, HaveNoHoles, batch_cmp, line_cmp, is_line_of}
use Rattle.station_tables_records.specs.MadeAirings.{airing_of_rows}
use Rattle.station_tables_records.specs.MadeAirings.{airings_made, batches_at}
use Rattle.station_tables_records.proofs.AiredTurns.{add_batch}
use Rattle.station_tables_records.proofs.AddLemmas.{own_lines, other_lines, whole_after}
use Rattle.station_tables_records.proofs.AiringLemmas.{airings_replaced}
use Rattle.station_tables_records.specs.TwoTables.{ChangesBoth, HasBoth}
use Rattle.station_tables_records.specs.TablePairs.{aired_tables}
use Rattle.station_tables_records.proofs.AiredLemmas.{batches_rise, lines_rise}
use Rattle.station_tables_statements.specs.AiredCalls.{airings_in, ComesNext, AddsBatch, GetsBatch, PutsAiring}

last_of : {X : Type 0} (xs : List X) (x : X) → slice_get (xs ++ x ∷ []) (length xs) ≡ Some x
last_of [] x = refl
last_of (y ∷ ys) x = last_of ys x

module _ (c : ℕ) (a : DayAsRun) (set : AiredSet) (gets : GetsBatch c a set) where
  abbrev before : List (List AiredRow)
  before = batches_at c a.day set

  batches_are : a.aired.batches ≡ before ++ gets.rows ∷ []
  batches_are = ap (λ (aired : Airing). aired.batches) gets.aired

  count_is : length a.aired.batches ≡ length before + 1
  count_is = ap length batches_are ∙ length-append before (gets.rows ∷ [])

  pub comes_next : (k : ℕ) → k ≡ length a.aired.batches → ComesNext c a.day k set
  comes_next k is = record { whole = gets.whole; next = is ∙ count_is }

  pub last_rows : (rows : List AiredRow) → slice_get a.aired.batches (length a.aired.batches - 1) ≡ Some rows
      → rows ≡ gets.rows
  last_rows rows last =
      let count = count_is in
      let place : length a.aired.batches - 1 ≡ length before = grind (arith, count) in
      let found : slice_get a.aired.batches (length a.aired.batches - 1) ≡ Some gets.rows =
      ap₂ slice_get batches_are place ∙ last_of before gets.rows in
      let same : Some rows ≡ Some gets.rows = sym last ∙ found in
      cc

-- the rows of the batch were added
pub batch_added : (c n k : ℕ) (rows : List AiredRow) (old new : State) → HasBoth aired_tables old.now
    → ComesNext c n k (airings_in old) → ChangesBoth aired_tables (add_batch c n k rows) old new
    → AddsBatch c n k rows old new
batch_added c n k rows old new has comes made = record {
  tables = made.tables;
  airings =
      λ plan. ap (airings_made plan) made.rows_are
      ∙ airings_replaced c n plan k rows set up_batches up_lines comes.whole comes.next;
  batches = ap (λ (s : AiredSet). s.batches) made.rows_are;
  other_lines =
      ap (λ (s : AiredSet). filter (λ r. not (is_line_of c n k r)) s.lines) made.rows_are
      ∙ other_lines c n k rows set up_batches comes.whole comes.next;
  lines =
      ap (λ (s : AiredSet). filter (is_line_of c n k) s.lines) made.rows_are
      ∙ own_lines c n k rows set up_batches comes.whole comes.next up_lines;
  whole = subst HaveNoHoles (sym made.rows_are) (whole_after c n k rows set up_batches comes.whole comes.next);
  others = made.others;
  sound = made.sound;
  shown = made.shown;
}
  where
    set : AiredSet
    set = airings_in old

    up_batches : Rise batch_cmp set.batches
    up_batches = batches_rise old.now.trees has.first

    up_lines : Rise line_cmp set.lines
    up_lines = lines_rise old.now.trees has.second

-- what was aired of the day has the batch behind the others
pub airing_put : (c : ℕ) (a : DayAsRun) (old new : State)
    → (gets : GetsBatch c a (airings_in old)) (k : ℕ) (rows : List AiredRow) → rows ≡ gets.rows
    → AddsBatch c a.day k rows old new → PutsAiring c a old new
airing_put c a old new gets k rows same adds = record {
  tables = adds.tables;
  airings = λ plan frames.
      adds.airings plan
      ∙ ap
      (λ aired. replace_row (λ (b : DayAsRun). b.day) c (record { day = a.day; aired = aired })
      (airings_made plan (airings_in old)))
      (ap₂ (λ f r. with_batch r (airing_of_rows f c a.day (airings_in old))) frames same ∙ sym gets.aired);
  whole = adds.whole;
  others = adds.others;
  sound = adds.sound;
  shown = adds.shown;
}
