-- What a batch more is of what rows say was aired.
use Rattle.std.proofs.Common.{◌≡◌, ℕ, ◌+◌, ◌<◌, Bool, true, false, not, ◌&&◌, List, [], ◌∷◌, ◌++◌, map, filter, length}
use Rattle.std.proofs.Common.{refl, sym, ap, ap₂, ◌∙◌, arith, true≢false, Less, is_eq}
use Rattle.std.specs.Prelude.{◌==◌, ◌||◌}
use Rattle.std.specs.List.{AllByRecursion, list_any, list_all}
use Rattle.std.specs.Cmp.{IsTotalOrder}
use Rattle.std.proofs.lemmas.Cmp.{on_total, then_total, nat_cmp_total}
use Rattle.std.proofs.lemmas.List.{map-append}
use Rattle.std.proofs.lemmas.Bool.Decides.{nat_tests}
use Rattle.sqlite_keyed.specs.Lists.{insert_sorted}
use Rattle.sqlite_keyed.proofs.ListLemmas.{all_weaker, all_from_test, test_from_all, filter_none, map_same}
use Rattle.station_tables_records.proofs.ReadLemmas.{map_on}
use Rattle.asrun_match.specs.declared.aired.AiredRow.{AiredRow}
use Rattle.asrun_match.specs.Batches.{with_batch}
use Rattle.station_tables_records.specs.MadeDays.{Rise}
use Rattle.station_tables_records.specs.declared.aired_rows.BatchRow.{BatchRow}
use Rattle.station_tables_records.specs.declared.aired_rows.AiredLine.{AiredLine}
use Rattle.station_tables_records.specs.MadeAirings.{AiredSet, HaveNoHoles, batch_cmp, line_cmp, is_batch, is_batch_of}
use Rattle.station_tables_records.specs.MadeAirings.{is_line_of, rows_in_batch, batches_at, airing_of_rows}
use Rattle.station_tables_records.specs.MadeAirings.{has_its_batch}
use Rattle.station_tables_records.specs.MadeAirings.{is_batch_behind, follows_batch, has_number, row_of_batch}
use Rattle.station_tables_records.specs.MadeAirings.{lines_from}
use Rattle.station_tables_records.specs.MadeAirings.{LacksBatch}
use Rattle.station_tables_records.proofs.AiredTurns.{with_lines, add_batch, AreNewLines}
use Rattle.station_tables_records.proofs.BisectLemmas.{any_same}
use Rattle.station_tables_records.proofs.InsertLemmas.{all_of_kept, still_any, new_any, all_inserted, dropped}
use Rattle.station_tables_records.proofs.InsertLemmas.{rises_inserted, kept_last}
use Rattle.station_tables_records.proofs.RunLemmas.{batch_there, lacks_next, below_next}
use Rattle.station_tables_records.proofs.LineLemmas.{AreBelow, new_lines, with_lines_rise, rows_added, lines_added}
use Rattle.station_tables_records.proofs.LineLemmas.{rows_beside, lines_beside, all_beside, lines_owned, lines_numbered}

pub batch_total : IsTotalOrder batch_cmp
batch_total =
    then_total (on_total (λ (b : ℕ × BatchRow). b.0) nat_cmp_total)
    (then_total (on_total (λ (b : ℕ × BatchRow). b.1.day) nat_cmp_total)
    (on_total (λ (b : ℕ × BatchRow). b.1.number) nat_cmp_total))

-- ---- the keys of the next batch are new

-- the next batch isn't there
pub lacks_next_batch : (c n k : ℕ) (set : AiredSet) → Rise batch_cmp set.batches → HaveNoHoles set
    → k ≡ length (batches_at c n set) + 1 → LacksBatch c n k set.batches
lacks_next_batch c n k set rise whole next = lacks_next c n set rise whole.batches k next

-- a batch that isn't there has no lines
no_lines : (c n k : ℕ) (set : AiredSet) → LacksBatch c n k set.batches
    → list_all (has_its_batch set.batches) set.lines ≡ true → AllByRecursion (λ r. is_line_of c n k r ≡ false) set.lines
no_lines c n k set lacks owned =
    all_weaker _ (λ r. is_line_of c n k r ≡ false) away set.lines
    (all_from_test (has_its_batch set.batches) set.lines owned)
  where
    none : (bs : List (ℕ × BatchRow)) → LacksBatch c n k bs → (r : ℕ × AiredLine) → is_line_of c n k r ≡ true
        → list_any (is_batch r.0 r.1.day r.1.batch) bs ≡ false
    none [] lacks r mine = refl
    none (b ∷ bs) lacks r mine =
        let here : is_batch r.0 r.1.day r.1.batch b ≡ false = let other = lacks.0 in
        grind (arith, nat_tests, other, mine) in
        ap (λ e. e || list_any (is_batch r.0 r.1.day r.1.batch) bs) here ∙ none bs lacks.1 r mine

    away : (r : ℕ × AiredLine) → has_its_batch set.batches r ≡ true → is_line_of c n k r ≡ false
    away r has = by (is_line_of c n k r) refl
      where
        by : (b : Bool) → is_line_of c n k r ≡ b → b ≡ false
        by true mine = absurd (true≢false (sym has ∙ none set.batches lacks r mine))
        by false mine = refl

below_first : (c n k : ℕ) (lines : List (ℕ × AiredLine)) → AllByRecursion (λ r. is_line_of c n k r ≡ false) lines
    → AreBelow c n k 1 lines
below_first c n k lines none =
    all_weaker _ (λ r. is_line_of c n k r ≡ true → r.1.line < 1) (λ r away mine. absurd (true≢false (sym mine ∙ away)))
    lines none

lines_below : (c n k : ℕ) (set : AiredSet) → LacksBatch c n k set.batches
    → list_all (has_its_batch set.batches) set.lines ≡ true → AreBelow c n k 1 set.lines
lines_below c n k set lacks owned = below_first c n k set.lines (no_lines c n k set lacks owned)

-- nor are its lines
pub next_lines_are_new : (c n k : ℕ) (rows : List AiredRow) (set : AiredSet) → Rise batch_cmp set.batches
    → HaveNoHoles set → k ≡ length (batches_at c n set) + 1 → AreNewLines c n k 1 rows set.lines
next_lines_are_new c n k rows set rise whole next =
    new_lines c n k 1 rows set.lines (lines_below c n k set (lacks_next_batch c n k set rise whole next) whole.owned)

-- ---- a batch more leaves the order of the keys, and no hole

pub batches_rise : (c n k : ℕ) (batches : List (ℕ × BatchRow)) → LacksBatch c n k batches → Rise batch_cmp batches
    → Rise batch_cmp (insert_sorted batch_cmp (row_of_batch c n k) batches)
batches_rise c n k batches lacks up =
    rises_inserted batch_cmp batch_total (row_of_batch c n k) batches
    (all_weaker _ (λ b. is_eq (batch_cmp (row_of_batch c n k) b) ≡ false) apart batches lacks) up
  where
    apart : (b : ℕ × BatchRow) → is_batch c n k b ≡ false → is_eq (batch_cmp (row_of_batch c n k) b) ≡ false
    apart b away = grind (arith, nat_tests, away)

pub lines_rise : (c n k : ℕ) (rows : List AiredRow) (lines : List (ℕ × AiredLine)) → AreNewLines c n k 1 rows lines
    → Rise line_cmp lines → Rise line_cmp (with_lines c n k 1 rows lines)
lines_rise c n k rows lines new up = with_lines_rise c n k 1 rows lines new up

module _ (c n k : ℕ) (rows : List AiredRow) (set : AiredSet) (rise : Rise batch_cmp set.batches)
    (whole : HaveNoHoles set) (next : k ≡ length (batches_at c n set) + 1) where
  abbrev after : AiredSet
  after = add_batch c n k rows set

  -- the new batch follows
  follows_last : follows_batch set.batches (row_of_batch c n k) ≡ true
  follows_last = by (k == 1) refl
    where
      behind : (k == 1) ≡ false → (b : ℕ × BatchRow)
          → is_batch c n (length (batches_at c n set)) b ≡ is_batch_behind (row_of_batch c n k) b
      behind other b = grind (arith, nat_tests, next, other)

      last_there : (k == 1) ≡ false → list_any (is_batch c n (length (batches_at c n set))) set.batches ≡ true
      last_there other =
          batch_there c n set rise whole.batches (length (batches_at c n set)) ∙ grind (arith, nat_tests, next, other)

      by : (b : Bool) → (k == 1) ≡ b → (b || list_any (is_batch_behind (row_of_batch c n k)) set.batches) ≡ true
      by true e = refl
      by false e = sym (any_same _ _ (behind e) set.batches) ∙ last_there e

  still_follows : (b : ℕ × BatchRow) → follows_batch set.batches b ≡ true → follows_batch after.batches b ≡ true
  still_follows b h = by (b.1.number == 1) h
    where
      by : (e : Bool) → (e || list_any (is_batch_behind b) set.batches) ≡ true
          → (e || list_any (is_batch_behind b) (insert_sorted batch_cmp (row_of_batch c n k) set.batches)) ≡ true
      by true h = refl
      by false h = still_any batch_cmp (is_batch_behind b) (row_of_batch c n k) set.batches h

  own_batch : is_batch c n k (row_of_batch c n k) ≡ true
  own_batch = grind (arith, nat_tests)

  pub whole_after : HaveNoHoles (add_batch c n k rows set)
  whole_after = record {
    owned =
        test_from_all (has_its_batch after.batches) after.lines
        (lines_owned c n k after.batches (new_any batch_cmp (is_batch c n k) (row_of_batch c n k) set.batches own_batch)
        1 rows set.lines
        (all_weaker _ (λ r. has_its_batch after.batches r ≡ true)
        (λ r has. still_any batch_cmp (is_batch r.0 r.1.day r.1.batch) (row_of_batch c n k) set.batches has)
        set.lines
        (all_from_test (has_its_batch set.batches) set.lines whole.owned)));
    batches =
        test_from_all (follows_batch after.batches) after.batches
        (all_inserted batch_cmp (λ b. follows_batch after.batches b ≡ true) (row_of_batch c n k) set.batches
        (still_follows (row_of_batch c n k) follows_last)
        (all_weaker _ (λ b. follows_batch after.batches b ≡ true) still_follows set.batches
        (all_from_test (follows_batch set.batches) set.batches whole.batches)));
    lines =
        test_from_all has_number after.lines
        (lines_numbered c n k 1 refl rows set.lines (all_from_test has_number set.lines whole.lines));
  }

  -- ---- what was aired of the day, and of the other days

  pub airing_added : Rise line_cmp set.lines → (frames : ℕ)
      → airing_of_rows frames c n (add_batch c n k rows set) ≡ with_batch rows (airing_of_rows frames c n set)
  airing_added up frames = λ i. record { frames = frames; batches = batches_are i }
    where
      lacks : LacksBatch c n k set.batches
      lacks = lacks_next_batch c n k set rise whole next

      low : AllByRecursion (λ b. is_batch_of c n b ≡ true → b.1.number < k) set.batches
      low = below_next c n set rise whole.batches k next

      lower : (b : ℕ × BatchRow) → (is_batch_of c n b ≡ true → b.1.number < k) → is_batch_of c n b ≡ true
          → batch_cmp b (row_of_batch c n k) ≡ Less
      lower b less mine = let below = less mine in grind (arith, nat_tests, below, mine)

      own : is_batch_of c n (row_of_batch c n k) ≡ true
      own = grind (arith, nat_tests)

      last : filter (is_batch_of c n) (insert_sorted batch_cmp (row_of_batch c n k) set.batches)
          ≡ filter (is_batch_of c n) set.batches ++ row_of_batch c n k ∷ []
      last =
          kept_last batch_cmp batch_total (is_batch_of c n) (row_of_batch c n k) set.batches own rise
          (all_weaker _ (λ b. is_batch_of c n b ≡ true → batch_cmp b (row_of_batch c n k) ≡ Less) lower set.batches low)

      apart : (b : ℕ × BatchRow) → b.1.number < k → (c == c && (n == n && b.1.number == k)) ≡ false
      apart b less = grind (arith, nat_tests, less)

      before : map (λ b. rows_in_batch c n b.1.number after.lines) (filter (is_batch_of c n) set.batches)
          ≡ batches_at c n set
      before =
          map_on (λ (b : ℕ × BatchRow). b.1.number < k) (λ b. rows_in_batch c n b.1.number after.lines)
          (λ b. rows_in_batch c n b.1.number set.lines) (filter (is_batch_of c n) set.batches)
          (λ b less. rows_beside c n k c n b.1.number (apart b less) 1 rows set.lines)
          (all_of_kept (is_batch_of c n) (λ b. b.1.number < k) set.batches low)

      new : rows_in_batch c n k after.lines ≡ rows
      new =
          rows_added c n k 1 rows set.lines (lines_below c n k set lacks whole.owned) up
          ∙ ap (λ l. map (λ (r : ℕ × AiredLine). r.1.row) l ++ rows)
          (filter_none _ set.lines (no_lines c n k set lacks whole.owned))

      batches_are : batches_at c n after ≡ batches_at c n set ++ rows ∷ []
      batches_are =
          ap (map (λ (b : ℕ × BatchRow). rows_in_batch c n b.1.number after.lines)) last
          ∙ map-append (λ (b : ℕ × BatchRow). rows_in_batch c n b.1.number after.lines)
          (filter (is_batch_of c n) set.batches) (row_of_batch c n k ∷ [])
          ∙ ap₂ (λ l r. l ++ r ∷ []) before new

  -- the lines of the batch are these alone
  pub own_lines : Rise line_cmp set.lines
      → filter (is_line_of c n k) (add_batch c n k rows set).lines ≡ lines_from c n k 1 rows
  own_lines up =
      let lacks = lacks_next_batch c n k set rise whole next in
      lines_added c n k 1 rows set.lines (lines_below c n k set lacks whole.owned) up
      ∙ ap (λ ls. ls ++ lines_from c n k 1 rows) (filter_none _ set.lines (no_lines c n k set lacks whole.owned))

  -- and the others are as they were
  pub other_lines : filter (λ r. not (is_line_of c n k r)) (add_batch c n k rows set).lines ≡ set.lines
  other_lines =
      lines_beside c n k 1 rows set.lines
      ∙ all_beside c n k set.lines (no_lines c n k set (lacks_next_batch c n k set rise whole next) whole.owned)

-- another day's stays
pub airing_beside : (c n k : ℕ) (rows : List AiredRow) (set : AiredSet) (d m : ℕ) → (d == c && m == n) ≡ false
    → (frames : ℕ) → airing_of_rows frames d m (add_batch c n k rows set) ≡ airing_of_rows frames d m set
airing_beside c n k rows set d m other frames = λ i. record { frames = frames; batches = batches_are i }
  where
    away : is_batch_of d m (row_of_batch c n k) ≡ false
    away = grind (arith, nat_tests, other)

    apart : (j : ℕ) → (d == c && (m == n && j == k)) ≡ false
    apart j = grind (arith, nat_tests, other)

    batches_are : batches_at d m (add_batch c n k rows set) ≡ batches_at d m set
    batches_are =
        ap (map (λ (b : ℕ × BatchRow). rows_in_batch d m b.1.number (with_lines c n k 1 rows set.lines)))
        (dropped batch_cmp (is_batch_of d m) (row_of_batch c n k) set.batches away)
        ∙ map_same _ _ (λ (b : ℕ × BatchRow). rows_beside c n k d m b.1.number (apart b.1.number) 1 rows set.lines)
        (filter (is_batch_of d m) set.batches)
