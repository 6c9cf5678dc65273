-- The lines of a batch more.
use Rattle.std.proofs.Common.{◌≡◌, ℕ, ◌+◌, ◌<◌, Bool, true, false, not, ◌&&◌, List, [], ◌∷◌, ◌++◌, map, filter, refl}
use Rattle.std.proofs.Common.{sym, ap, ◌∙◌, arith, append_assoc, append-nil, Less, is_eq}
use Rattle.std.specs.Prelude.{◌==◌, nat_lt}
use Rattle.std.specs.List.{AllByRecursion, list_any}
use Rattle.std.specs.Cmp.{IsTotalOrder}
use Rattle.std.proofs.lemmas.Cmp.{on_total, then_total, nat_cmp_total}
use Rattle.std.proofs.lemmas.List.{map-append}
use Rattle.std.proofs.lemmas.Bool.Decides.{nat_tests}
use Rattle.sqlite_keyed.specs.Lists.{insert_sorted}
use Rattle.sqlite_keyed.proofs.ListLemmas.{all_weaker}
use Rattle.asrun_match.specs.declared.aired.AiredRow.{AiredRow}
use Rattle.station_tables_records.specs.MadeDays.{Rise}
use Rattle.station_tables_records.specs.declared.aired_rows.BatchRow.{BatchRow}
use Rattle.station_tables_records.specs.declared.aired_rows.AiredLine.{AiredLine}
use Rattle.station_tables_records.specs.MadeAirings.{line_cmp, is_batch, is_line, is_line_of, rows_in_batch}
use Rattle.station_tables_records.specs.MadeAirings.{has_its_batch}
use Rattle.station_tables_records.specs.MadeAirings.{has_number, row_of_line, lines_from, LacksLine}
use Rattle.station_tables_records.proofs.AiredTurns.{with_lines, AreNewLines}
use Rattle.station_tables_records.proofs.InsertLemmas.{all_inserted, dropped, rises_inserted, kept_last}

pub line_total : IsTotalOrder line_cmp
line_total =
    then_total (on_total (λ (r : ℕ × AiredLine). r.0) nat_cmp_total)
    (then_total (on_total (λ (r : ℕ × AiredLine). r.1.day) nat_cmp_total)
    (then_total (on_total (λ (r : ℕ × AiredLine). r.1.batch) nat_cmp_total)
    (on_total (λ (r : ℕ × AiredLine). r.1.line) nat_cmp_total)))

module _ (c n k : ℕ) where
  -- the lines of the batch that are there have numbers below l
  abbrev pub AreBelow : ℕ → List (ℕ × AiredLine) → Type 0
  AreBelow l lines = AllByRecursion (λ r. is_line_of c n k r ≡ true → r.1.line < l) lines

  below_more : (l : ℕ) (row : AiredRow) (lines : List (ℕ × AiredLine)) → AreBelow l lines
      → AreBelow (l + 1) (insert_sorted line_cmp (row_of_line c n k l row) lines)
  below_more l row lines below =
      all_inserted line_cmp (λ r. is_line_of c n k r ≡ true → r.1.line < l + 1) (row_of_line c n k l row) lines
      (λ mine. omega arith)
      (all_weaker _ (λ r. is_line_of c n k r ≡ true → r.1.line < l + 1)
      (λ r lower mine. let low = lower mine in omega (arith, low)) lines below)

  lacks_line : (l : ℕ) (lines : List (ℕ × AiredLine)) → AreBelow l lines → LacksLine c n k l lines
  lacks_line l lines below = all_weaker _ (λ r. is_line c n k l r ≡ false) other lines below
    where
      other : (r : ℕ × AiredLine) → (is_line_of c n k r ≡ true → r.1.line < l) → is_line c n k l r ≡ false
      other r lower = by (is_line_of c n k r) refl
        where
          by : (b : Bool) → is_line_of c n k r ≡ b → is_line c n k l r ≡ false
          by true mine = let low = lower mine in grind (arith, nat_tests, low)
          by false away = grind (arith, nat_tests, away)

  -- so these are new
  pub new_lines : (l : ℕ) (rows : List AiredRow) (lines : List (ℕ × AiredLine)) → AreBelow l lines
      → AreNewLines c n k l rows lines
  new_lines l [] lines below = tt
  new_lines l (row ∷ rows) lines below = (
    lacks_line l lines below,
    new_lines (l + 1) rows (insert_sorted line_cmp (row_of_line c n k l row) lines)
        (below_more l row lines below),
  )

  unlike : (l : ℕ) (row : AiredRow) (lines : List (ℕ × AiredLine)) → LacksLine c n k l lines
      → AllByRecursion (λ r. is_eq (line_cmp (row_of_line c n k l row) r) ≡ false) lines
  unlike l row lines lacks = all_weaker _ (λ r. is_eq (line_cmp (row_of_line c n k l row) r) ≡ false) apart lines lacks
    where
      apart : (r : ℕ × AiredLine) → is_line c n k l r ≡ false → is_eq (line_cmp (row_of_line c n k l row) r) ≡ false
      apart r away = grind (arith, nat_tests, away)

  -- lines that are new leave the order of the keys
  pub with_lines_rise : (l : ℕ) (rows : List AiredRow) (lines : List (ℕ × AiredLine)) → AreNewLines c n k l rows lines
      → Rise line_cmp lines → Rise line_cmp (with_lines c n k l rows lines)
  with_lines_rise l [] lines new up = up
  with_lines_rise l (row ∷ rows) lines new up =
      with_lines_rise (l + 1) rows (insert_sorted line_cmp (row_of_line c n k l row) lines) new.1
      (rises_inserted line_cmp line_total (row_of_line c n k l row) lines (unlike l row lines new.0) up)

  -- the next line comes last of the batch's
  own_last : (l : ℕ) (row : AiredRow) (lines : List (ℕ × AiredLine)) → AreBelow l lines → Rise line_cmp lines
      → filter (is_line_of c n k) (insert_sorted line_cmp (row_of_line c n k l row) lines)
      ≡ filter (is_line_of c n k) lines ++ row_of_line c n k l row ∷ []
  own_last l row lines below up =
      kept_last line_cmp line_total (is_line_of c n k) (row_of_line c n k l row) lines own up
      (all_weaker _ (λ r. is_line_of c n k r ≡ true → line_cmp r (row_of_line c n k l row) ≡ Less) lower lines below)
    where
      lower : (r : ℕ × AiredLine) → (is_line_of c n k r ≡ true → r.1.line < l) → is_line_of c n k r ≡ true
          → line_cmp r (row_of_line c n k l row) ≡ Less
      lower r low mine = let less = low mine in grind (arith, nat_tests, less, mine)

      own : is_line_of c n k (row_of_line c n k l row) ≡ true
      own = grind (arith, nat_tests)

  -- its rows, and these behind them
  pub rows_added : (l : ℕ) (rows : List AiredRow) (lines : List (ℕ × AiredLine)) → AreBelow l lines
      → Rise line_cmp lines → rows_in_batch c n k (with_lines c n k l rows lines) ≡ rows_in_batch c n k lines ++ rows
  rows_added l [] lines below up = sym (append-nil (rows_in_batch c n k lines))
  rows_added l (row ∷ rows) lines below up =
      let new : ℕ × AiredLine = row_of_line c n k l row in
      rows_added (l + 1) rows (insert_sorted line_cmp new lines) (below_more l row lines below)
      (rises_inserted line_cmp line_total new lines (unlike l row lines (lacks_line l lines below)) up)
      ∙ ap (λ rs. rs ++ rows)
      (ap (map (λ (r : ℕ × AiredLine). r.1.row)) (own_last l row lines below up)
      ∙ map-append (λ (r : ℕ × AiredLine). r.1.row) (filter (is_line_of c n k) lines) (new ∷ []))
      ∙ append_assoc (rows_in_batch c n k lines) (row ∷ []) rows

  -- the rows of another batch stay
  pub rows_beside : (d m j : ℕ) → (d == c && (m == n && j == k)) ≡ false
      → (l : ℕ) (rows : List AiredRow) (lines : List (ℕ × AiredLine))
      → rows_in_batch d m j (with_lines c n k l rows lines) ≡ rows_in_batch d m j lines
  rows_beside d m j other l [] lines = refl
  rows_beside d m j other l (row ∷ rows) lines =
      rows_beside d m j other (l + 1) rows (insert_sorted line_cmp (row_of_line c n k l row) lines)
      ∙ ap (map (λ (r : ℕ × AiredLine). r.1.row))
      (dropped line_cmp (is_line_of d m j) (row_of_line c n k l row) lines away)
    where
      away : is_line_of d m j (row_of_line c n k l row) ≡ false
      away = grind (arith, nat_tests, other)

  -- each line's batch is there
  pub lines_owned : (batches : List (ℕ × BatchRow)) → list_any (is_batch c n k) batches ≡ true
      → (l : ℕ) (rows : List AiredRow) (lines : List (ℕ × AiredLine))
      → AllByRecursion (λ r. has_its_batch batches r ≡ true) lines
      → AllByRecursion (λ r. has_its_batch batches r ≡ true) (with_lines c n k l rows lines)
  lines_owned batches there l [] lines all = all
  lines_owned batches there l (row ∷ rows) lines all =
      lines_owned batches there (l + 1) rows (insert_sorted line_cmp (row_of_line c n k l row) lines)
      (all_inserted line_cmp (λ r. has_its_batch batches r ≡ true) (row_of_line c n k l row) lines there all)

  -- and each line has a number
  pub lines_numbered : (l : ℕ) → nat_lt 0 l ≡ true → (rows : List AiredRow) (lines : List (ℕ × AiredLine))
      → AllByRecursion (λ r. has_number r ≡ true) lines
      → AllByRecursion (λ r. has_number r ≡ true) (with_lines c n k l rows lines)
  lines_numbered l some [] lines all = all
  lines_numbered l some (row ∷ rows) lines all =
      lines_numbered (l + 1) (grind (arith, nat_tests)) rows (insert_sorted line_cmp (row_of_line c n k l row) lines)
      (all_inserted line_cmp (λ r. has_number r ≡ true) (row_of_line c n k l row) lines some all)

  -- its own lines are these behind those that were there
  pub lines_added : (l : ℕ) (rows : List AiredRow) (lines : List (ℕ × AiredLine)) → AreBelow l lines
      → Rise line_cmp lines
      → filter (is_line_of c n k) (with_lines c n k l rows lines)
      ≡ filter (is_line_of c n k) lines ++ lines_from c n k l rows
  lines_added l [] lines below up = sym (append-nil (filter (is_line_of c n k) lines))
  lines_added l (row ∷ rows) lines below up =
      let new : ℕ × AiredLine = row_of_line c n k l row in
      lines_added (l + 1) rows (insert_sorted line_cmp new lines) (below_more l row lines below)
      (rises_inserted line_cmp line_total new lines (unlike l row lines (lacks_line l lines below)) up)
      ∙ ap (λ rs. rs ++ lines_from c n k (l + 1) rows) (own_last l row lines below up)
      ∙ append_assoc (filter (is_line_of c n k) lines) (new ∷ []) (lines_from c n k (l + 1) rows)

  -- the lines of the other batches stay
  pub lines_beside : (l : ℕ) (rows : List AiredRow) (lines : List (ℕ × AiredLine))
      → filter (λ r. not (is_line_of c n k r)) (with_lines c n k l rows lines)
      ≡ filter (λ r. not (is_line_of c n k r)) lines
  lines_beside l [] lines = refl
  lines_beside l (row ∷ rows) lines =
      lines_beside (l + 1) rows (insert_sorted line_cmp (row_of_line c n k l row) lines)
      ∙ dropped line_cmp (λ r. not (is_line_of c n k r)) (row_of_line c n k l row) lines away
    where
      away : not (is_line_of c n k (row_of_line c n k l row)) ≡ false
      away = grind (arith, nat_tests)

  pub all_beside : (lines : List (ℕ × AiredLine)) → AllByRecursion (λ r. is_line_of c n k r ≡ false) lines
      → filter (λ r. not (is_line_of c n k r)) lines ≡ lines
  all_beside [] none = refl
  all_beside (r ∷ lines) none = rw (none.0) (ap (λ rs. r ∷ rs) (all_beside lines none.1))
