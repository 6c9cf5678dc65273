-- What was aired of each day: found, read from the day's own rows, and with a batch more.
use Rattle.std.proofs.Common.{◌≡◌, ℕ, ◌+◌, Bool, true, false, cond, ◌&&◌, List, [], ◌∷◌, map, filter, length, Some}
use Rattle.std.proofs.Common.{None, refl, sym, ap, ap₂, ◌∙◌, subst, arith, true≢false, Less, is_gt}
use Rattle.std.specs.Prelude.{◌==◌, ◌||◌, nat_lt, nat_le, find, if◌then◌else◌}
use Rattle.std.specs.List.{AllByRecursion, list_any}
use Rattle.std.proofs.lemmas.Bool.Decides.{nat_tests}
use Rattle.sqlite_keyed.specs.Lists.{insert_sorted}
use Rattle.sqlite_keyed.proofs.ListLemmas.{all_from_test, test_from_all, ascending-filter, filter-filter, map_same}
use Rattle.channel_plan.specs.declared.plan.PlanRow.{PlanRow}
use Rattle.asrun_match.specs.declared.aired.AiredRow.{AiredRow}
use Rattle.asrun_match.specs.declared.day.DayAsRun.{DayAsRun}
use Rattle.asrun_match.specs.Aired.{Airing, KeepsAiringRules}
use Rattle.asrun_match.specs.Batches.{with_batch}
use Rattle.station_tables_records.specs.MadeDays.{Rise, frames_in, frames_of, replace_row}
use Rattle.station_tables_records.specs.declared.aired_rows.BatchRow.{BatchRow}
use Rattle.station_tables_records.specs.declared.aired_rows.AiredLine.{AiredLine}
use Rattle.station_tables_records.specs.MadeAirings.{AiredSet, HaveNoHoles, batch_cmp, line_cmp, is_batch, is_batch_of}
use Rattle.station_tables_records.specs.MadeAirings.{is_line_in, is_line_of, rows_in_batch, batches_at, airing_of_rows}
use Rattle.station_tables_records.specs.MadeAirings.{is_first, airing_made, airings_made, is_airing, is_planned_batch}
use Rattle.station_tables_records.specs.MadeAirings.{MakeAirings, row_of_batch}
use Rattle.station_tables_records.proofs.AiredTurns.{add_batch}
use Rattle.station_tables_records.proofs.InsertLemmas.{kept_pass, all_inserted, dropped, kept}
use Rattle.station_tables_records.proofs.RunLemmas.{batch_there}
use Rattle.station_tables_records.proofs.AddLemmas.{batch_total, whole_after, airing_added, airing_beside}

-- ---- a day's own rows are enough

-- rows that leave out none of the day's
pub airing_within : (p : ℕ × BatchRow → Bool) (q : ℕ × AiredLine → Bool) (frames c n : ℕ) (set : AiredSet)
    → ((b : ℕ × BatchRow) → is_batch_of c n b ≡ true → p b ≡ true)
    → ((r : ℕ × AiredLine) → is_line_in c n r ≡ true → q r ≡ true)
    → airing_of_rows frames c n (record { batches = filter p set.batches; lines = filter q set.lines })
    ≡ airing_of_rows frames c n set
airing_within p q frames c n set keeps_batches keeps_lines = λ i. record { frames = frames; batches = batches_are i }
  where
    keeps : (k : ℕ) (r : ℕ × AiredLine) → is_line_of c n k r ≡ true → q r ≡ true
    keeps k r mine = keeps_lines r (grind (arith, nat_tests, mine))

    lines_are : (k : ℕ) → rows_in_batch c n k (filter q set.lines) ≡ rows_in_batch c n k set.lines
    lines_are k = ap (map (λ (r : ℕ × AiredLine). r.1.row)) (filter-filter (is_line_of c n k) q (keeps k) set.lines)

    batches_are : batches_at c n (record { batches = filter p set.batches; lines = filter q set.lines })
        ≡ batches_at c n set
    batches_are =
        ap (map (λ (b : ℕ × BatchRow). rows_in_batch c n b.1.number (filter q set.lines)))
        (filter-filter (is_batch_of c n) p keeps_batches set.batches)
        ∙ map_same _ _ (λ (b : ℕ × BatchRow). lines_are b.1.number) (filter (is_batch_of c n) set.batches)

-- just the day's
pub airing_of_day : (frames c n : ℕ) (set : AiredSet)
    → airing_of_rows frames c n
    (record { batches = filter (is_batch_of c n) set.batches; lines = filter (is_line_in c n) set.lines })
    ≡ airing_of_rows frames c n set
airing_of_day frames c n set =
    airing_within (is_batch_of c n) (is_line_in c n) frames c n set (λ b mine. mine) (λ r mine. mine)

-- ---- a channel's own rows are enough

module _ (plan : List PlanRow) (p : PlanRow) (known : find (λ q. q.ch == p.ch) plan ≡ Some p) (set : AiredSet) where
  abbrev own_part : AiredSet
  own_part = record { batches = filter (λ b. b.0 == p.ch) set.batches; lines = filter (λ r. r.0 == p.ch) set.lines }

  same_frames : frames_of (p ∷ []) p.ch ≡ frames_of plan p.ch
  same_frames =
      let same : (p.ch == p.ch) ≡ true = grind (arith, nat_tests) in
      ap (λ e. frames_in (if e then Some p else None)) same ∙ sym (ap frames_in known)

  same_made : (b : ℕ × BatchRow) → (b.0 == p.ch) ≡ true → airing_made (p ∷ []) own_part b ≡ airing_made plan set b
  same_made b mine =
      let ch : b.0 ≡ p.ch = grind (arith, nat_tests, mine) in
      let frames : frames_of (p ∷ []) b.0 ≡ frames_of plan b.0 =
      subst (λ c. frames_of (p ∷ []) c ≡ frames_of plan c) (sym ch) same_frames in
      let own : airing_of_rows (frames_of plan b.0) b.0 b.1.day own_part
      ≡ airing_of_rows (frames_of plan b.0) b.0 b.1.day set =
      airing_within (λ (d : ℕ × BatchRow). d.0 == p.ch) (λ (r : ℕ × AiredLine). r.0 == p.ch) (frames_of plan b.0) b.0
      b.1.day set
      (λ d same. grind (arith, nat_tests, same, ch)) (λ r same. grind (arith, nat_tests, same, ch)) in
      let both : airing_of_rows (frames_of (p ∷ []) b.0) b.0 b.1.day own_part
      ≡ airing_of_rows (frames_of plan b.0) b.0 b.1.day set =
      ap (λ frames_now. airing_of_rows frames_now b.0 b.1.day own_part) frames ∙ own in
      λ i. (b.0, record { day = b.1.day; aired = both i })

  abbrev own_firsts : List (ℕ × BatchRow) → List (ℕ × BatchRow)
  own_firsts bs = filter is_first (filter (λ b. b.0 == p.ch) bs)

  abbrev made_own : List (ℕ × BatchRow) → List (ℕ × DayAsRun)
  made_own bs = filter (λ a. a.0 == p.ch) (map (airing_made plan set) (filter is_first bs))

  made_alike : (bs : List (ℕ × BatchRow)) → map (airing_made (p ∷ []) own_part) (own_firsts bs) ≡ made_own bs
  made_alike [] = refl
  made_alike (b ∷ bs) = by (b.0 == p.ch) refl (made_alike bs)
    where
      by : (e : Bool) → (b.0 == p.ch) ≡ e → map (airing_made (p ∷ []) own_part) (own_firsts bs) ≡ made_own bs
          → map (airing_made (p ∷ []) own_part)
          (filter is_first (if e then b ∷ filter (λ d. d.0 == p.ch) bs else filter (λ d. d.0 == p.ch) bs))
          ≡ made_own (b ∷ bs)
      by true mine rest = at (is_first b)
        where
          at : (f : Bool)
              → map (airing_made (p ∷ []) own_part) (if f then b ∷ own_firsts bs else own_firsts bs)
              ≡ filter (λ a. a.0 == p.ch)
              (map (airing_made plan set) (if f then b ∷ filter is_first bs else filter is_first bs))
          at true =
              ap₂ (λ x xs. x ∷ xs) (same_made b mine) rest
              ∙ sym (ap (λ e. if e then airing_made plan set b ∷ made_own bs else made_own bs) mine)
          at false = rest
      by false away rest = at (is_first b)
        where
          at : (f : Bool)
              → map (airing_made (p ∷ []) own_part) (own_firsts bs)
              ≡ filter (λ a. a.0 == p.ch)
              (map (airing_made plan set) (if f then b ∷ filter is_first bs else filter is_first bs))
          at true = rest ∙ sym (ap (λ e. if e then airing_made plan set b ∷ made_own bs else made_own bs) away)
          at false = rest

  -- The airings of a channel are those that its own rows make.
  pub airings_of_channel : airings_made (p ∷ []) own_part ≡ filter (λ a. a.0 == p.ch) (airings_made plan set)
  airings_of_channel = made_alike set.batches

-- ---- the airings, each with its day

abbrev entry : (ℕ × BatchRow → Airing) → ℕ × BatchRow → ℕ × DayAsRun
entry aired b = (b.0, record { day = b.1.day; aired = aired b })

abbrev aired_by : List PlanRow → AiredSet → ℕ × BatchRow → Airing
aired_by plan set b = airing_of_rows (frames_of plan b.0) b.0 b.1.day set

module _ (c n : ℕ) where
  abbrev at_day : Airing → ℕ × DayAsRun
  at_day aired = (c, record { day = n; aired = aired })

  entry_is : (f : ℕ × BatchRow → Airing) (aired : Airing) (b : ℕ × BatchRow) → is_batch_of c n b ≡ true → f b ≡ aired
      → entry f b ≡ at_day aired
  entry_is f aired b mine is =
      let ch : b.0 ≡ c = grind (arith, nat_tests, mine) in
      let day : b.1.day ≡ n = grind (arith, nat_tests, mine) in
      λ i. (ch i, record { day = day i; aired = is i })

  own_aired : (plan : List PlanRow) (set : AiredSet) (b : ℕ × BatchRow) → is_batch_of c n b ≡ true
      → aired_by plan set b ≡ airing_of_rows (frames_of plan c) c n set
  own_aired plan set b mine =
      let ch : b.0 ≡ c = grind (arith, nat_tests, mine) in
      let day : b.1.day ≡ n = grind (arith, nat_tests, mine) in
      ap₂ (λ d m. airing_of_rows (frames_of plan d) d m set) ch day

  -- a day has a first batch where it has one
  any_first : (bs : List (ℕ × BatchRow))
      → list_any (is_batch_of c n) (filter is_first bs) ≡ list_any (is_batch c n 1) bs
  any_first [] = refl
  any_first (b ∷ bs) = go (is_first b) refl (any_first bs)
    where
      go : (e : Bool) → is_first b ≡ e → list_any (is_batch_of c n) (filter is_first bs) ≡ list_any (is_batch c n 1) bs
          → list_any (is_batch_of c n) (cond e (b ∷ filter is_first bs) (filter is_first bs))
          ≡ (is_batch c n 1 b || list_any (is_batch c n 1) bs)
      go true e rest =
          let same : is_batch_of c n b ≡ is_batch c n 1 b = grind (arith, nat_tests, e) in ap₂ (λ x y. x || y) same rest
      go false e rest =
          let away : is_batch c n 1 b ≡ false = grind (arith, nat_tests, e) in
          rest ∙ sym (ap (λ x. x || list_any (is_batch c n 1) bs) away)

  first_there : (set : AiredSet) → Rise batch_cmp set.batches → HaveNoHoles set
      → list_any (is_batch_of c n) (filter is_first set.batches) ≡ nat_lt 0 (length (batches_at c n set))
  first_there set rise whole =
      any_first set.batches ∙ batch_there c n set rise whole.batches 1 ∙ some (length (batches_at c n set))
    where
      some : (m : ℕ) → (nat_lt 0 1 && nat_le 1 m) ≡ nat_lt 0 m
      some m = grind (arith, nat_tests)

  -- ---- found

  found : (f : ℕ × BatchRow → Airing) (aired : Airing) → ((b : ℕ × BatchRow) → is_batch_of c n b ≡ true → f b ≡ aired)
      → (bs : List (ℕ × BatchRow))
      → find (is_airing c n) (map (entry f) bs) ≡ (if list_any (is_batch_of c n) bs then Some (at_day aired) else None)
  found f aired own [] = refl
  found f aired own (b ∷ bs) =
      ap (λ e. if e then Some (entry f b) else find (is_airing c n) (map (entry f) bs)) turned
      ∙ go (is_batch_of c n b) refl (found f aired own bs)
    where
      both : (x y : Bool) → (x && y) ≡ (y && x)
      both true true = refl
      both true false = refl
      both false true = refl
      both false false = refl

      turned : is_airing c n (entry f b) ≡ is_batch_of c n b
      turned = both (b.1.day == n) (b.0 == c)

      go : (e : Bool) → is_batch_of c n b ≡ e
          → find (is_airing c n) (map (entry f) bs)
          ≡ (if list_any (is_batch_of c n) bs then Some (at_day aired) else None)
          → (if e then Some (entry f b) else find (is_airing c n) (map (entry f) bs))
          ≡ (if (e || list_any (is_batch_of c n) bs) then Some (at_day aired) else None)
      go true mine rest = ap Some (entry_is f aired b mine (own b mine))
      go false away rest = rest

  -- What was aired of a day is found where the day has a batch.
  pub airing_found : (plan : List PlanRow) (set : AiredSet) → Rise batch_cmp set.batches → HaveNoHoles set
      → find (is_airing c n) (airings_made plan set)
      ≡ (if nat_lt 0 (length (batches_at c n set))
      then Some (c, record { day = n; aired = airing_of_rows (frames_of plan c) c n set }) else None)
  airing_found plan set rise whole =
      found (aired_by plan set) (airing_of_rows (frames_of plan c) c n set) (own_aired plan set)
      (filter is_first set.batches)
      ∙ ap (λ e. if e then Some (at_day (airing_of_rows (frames_of plan c) c n set)) else None)
      (first_there set rise whole)

  -- ---- replaced

  module _ (f g : ℕ × BatchRow → Airing) (new : Airing)
      (others : (b : ℕ × BatchRow) → is_batch_of c n b ≡ false → g b ≡ f b)
      (own : (b : ℕ × BatchRow) → is_batch_of c n b ≡ true → g b ≡ new) where
    abbrev key : DayAsRun → ℕ
    key a = a.day

    abbrev replaced : List (ℕ × DayAsRun) → List (ℕ × DayAsRun)
    replaced = replace_row key c (record { day = n; aired = new })

    entry_other : (b : ℕ × BatchRow) → is_batch_of c n b ≡ false → entry g b ≡ entry f b
    entry_other b away = let same = others b away in λ i. (b.0, record { day = b.1.day; aired = same i })

    entry_own : (b : ℕ × BatchRow) → is_batch_of c n b ≡ true → entry g b ≡ at_day new
    entry_own b mine = entry_is g new b mine (own b mine)

    same_rest : (bs : List (ℕ × BatchRow)) → list_any (is_batch_of c n) bs ≡ false → map (entry g) bs ≡ map (entry f) bs
    same_rest [] none = refl
    same_rest (b ∷ bs) none = by (is_batch_of c n b) refl none (same_rest bs)
      where
        by : (e : Bool) → is_batch_of c n b ≡ e → (e || list_any (is_batch_of c n) bs) ≡ false
            → (list_any (is_batch_of c n) bs ≡ false → map (entry g) bs ≡ map (entry f) bs)
            → entry g b ∷ map (entry g) bs ≡ entry f b ∷ map (entry f) bs
        by true mine no_one rest = absurd (true≢false no_one)
        by false away no_one rest = ap₂ (λ x xs. x ∷ xs) (entry_other b away) (rest no_one)

    abbrev is_before : ℕ × BatchRow → Bool
    is_before b = nat_lt c b.0 || (b.0 == c && nat_lt n b.1.day)

    -- a day more
    inserted : (k : ℕ) → k ≡ 1 → (bs : List (ℕ × BatchRow)) → AllByRecursion (λ b. is_first b ≡ true) bs
        → list_any (is_batch_of c n) bs ≡ false
        → map (entry g) (insert_sorted batch_cmp (row_of_batch c n k) bs) ≡ replaced (map (entry f) bs)
    inserted k one [] firsts none = ap (λ x. x ∷ []) (entry_own (row_of_batch c n k) (grind (arith, nat_tests)))
    inserted k one (b ∷ bs) firsts none =
        go (is_gt (batch_cmp (row_of_batch c n k) b)) (is_batch_of c n b) (is_before b) refl refl refl none
        (inserted k one bs firsts.1)
      where
        mine : is_batch_of c n (row_of_batch c n k) ≡ true
        mine = grind (arith, nat_tests)

        first : b.1.number ≡ 1
        first = let is = firsts.0 in grind (arith, nat_tests, is)

        go : (h e l : Bool) → is_gt (batch_cmp (row_of_batch c n k) b) ≡ h → is_batch_of c n b ≡ e → is_before b ≡ l
            → (e || list_any (is_batch_of c n) bs) ≡ false
            → (list_any (is_batch_of c n) bs ≡ false
            → map (entry g) (insert_sorted batch_cmp (row_of_batch c n k) bs) ≡ replaced (map (entry f) bs))
            → map (entry g)
            (if h then b ∷ insert_sorted batch_cmp (row_of_batch c n k) bs else row_of_batch c n k ∷ b ∷ bs)
            ≡ (if e then at_day new
            ∷ map (entry f) bs
            else (if l then at_day new ∷ entry f b ∷ map (entry f) bs else entry f b ∷ replaced (map (entry f) bs)))
        go h true l gt is before no_one rest = absurd (true≢false no_one)
        go true false true gt is before no_one rest =
            absurd (let more = gt in grind (arith, nat_tests, more, is, before))
        go true false false gt is before no_one rest = ap₂ (λ x xs. x ∷ xs) (entry_other b is) (rest no_one)
        go false false true gt is before no_one rest =
            ap₂ (λ x xs. x ∷ xs) (entry_own (row_of_batch c n k) mine)
            (ap₂ (λ x xs. x ∷ xs) (entry_other b is) (same_rest bs no_one))
        go false false false gt is before no_one rest =
            absurd (let less = gt in let number = first in grind (arith, nat_tests, less, is, before, number, one))

    -- a day that is there
    once : (b : ℕ × BatchRow) (bs : List (ℕ × BatchRow)) → is_batch_of c n b ≡ true → is_first b ≡ true
        → AllByRecursion (λ s. batch_cmp b s ≡ Less) bs → AllByRecursion (λ s. is_first s ≡ true) bs
        → list_any (is_batch_of c n) bs ≡ false
    once b [] mine first below firsts = refl
    once b (s ∷ bs) mine first below firsts =
        let unlike : is_batch_of c n s ≡ false = let less = below.0 in let number = firsts.0 in
        grind (arith, nat_tests, mine, first, less, number) in
        ap (λ e. e || list_any (is_batch_of c n) bs) unlike ∙ once b bs mine first below.1 firsts.1

    not_before : (b : ℕ × BatchRow) (bs : List (ℕ × BatchRow)) → AllByRecursion (λ s. batch_cmp b s ≡ Less) bs
        → list_any (is_batch_of c n) bs ≡ true → is_before b ≡ false
    not_before b [] below there = absurd (true≢false (sym there))
    not_before b (s ∷ bs) below there = by (is_batch_of c n s) refl there (not_before b bs below.1)
      where
        by : (e : Bool) → is_batch_of c n s ≡ e → (e || list_any (is_batch_of c n) bs) ≡ true
            → (list_any (is_batch_of c n) bs ≡ true → is_before b ≡ false) → is_before b ≡ false
        by true mine more rest = let less = below.0 in grind (arith, nat_tests, mine, less)
        by false away more rest = rest more

    updated : (bs : List (ℕ × BatchRow)) → Rise batch_cmp bs → AllByRecursion (λ b. is_first b ≡ true) bs
        → list_any (is_batch_of c n) bs ≡ true → map (entry g) bs ≡ replaced (map (entry f) bs)
    updated [] up firsts there = absurd (true≢false (sym there))
    updated (b ∷ bs) up firsts there = go (is_batch_of c n b) refl there (updated bs up.1 firsts.1)
      where
        go : (e : Bool) → is_batch_of c n b ≡ e → (e || list_any (is_batch_of c n) bs) ≡ true
            → (list_any (is_batch_of c n) bs ≡ true → map (entry g) bs ≡ replaced (map (entry f) bs))
            → entry g b ∷ map (entry g) bs
            ≡ (if e then at_day new
            ∷ map (entry f) bs
            else (if is_before b then at_day new ∷ entry f b ∷ map (entry f) bs else entry f b
            ∷ replaced (map (entry f) bs)))
        go true mine more rest =
            ap₂ (λ x xs. x ∷ xs) (entry_own b mine) (same_rest bs (once b bs mine firsts.0 up.0 firsts.1))
        go false away more rest =
            ap₂ (λ x xs. x ∷ xs) (entry_other b away) (rest more)
            ∙ ap (λ l. if l then at_day new ∷ entry f b ∷ map (entry f) bs else entry f b ∷ replaced (map (entry f) bs))
            (sym (not_before b bs up.0 more))

  -- The airings that the rows make with the next batch of a day: that of the day has it, and the others stay.
  pub airings_replaced : (plan : List PlanRow) (k : ℕ) (rows : List AiredRow) (set : AiredSet)
      → Rise batch_cmp set.batches → Rise line_cmp set.lines → HaveNoHoles set → k ≡ length (batches_at c n set) + 1
      → airings_made plan (add_batch c n k rows set)
      ≡ replace_row (λ (a : DayAsRun). a.day) c
      (record { day = n; aired = with_batch rows (airing_of_rows (frames_of plan c) c n set) }) (airings_made plan set)
  airings_replaced plan k rows set rise up whole next = by (k == 1) refl
    where
      after : AiredSet
      after = add_batch c n k rows set

      new : Airing
      new = with_batch rows (airing_of_rows (frames_of plan c) c n set)

      firsts : AllByRecursion (λ b. is_first b ≡ true) (filter is_first set.batches)
      firsts = kept_pass is_first set.batches

      others : (b : ℕ × BatchRow) → is_batch_of c n b ≡ false → aired_by plan after b ≡ aired_by plan set b
      others b away = airing_beside c n k rows set b.0 b.1.day away (frames_of plan b.0)

      own : (b : ℕ × BatchRow) → is_batch_of c n b ≡ true → aired_by plan after b ≡ new
      own b mine = own_aired plan after b mine ∙ airing_added c n k rows set rise whole next up (frames_of plan c)

      by : (e : Bool) → (k == 1) ≡ e
          → map (entry (aired_by plan after))
          (filter is_first (insert_sorted batch_cmp (row_of_batch c n k) set.batches))
          ≡ replace_row (λ (a : DayAsRun). a.day) c (record { day = n; aired = new })
          (map (entry (aired_by plan set)) (filter is_first set.batches))
      by true e =
          ap (map (entry (aired_by plan after)))
          (kept batch_cmp batch_total is_first (row_of_batch c n k) set.batches e rise)
          ∙ inserted (aired_by plan set) (aired_by plan after) new others own k (grind (arith, nat_tests, e))
          (filter is_first set.batches) firsts
          (first_there set rise whole ∙ grind (arith, nat_tests, next, e))
      by false e =
          ap (map (entry (aired_by plan after))) (dropped batch_cmp is_first (row_of_batch c n k) set.batches e)
          ∙ updated (aired_by plan set) (aired_by plan after) new others own (filter is_first set.batches)
          (ascending-filter _ is_first set.batches rise) firsts
          (first_there set rise whole ∙ grind (arith, nat_tests, next, e))

  -- And they keep the rules, where that of the day does.
  pub airings_kept : (plan : List PlanRow) (k : ℕ) (rows : List AiredRow) (set : AiredSet) → Rise batch_cmp set.batches
      → Rise line_cmp set.lines → MakeAirings plan set → k ≡ length (batches_at c n set) + 1
      → list_any (λ p. p.ch == c) plan ≡ true
      → KeepsAiringRules (with_batch rows (airing_of_rows (frames_of plan c) c n set))
      → MakeAirings plan (add_batch c n k rows set)
  airings_kept plan k rows set rise up made next planned keeps = record {
    whole = whole_after c n k rows set rise made.whole next;
    planned =
        test_from_all (is_planned_batch plan) (insert_sorted batch_cmp (row_of_batch c n k) set.batches)
        (all_inserted batch_cmp (λ b. is_planned_batch plan b ≡ true) (row_of_batch c n k) set.batches planned
        (all_from_test (is_planned_batch plan) set.batches made.planned));
    rules =
        subst (AllByRecursion (λ a. KeepsAiringRules a.1.aired))
        (sym (airings_replaced plan k rows set rise up made.whole next))
        (all_replaced (record { day = n; aired = with_batch rows (airing_of_rows (frames_of plan c) c n set) }) keeps
        (airings_made plan set) made.rules);
  }
    where
      all_replaced : (new : DayAsRun) → KeepsAiringRules new.aired → (as_ : List (ℕ × DayAsRun))
          → AllByRecursion (λ a. KeepsAiringRules a.1.aired) as_
          → AllByRecursion (λ a. KeepsAiringRules a.1.aired) (replace_row (λ (a : DayAsRun). a.day) c new as_)
      all_replaced new keeps_ [] all = (keeps_, tt)
      all_replaced new keeps_ (a ∷ as_) all =
          go (a.0 == c && a.1.day == new.day) (nat_lt c a.0 || (a.0 == c && nat_lt new.day a.1.day))
          (all_replaced new keeps_ as_ all.1)
        where
          go : (e l : Bool)
              → AllByRecursion (λ a. KeepsAiringRules a.1.aired) (replace_row (λ (b : DayAsRun). b.day) c new as_)
              → AllByRecursion (λ a. KeepsAiringRules a.1.aired)
              (if e then (c, new)
              ∷ as_ else (if l then (c, new) ∷ a ∷ as_ else a ∷ replace_row (λ (b : DayAsRun). b.day) c new as_))
          go true l rest = (keeps_, all.1)
          go false true rest = (keeps_, all)
          go false false rest = (all.0, rest)
