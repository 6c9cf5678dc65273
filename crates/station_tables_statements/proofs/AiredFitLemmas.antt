-- The rows of batches and lines that make airings which keep the rules fit their columns.
use Rattle.std.proofs.Common.{◌≡◌, ℕ, ◌+◌, ◌<◌, ◌≤◌, Bool, true, false, true≢false, ◌&&◌, cond, List, [], ◌∷◌, map}
use Rattle.std.proofs.Common.{filter, length, Option, Some, None, refl, sym, ap, ◌∙◌, subst, arith}
use Rattle.std.specs.Prelude.{◌==◌, ◌||◌, ◌^◌, nat_lt, nat_le, find, is_some}
use Rattle.std.specs.List.{AllByRecursion, list_all, list_any}
use Rattle.std.proofs.lemmas.Bool.Decides.{nat_tests}
use Rattle.std.proofs.lemmas.List.Folds.{list_all-append}
use Rattle.channel_plan.specs.declared.plan.PlanRow.{PlanRow}
use Rattle.channel_plan.specs.Plan.{is_plan}
use Rattle.playlist_core.specs.declared.source.Source.{Source}
use Rattle.playlist_core.specs.declared.source.Source.TheVariants.{Black, Bars, Own, Lent}
use Rattle.playlist_core.specs.Order.{AreApart}
use Rattle.playlist_core.specs.Source.{source_of_reel}
use Rattle.playlist_core.proofs.PictureLemmas.{apart_within}
use Rattle.asrun_match.specs.declared.aired.AiredRow.{AiredRow}
use Rattle.asrun_match.specs.Aired.{Airing, KeepsAiringRules, all_rows, aired, has_fields, is_source_range, is_row_reel}
use Rattle.station_tables_records.specs.MadeDays.{Rise, frames_of, frames_in}
use Rattle.station_tables_records.specs.declared.aired_rows.BatchRow.{BatchRow}
use Rattle.station_tables_records.specs.declared.aired_rows.AiredLine.{AiredLine}
use Rattle.station_tables_records.specs.MadeAirings.{AiredSet, MakeAirings, batch_cmp, line_cmp, is_batch, is_batch_of}
use Rattle.station_tables_records.specs.MadeAirings.{is_line_of, is_first, is_planned_batch, has_its_batch}
use Rattle.station_tables_records.specs.MadeAirings.{rows_in_batch}
use Rattle.station_tables_records.specs.MadeAirings.{batches_at, airing_of_rows, airing_made, airings_made}
use Rattle.station_tables_records.proofs.RunLemmas.{batch_there}
use Rattle.station_tables_records.specs.BatchRows.{batch_fits}
use Rattle.station_tables_records.specs.LineRows.{line_fits}
use Rattle.station_tables_statements.proofs.FitLemmas.{left, right, both_are, less, below, all_permuted, picked_pass}
use Rattle.station_tables_statements.proofs.FitLemmas.{found_some, planned_fits, length_small}

-- ---- the rows of an airing

-- the row's place has 32 bits
abbrev has_small_place : AiredRow → Bool
has_small_place r = nat_lt r.pos (2 ^ 32) && nat_lt r.frames (2 ^ 32)

-- and its source frame, and its reel is such as rows keep
abbrev pub is_small_row : AiredRow → Bool
is_small_row r = has_small_place r && (nat_lt r.src_first (2 ^ 32) && is_row_reel r.src)

places_small : (from to : ℕ) (rows : List AiredRow) → to < 2 ^ 32 → AreApart aired from to rows
    → list_all has_small_place rows ≡ true
places_small from to [] small apart = refl
places_small from to (r ∷ rows) small apart =
    let behind = apart_within aired (r.pos + r.frames) to rows apart.2 in
    both_are _ _
    (both_are _ _ (less r.pos (2 ^ 32) (omega (arith, behind, small)))
    (less r.frames (2 ^ 32) (omega (arith, behind, small)))) (places_small (r.pos + r.frames) to rows small apart.2)

frame_small : (day : ℕ) (source : Option Source) (first frames top : ℕ) → day < top
    → is_source_range day source first frames ≡ true → nat_lt first top ≡ true
frame_small day None first frames top small is = grind (arith, nat_tests, small, is)
frame_small day (Some Black) first frames top small is = grind (arith, nat_tests, small, is)
frame_small day (Some Bars) first frames top small is = grind (arith, nat_tests, small, is)
frame_small day (Some (Own n)) first frames top small is = grind (arith, nat_tests, small, is)
frame_small day (Some (Lent owner n)) first frames top small is = grind (arith, nat_tests, small, is)

rows_small : (day : ℕ) (rows : List AiredRow) → day < 2 ^ 32 → list_all (has_fields day) rows ≡ true
    → list_all has_small_place rows ≡ true → list_all is_small_row rows ≡ true
rows_small day [] small fields places = refl
rows_small day (r ∷ rows) small fields places =
    let one = left _ _ fields in
    both_are _ _
    (both_are _ _ (left _ _ places)
    (both_are _ _ (frame_small day (source_of_reel r.src) r.src_first r.frames (2 ^ 32) small (right _ _ one))
    (left _ _ one)))
    (rows_small day rows small (right _ _ fields) (right _ _ places))

module _ (day : Airing) (rules : KeepsAiringRules day) (small : day.frames < 2 ^ 32) where
  pub airing_small : list_all is_small_row (all_rows day.batches) ≡ true
  airing_small =
      rows_small day.frames (all_rows day.batches) small rules.fields
      (all_permuted has_small_place (all_rows day.batches) rules.order rules.same
      ∙ places_small 0 day.frames rules.order small rules.apart)

-- ---- the rows of a set

module _ (plan : List PlanRow) (planned : is_plan plan ≡ true) (set : AiredSet)
    (batches_rise : Rise batch_cmp set.batches) (lines_rise : Rise line_cmp set.lines) (makes : MakeAirings plan set)
    (days : AllByRecursion (λ a. nat_lt a.1.day (2 ^ 32) ≡ true) (airings_made plan set)) where
  -- a day that has a batch: its channel is planned, its number has 32 bits, and what was aired of it keeps the rules
  record IsGood (c n : ℕ) : Type 0 where
    pub channel : nat_le c 999 ≡ true
    pub day : nat_lt n (2 ^ 32) ≡ true
    pub rules : KeepsAiringRules (airing_of_rows (frames_of plan c) c n set)
    pub small : frames_of plan c < 2 ^ 32

  frames_small : (c : ℕ) → frames_of plan c < 2 ^ 32
  frames_small c = by (find (λ p. p.ch == c) plan)
    where
      by : (o : Option PlanRow) → frames_in o < 2 ^ 32
      by None = omega arith
      by (Some p) = length_small p.rate

  channel_small : (c : ℕ) → list_any (λ p. p.ch == c) plan ≡ true → nat_le c 999 ≡ true
  channel_small c there = by (find (λ p. p.ch == c) plan) refl
    where
      by : (o : Option PlanRow) → find (λ p. p.ch == c) plan ≡ o → nat_le c 999 ≡ true
      by None none = absurd (true≢false (sym (found_some (λ p. p.ch == c) plan there) ∙ ap is_some none))
      by (Some p) found = (planned_fits plan planned c p found).0

  module _ (c n : ℕ) where
    firsts : (bs : List (ℕ × BatchRow)) → list_all (is_planned_batch plan) bs ≡ true
        → AllByRecursion (λ a. KeepsAiringRules a.1.aired) (map (airing_made plan set) (filter is_first bs))
        → AllByRecursion (λ a. nat_lt a.1.day (2 ^ 32) ≡ true) (map (airing_made plan set) (filter is_first bs))
        → list_any (is_batch c n 1) bs ≡ true → IsGood c n
    firsts [] owned rules small there = absurd (true≢false (sym there))
    firsts (b ∷ bs) owned rules small there =
        by (is_first b) (is_batch c n 1 b) refl refl rules small there (firsts bs (right _ _ owned))
      where
        by : (e f : Bool) → is_first b ≡ e → is_batch c n 1 b ≡ f
            → AllByRecursion (λ a. KeepsAiringRules a.1.aired)
            (map (airing_made plan set) (cond e (b ∷ filter is_first bs) (filter is_first bs)))
            → AllByRecursion (λ a. nat_lt a.1.day (2 ^ 32) ≡ true)
            (map (airing_made plan set) (cond e (b ∷ filter is_first bs) (filter is_first bs)))
            → (f || list_any (is_batch c n 1) bs) ≡ true
            → (AllByRecursion (λ a. KeepsAiringRules a.1.aired) (map (airing_made plan set) (filter is_first bs))
            → AllByRecursion (λ a. nat_lt a.1.day (2 ^ 32) ≡ true) (map (airing_made plan set) (filter is_first bs))
            → list_any (is_batch c n 1) bs ≡ true → IsGood c n)
            → IsGood c n
        by true true first mine rules small there rest =
            let ch : b.0 ≡ c = grind (arith, nat_tests, mine) in
            let day : b.1.day ≡ n = grind (arith, nat_tests, mine) in record {
              channel = channel_small c (subst (λ m. list_any (λ p. p.ch == m) plan ≡ true) ch (left _ _ owned));
              day = subst (λ m. nat_lt m (2 ^ 32) ≡ true) day small.0;
              rules =
                  subst (λ m. KeepsAiringRules (airing_of_rows (frames_of plan c) c m set)) day
                  (subst (λ m. KeepsAiringRules (airing_of_rows (frames_of plan m) m b.1.day set)) ch rules.0);
              small = frames_small c;
            }
        by true false first mine rules small there rest = rest rules.1 small.1 there
        by false true first mine rules small there rest = absurd (true≢false (grind (arith, nat_tests, first, mine)))
        by false false first mine rules small there rest = rest rules small there

    -- a day of any batch has a first one
    good : (k : ℕ) → list_any (is_batch c n k) set.batches ≡ true → IsGood c n × (nat_lt k (2 ^ 32) ≡ true)
    good k there =
        let all : (nat_lt 0 k && nat_le k (length (batches_at c n set))) ≡ true =
        sym (batch_there c n set batches_rise makes.whole.batches k) ∙ there in
        let is =
        firsts set.batches makes.planned makes.rules days
        (batch_there c n set batches_rise makes.whole.batches 1 ∙ grind (arith, nat_tests, all)) in
        (is, few (length (batches_at c n set)) is.rules.few all)
      where
        few : (m : ℕ) → m ≤ 64 → (nat_lt 0 k && nat_le k m) ≡ true → nat_lt k (2 ^ 32) ≡ true
        few m most all = below k m (2 ^ 32) (right (nat_lt 0 k) (nat_le k m) all) (omega (arith, most))

    -- the rows of these batches
    abbrev rows_found : List (ℕ × BatchRow) → List AiredRow
    rows_found found = all_rows (map (λ b. rows_in_batch c n b.1.number set.lines) found)

    -- the rows of a batch are among the day's, and small as these
    rows_there : (k : ℕ) (bs : List (ℕ × BatchRow)) → list_any (is_batch c n k) bs ≡ true
        → list_all is_small_row (rows_found (filter (is_batch_of c n) bs)) ≡ true
        → list_all is_small_row (rows_in_batch c n k set.lines) ≡ true
    rows_there k [] there all = absurd (true≢false (sym there))
    rows_there k (b ∷ bs) there all = by (is_batch_of c n b) refl all (rows_there k bs)
      where
        mine : List AiredRow
        mine = rows_in_batch c n b.1.number set.lines

        by : (e : Bool) → is_batch_of c n b ≡ e
            → list_all is_small_row
            (rows_found (cond e (b ∷ filter (is_batch_of c n) bs) (filter (is_batch_of c n) bs))) ≡ true
            → (list_any (is_batch c n k) bs ≡ true
            → list_all is_small_row (rows_found (filter (is_batch_of c n) bs)) ≡ true
            → list_all is_small_row (rows_in_batch c n k set.lines) ≡ true)
            → list_all is_small_row (rows_in_batch c n k set.lines) ≡ true
        by false away h rest = rest (grind (arith, nat_tests, away, there)) h
        by true own h rest = at (b.1.number == k) refl
          where
            apart : (list_all is_small_row mine && list_all is_small_row (rows_found (filter (is_batch_of c n) bs)))
                ≡ true
            apart = sym (list_all-append is_small_row mine (rows_found (filter (is_batch_of c n) bs))) ∙ h

            at : (e : Bool) → (b.1.number == k) ≡ e → list_all is_small_row (rows_in_batch c n k set.lines) ≡ true
            at true same =
                let k_is : b.1.number ≡ k = grind (arith, nat_tests, same) in
                subst (λ m. list_all is_small_row (rows_in_batch c n m set.lines) ≡ true) k_is (left _ _ apart)
            at false other = rest (grind (arith, nat_tests, other, there)) (right _ _ apart)

  -- ---- batches
  batches_fit : (bs : List (ℕ × BatchRow))
      → ((c n k : ℕ) → list_any (is_batch c n k) bs ≡ true → list_any (is_batch c n k) set.batches ≡ true)
      → AllByRecursion (λ b. batch_fits b ≡ true) bs
  batches_fit [] among = tt
  batches_fit (b ∷ bs) among =
      let is = good b.0 b.1.day b.1.number (among b.0 b.1.day b.1.number (grind (arith, nat_tests))) in (
        both_are _ _ (both_are _ _ (below b.0 999 65536 is.0.channel (omega arith)) is.0.day) is.1,
        batches_fit bs
            (λ c n k there. among c n k (or_later (is_batch c n k b) there)),
      )
    where
      or_later : (a : Bool) {e : Bool} → e ≡ true → (a || e) ≡ true
      or_later true h = refl
      or_later false h = h

  pub set_batches_fit : AllByRecursion (λ b. batch_fits b ≡ true) set.batches
  set_batches_fit = batches_fit set.batches (λ c n k there. there)

  -- ---- lines
  -- what is said of a line of a batch that is there
  abbrev Fits : ℕ → ℕ → ℕ → ℕ × AiredLine → Type 0
  Fits c n k r = is_line_of c n k r ≡ true → is_small_row r.1.row ≡ true

  lines_of_batch : (c n k : ℕ) → list_any (is_batch c n k) set.batches ≡ true → AllByRecursion (Fits c n k) set.lines
  lines_of_batch c n k there =
      let is = (good c n k there).0 in
      picked_pass (is_line_of c n k) (λ r. r.1.row) is_small_row set.lines
      (rows_there c n k set.batches there
      (airing_small (airing_of_rows (frames_of plan c) c n set) is.rules is.small))

  lines_fit : (rs : List (ℕ × AiredLine)) → list_all (has_its_batch set.batches) rs ≡ true
      → ((c n k : ℕ) → list_any (is_batch c n k) set.batches ≡ true → AllByRecursion (Fits c n k) rs)
      → AllByRecursion (λ r. line_fits r ≡ true) rs
  lines_fit [] owned all = tt
  lines_fit (r ∷ rs) owned all =
      let there = left _ _ owned in
      let own = (all r.0 r.1.day r.1.batch there).0 (grind (arith, nat_tests)) in
      let is = good r.0 r.1.day r.1.batch there in
      let row = own in
      let place = left _ _ row in
      let source = right _ _ row in (
        both_are _ _
            (both_are _ _
            (both_are _ _
            (both_are _ _
            (both_are _ _ (both_are _ _ (below r.0 999 65536 is.0.channel (omega arith)) is.0.day) is.1)
            (left _ _ place)) (right _ _ place))
            (left _ _ source))
            (right _ _ source),
        lines_fit rs (right _ _ owned) (λ c n k batch. (all c n k batch).1),
      )

  pub set_lines_fit : AllByRecursion (λ r. line_fits r ≡ true) set.lines
  set_lines_fit = lines_fit set.lines makes.whole.owned lines_of_batch
