-- What is told of a channel's days is what their rows tell.
use Rattle.std.proofs.Common.{◌≡◌, ℕ, ◌+◌, ◌≤◌, Bool, true, false, not, ◌&&◌, List, [], ◌∷◌, ◌++◌, length, map, filter}
use Rattle.std.proofs.Common.{Option, Some, None, refl, sym, ap, ap₂, ◌∙◌, subst, arith}
use Rattle.std.specs.Prelude.{◌==◌, ◌||◌, nat_lt, nat_le, find, if◌then◌else◌}
use Rattle.std.specs.List.{AllByRecursion, list_all, flat_map}
use Rattle.std.proofs.lemmas.Bool.Decides.{nat_tests}
use Rattle.std.proofs.lemmas.List.{length-map}
use Rattle.std.proofs.lemmas.List.Sums.{sum-map}
use Rattle.std.proofs.lemmas.List.Sorted.{length_permutation, sum_by-IsPermutation}
use Rattle.sqlite_keyed.specs.Lists.{sort_by}
use Rattle.sqlite_keyed.proofs.SortLemmas.{IsPermutation-sort_by}
use Rattle.timecode.specs.Counting.{day_length}
use Rattle.channel_plan.specs.declared.plan.PlanRow.{PlanRow}
use Rattle.playlist_core.specs.declared.item.Item.{Item}
use Rattle.playlist_core.specs.Day.{Day, KeepsDayRules}
use Rattle.asrun_match.specs.declared.day.DayAsRun.{DayAsRun}
use Rattle.report_texts.specs.Days.{batches_in, batches_of, counts_line, day_counts, day_line}
use Rattle.report_texts.specs.Playlist.{frames_of}
use Rattle.channel_view_model.specs.Airings.{airing_or, airing_at}
use Rattle.channel_view_model.specs.Rules.{numbers_rise}
use Rattle.channel_view_model.specs.Tables.{of_channel, rows_of}
use Rattle.channel_view_model.proofs.TableLemmas.{picked_is}
use Rattle.station_tables_records.specs.declared.day_rows.DayRow.{DayRow}
use Rattle.station_tables_records.specs.declared.day_rows.ItemRow.{ItemRow}
use Rattle.station_tables_records.specs.MadeDays.{DaySet, Rise, day_made, is_day_in, is_item_in, is_of_day, items_at}
use Rattle.station_tables_records.specs.MadeDays.{position_cmp}
use Rattle.station_tables_records.specs.MadeAirings.{AiredSet, HaveNoHoles, airing_of_rows, airings_made, batch_cmp}
use Rattle.station_tables_records.specs.MadeAirings.{is_batch_of, rows_in_batch}
use Rattle.station_tables_records.proofs.MadeLemmas.{position_total}
use Rattle.station_tables_statements.proofs.AiringSeenLemmas.{airing_seen_is}
use Rattle.station_tables_reading.specs.DayLines.{counts_at, is_day_below}

-- ---- the rows of a day

-- those of one day alone
pub of_one_day : (c n : ℕ) (rows : List (ℕ × ItemRow)) → filter (is_item_in c n n) rows ≡ filter (is_of_day c n) rows
of_one_day c n [] = refl
of_one_day c n (r ∷ rs) =
    let same : is_item_in c n n r ≡ is_of_day c n r = grind (arith, nat_tests) in
    ap₂ (λ b l. if b then r ∷ l else l) same (of_one_day c n rs)

-- ---- the pages

module _ (plan : List PlanRow) (items : List (ℕ × ItemRow)) (c a last : ℕ) where
  -- the numbers of the channel's days rise
  abbrev rise_from : ℕ → List (ℕ × DayRow) → Type 0
  rise_from n rs = numbers_rise n (rows_of c (map (day_made plan items) rs)) ≡ true

  -- days behind a number
  abbrev is_behind : ℕ × DayRow → Bool
  is_behind s = not (s.0 == c) || nat_le a s.1.number

  rise_on : (n : ℕ) (r : ℕ × DayRow) (rs : List (ℕ × DayRow)) → (r.0 == c) ≡ true → rise_from n (r ∷ rs)
      → (nat_lt n r.1.number ≡ true) × rise_from r.1.number rs
  rise_on n r rs own rise =
      let here : (nat_lt n r.1.number && numbers_rise r.1.number (rows_of c (map (day_made plan items) rs))) ≡ true =
      ap (λ b. numbers_rise n
      (map (λ (d : ℕ × Day). d.1)
      (if b then day_made plan items r
      ∷ filter (λ d. d.0 == c) (map (day_made plan items) rs)
      else filter (λ d. d.0 == c) (map (day_made plan items) rs)))) (sym own) ∙ rise in
      (grind (arith, here), grind (arith, here))

  rise_past : (n : ℕ) (r : ℕ × DayRow) (rs : List (ℕ × DayRow)) → (r.0 == c) ≡ false → rise_from n (r ∷ rs)
      → rise_from n rs
  rise_past n r rs other rise =
      ap (λ b. numbers_rise n
      (map (λ (d : ℕ × Day). d.1)
      (if b then day_made plan items r
      ∷ filter (λ d. d.0 == c) (map (day_made plan items) rs)
      else filter (λ d. d.0 == c) (map (day_made plan items) rs)))) (sym other) ∙ rise

  behind : (n : ℕ) → a ≤ n → (rs : List (ℕ × DayRow)) → rise_from n rs → list_all is_behind rs ≡ true
  behind n le [] rise = refl
  behind n le (s ∷ rs) rise = by (s.0 == c) refl (λ m low up. behind m low rs up)
    where
      by : (own : Bool) → (s.0 == c) ≡ own → ((m : ℕ) → a ≤ m → rise_from m rs → list_all is_behind rs ≡ true)
          → list_all is_behind (s ∷ rs) ≡ true
      by true own others =
          let more = rise_on n s rs own rise in
          let up = more.0 in
          let rest = others s.1.number (grind (arith, nat_tests, le, up)) more.1 in
          grind (arith, nat_tests, le, up, rest)
      by false other others =
          let rest = others n le (rise_past n s rs other rise) in
          grind (arith, nat_tests, other, rest)

  none_below : (rs : List (ℕ × DayRow)) → list_all is_behind rs ≡ true → filter (is_day_below c a) rs ≡ []
  none_below [] all = refl
  none_below (r ∷ rs) all =
      let out : is_day_below c a r ≡ false = grind (arith, nat_tests, all) in
      let rest = none_below rs (grind (arith, all)) in
      ap₂ (λ b l. if b then r ∷ l else l) out rest

  all_within : (rs : List (ℕ × DayRow)) → list_all is_behind rs ≡ true
      → filter (is_day_below c (last + 1)) rs ≡ filter (is_day_in c a last) rs
  all_within [] all = refl
  all_within (r ∷ rs) all =
      let same : is_day_below c (last + 1) r ≡ is_day_in c a last r = grind (arith, nat_tests, all) in
      let rest = all_within rs (grind (arith, all)) in
      ap₂ (λ b l. if b then r ∷ l else l) same rest

  -- the days below a page's first number, and then those of the page
  pub next_days : a ≤ last + 1 → (n : ℕ) (rs : List (ℕ × DayRow)) → rise_from n rs
      → filter (is_day_below c (last + 1)) rs ≡ filter (is_day_below c a) rs ++ filter (is_day_in c a last) rs
  next_days le n [] rise = refl
  next_days le n (r ∷ rs) rise = by (r.0 == c) refl (nat_le a r.1.number) refl (λ m up. next_days le m rs up)
    where
      by : (own : Bool) → (r.0 == c) ≡ own → (from : Bool) → nat_le a r.1.number ≡ from
          → ((m : ℕ) → rise_from m rs
          → filter (is_day_below c (last + 1)) rs ≡ filter (is_day_below c a) rs ++ filter (is_day_in c a last) rs)
          → filter (is_day_below c (last + 1)) (r ∷ rs)
          ≡ filter (is_day_below c a) (r ∷ rs) ++ filter (is_day_in c a last) (r ∷ rs)
      by true own true from others =
          let later = behind r.1.number (grind (arith, nat_tests, from)) rs (rise_on n r rs own rise).1 in
          let here : list_all is_behind (r ∷ rs) ≡ true = grind (arith, nat_tests, own, from, later) in
          all_within (r ∷ rs) here
          ∙ ap (λ l. l ++ filter (is_day_in c a last) (r ∷ rs)) (sym (none_below (r ∷ rs) here))
      by true own false from others =
          let rest = others r.1.number (rise_on n r rs own rise).1 in
          let low : is_day_below c a r ≡ true = grind (arith, nat_tests, own, from) in
          let low_too : is_day_below c (last + 1) r ≡ true = grind (arith, nat_tests, own, from, le) in
          let out : is_day_in c a last r ≡ false = grind (arith, nat_tests, own, from) in
          grind (arith, low, low_too, out, rest)
      by false other from is others =
          let rest = others n (rise_past n r rs other rise) in
          let low : is_day_below c a r ≡ false = grind (arith, other) in
          let low_too : is_day_below c (last + 1) r ≡ false = grind (arith, other) in
          let out : is_day_in c a last r ≡ false = grind (arith, other) in
          grind (arith, low, low_too, out, rest)

-- no day has a number below 0
pub none_at_first : (c : ℕ) (rs : List (ℕ × DayRow)) → filter (is_day_below c 0) rs ≡ []
none_at_first c [] = refl
none_at_first c (r ∷ rs) =
    let out : is_day_below c 0 r ≡ false = grind (arith, nat_tests) in
    ap₂ (λ b l. if b then r ∷ l else l) out (none_at_first c rs)

-- the pages have all of the channel's days
pub all_below : (c : ℕ) (plan : List PlanRow) (items : List (ℕ × ItemRow)) (rs : List (ℕ × DayRow))
    → AllByRecursion (λ d. KeepsDayRules d.1) (map (day_made plan items) rs)
    → filter (is_day_below c 100000) rs ≡ filter (λ r. r.0 == c) rs
all_below c plan items [] each = refl
all_below c plan items (r ∷ rs) each =
    let most = each.0.digits in
    let same : is_day_below c 100000 r ≡ (r.0 == c) = grind (arith, nat_tests, most) in
    ap₂ (λ b l. if b then r ∷ l else l) same (all_below c plan items rs each.1)

-- ---- what is told of a day

frames_sorted : (items : List Item) → frames_of (sort_by position_cmp items) ≡ frames_of items
frames_sorted items =
    sum-map (λ (i : Item). i.frames) (sort_by position_cmp items)
    ∙ sym
    (sum_by-IsPermutation (λ (i : Item). i.frames) (sort_by position_cmp items) items
    (IsPermutation-sort_by position_cmp position_total items))
    ∙ sym (sum-map (λ (i : Item). i.frames) items)

count_sorted : (items : List Item) → length (sort_by position_cmp items) ≡ length items
count_sorted items =
    sym
    (length_permutation (sort_by position_cmp items) items (IsPermutation-sort_by position_cmp position_total items))

-- the batches that came for a day, as the channel sees them
batches_seen : (p : PlanRow) (o : Option DayAsRun) → batches_in o ≡ length (airing_or p o).batches
batches_seen p None = refl
batches_seen p (Some a) = refl

module _ (channels : List PlanRow) (p : PlanRow) (c : ℕ) (own : p.ch ≡ c)
    (known : find (λ q. q.ch == c) channels ≡ Some p) (days : DaySet) (aired : AiredSet)
    (rise : Rise batch_cmp aired.batches) (whole : HaveNoHoles aired) where
  abbrev seen : List DayAsRun
  seen = rows_of c (airings_made channels aired)

  -- the batches are as many as their rows
  batches_are : (n : ℕ) → batches_of seen n ≡ length (filter (is_batch_of c n) aired.batches)
  batches_are n =
      batches_seen p (find (λ a. a.day == n) seen)
      ∙ ap (λ q. length (airing_or p (q.first (λ a. a.day == n))).batches)
      (sym (picked_is (λ r. r.0 == c) (λ r. r.1) (airings_made channels aired)))
      ∙ ap (λ a. length a.batches)
      (subst
      (λ b. find (λ q. q.ch == b) channels ≡ Some p
      → airing_at p (of_channel b (airings_made channels aired)) n ≡ airing_of_rows (day_length p.rate) b n aired) own
      (λ is. airing_seen_is channels p is aired rise whole n) known)
      ∙ length-map (filter (is_batch_of c n) aired.batches) (λ b. rows_in_batch c n b.1.number aired.lines)

  told : (r : ℕ × DayRow) → r.0 ≡ c
      → day_counts (batches_of seen r.1.number) (day_made channels days.items r).1 ≡ counts_at days aired r
  told r mine = λ i. record {
    number = r.1.number;
    state = (day_made channels days.items r).1.state;
    items =
        (count_sorted (items_at r.0 r.1.number days.items)
        ∙ length-map (filter (is_of_day r.0 r.1.number) days.items) (λ s. s.1.item)) i;
    frames = frames_sorted (items_at r.0 r.1.number days.items) i;
    batches =
        (batches_are r.1.number ∙ ap (λ b. length (filter (is_batch_of b r.1.number) aired.batches)) (sym mine)) i;
  }

  -- what is told of the channel's days
  pub counts_told : (rs : List (ℕ × DayRow))
      → map (counts_at days aired) (filter (λ r. r.0 == c) rs)
      ≡ map (λ d. day_counts (batches_of seen d.number) d) (rows_of c (map (day_made channels days.items) rs))
  counts_told [] = refl
  counts_told (r ∷ rs) = by (r.0 == c) refl (counts_told rs)
    where
      by : (b : Bool) → (r.0 == c) ≡ b
          → map (counts_at days aired) (filter (λ r. r.0 == c) rs)
          ≡ map (λ d. day_counts (batches_of seen d.number) d) (rows_of c (map (day_made channels days.items) rs))
          → map (counts_at days aired) (if b then r ∷ filter (λ r. r.0 == c) rs else filter (λ r. r.0 == c) rs)
          ≡ map (λ d. day_counts (batches_of seen d.number) d)
          (map (λ d. d.1)
          (if b then day_made channels days.items r
          ∷ filter (λ d. d.0 == c) (map (day_made channels days.items) rs)
          else filter (λ d. d.0 == c) (map (day_made channels days.items) rs)))
      by true mine rest = ap₂ ◌∷◌ (sym (told r (grind (arith, nat_tests, mine)))) rest
      by false other rest = rest

-- so their table is
pub lines_told : (aired : List DayAsRun) (days : List Day)
    → flat_map counts_line (map (λ d. day_counts (batches_of aired d.number) d) days)
    ≡ flat_map (day_line aired) days
lines_told aired [] = refl
lines_told aired (d ∷ ds) = ap (λ l. day_line aired d ++ l) (lines_told aired ds)
