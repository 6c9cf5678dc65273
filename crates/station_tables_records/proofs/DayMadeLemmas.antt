-- What a change of rows is of the days that they make.
use Rattle.std.proofs.Common.{◌≡◌, ◌≢◌, ℕ, Bool, true, false, cond, not, ◌&&◌, List, [], ◌∷◌, map, filter, Some, None}
use Rattle.std.proofs.Common.{refl, sym, ap, ap₂, ◌∙◌, subst, arith, true≢false, Ordering, Less, is_gt}
use Rattle.std.specs.Prelude.{◌==◌, ◌||◌, nat_lt, find, if◌then◌else◌}
use Rattle.std.specs.List.{AllByRecursion, list_any, list_all}
use Rattle.std.proofs.lemmas.Bool.Decides.{nat_tests}
use Rattle.std.proofs.lemmas.List.Sorted.{list_any-IsPermutation}
use Rattle.sqlite_keyed.specs.Lists.{insert_sorted, sort_by, delete_where, update_where}
use Rattle.sqlite_keyed.proofs.SortLemmas.{IsPermutation-sort_by}
use Rattle.sqlite_keyed.proofs.ListLemmas.{filter-filter, all-filter, all_weaker, all_from_test, test_from_all}
use Rattle.channel_plan.specs.declared.plan.PlanRow.{PlanRow}
use Rattle.playlist_core.specs.declared.item.Item.{Item}
use Rattle.playlist_core.specs.declared.day.DayState.{DayState}
use Rattle.playlist_core.specs.declared.day.DayState.TheVariants.{NotThere, Open, Sealed}
use Rattle.playlist_core.specs.Item.{planned}
use Rattle.playlist_core.specs.Order.{AreApart}
use Rattle.playlist_core.specs.Day.{Day, has_number, AreNumbered}
use Rattle.station_tables_records.specs.declared.day_rows.DayRow.{DayRow}
use Rattle.station_tables_records.specs.declared.day_rows.ItemRow.{ItemRow}
use Rattle.playlist_core.specs.Difference.{same_item, is_among, not_among}
use Rattle.station_tables_records.specs.MadeDays.{Rise, day_cmp, item_cmp, DaySet, is_day, is_day_in, is_item_in}
use Rattle.station_tables_records.specs.MadeDays.{is_made_in, has_day, is_of_day, is_item_of, items_at, position_cmp}
use Rattle.station_tables_records.specs.MadeDays.{frames_in, frames_of, state_in, day_made, days_made, is_sealed}
use Rattle.station_tables_records.specs.MadeDays.{row_of_day, replace_row, LacksItem, put_day}
use Rattle.station_tables_records.proofs.Turns.{without_items, with_items, AreNew, change_items, put_rows}
use Rattle.station_tables_records.proofs.MadeLemmas.{apart_rise, position_total}
use Rattle.playlist_core.proofs.SameLemmas.{nat_is, same_is, same_itself}
use Rattle.station_tables_records.proofs.AmongLemmas.{among_has, HaveOwnNumbers, own_kept, added_is_new, difference_is}
use Rattle.station_tables_records.proofs.AmongLemmas.{placed}

-- ---- the items of one day

module _ (c n : ℕ) where
  -- whether one of the day's items passes a test
  abbrev any : (Item → Bool) → List (ℕ × ItemRow) → Bool
  any p rows = list_any p (items_at c n rows)

  any_cons : (p : Item → Bool) (r : ℕ × ItemRow) (rows : List (ℕ × ItemRow))
      → any p (r ∷ rows) ≡ ((is_of_day c n r && p r.1.item) || any p rows)
  any_cons p r rows =
      elim (is_of_day c n r)
      as (λ b. list_any p
      (map (λ (s : ℕ × ItemRow). s.1.item) (cond b (r ∷ filter (is_of_day c n) rows) (filter (is_of_day c n) rows)))
      ≡ ((b && p r.1.item) || any p rows))
      [ true ↦ refl | false ↦ refl ]

  -- DELETE
  delete_own : (p : Item → Bool) (k : ℕ) (y : Bool) → ((i : Item) → p i ≡ true → (i.n == k) ≡ y)
      → (rows : List (ℕ × ItemRow)) → any p (delete_where (is_item_of c n k) rows) ≡ (any p rows && not y)
  delete_own p k y numbers [] = refl
  delete_own p k y numbers (r ∷ rows) = go (is_item_of c n k r) refl (delete_own p k y numbers rows)
    where
      absorb : (t : Bool) → (t && false) ≡ false
      absorb true = refl
      absorb false = refl

      gone : (a b s t : Bool) (d y : Bool) → (a && (b && d)) ≡ true → (s ≡ true → d ≡ y)
          → (t && not y) ≡ (((a && b) && s || t) && not y)
      gone true true false t true y is h = refl
      gone true true true t true true is h = absorb t
      gone true true true t true false is h = absurd (true≢false (h refl))
      gone true true s t false y is h = absurd (true≢false (sym is))
      gone true false s t d y is h = absurd (true≢false (sym is))
      gone false b s t d y is h = absurd (true≢false (sym is))

      left : (a b s t u : Bool) (d y : Bool) → (a && (b && d)) ≡ false → (s ≡ true → d ≡ y) → u ≡ (t && not y)
          → ((a && b) && s || u) ≡ (((a && b) && s || t) && not y)
      left true true true t u false y not_ h rest = ap not (h refl)
      left true true true t u true y not_ h rest = absurd (true≢false not_)
      left true true false t u d y not_ h rest = rest
      left true false s t u d y not_ h rest = rest
      left false b s t u d y not_ h rest = rest

      go : (e : Bool) → is_item_of c n k r ≡ e → any p (delete_where (is_item_of c n k) rows) ≡ (any p rows && not y)
          → any p (cond (not e) (r ∷ delete_where (is_item_of c n k) rows) (delete_where (is_item_of c n k) rows))
          ≡ (any p (r ∷ rows) && not y)
      go true is rest =
          rest ∙ gone (r.0 == c) (r.1.day == n) (p r.1.item) (any p rows) (r.1.item.n == k) y is (numbers r.1.item)
          ∙ ap (λ b. b && not y) (sym (any_cons p r rows))
      go false is rest =
          any_cons p r (delete_where (is_item_of c n k) rows)
          ∙ left (r.0 == c) (r.1.day == n) (p r.1.item) (any p rows) (any p (delete_where (is_item_of c n k) rows))
          (r.1.item.n == k) y is (numbers r.1.item) rest
          ∙ ap (λ b. b && not y) (sym (any_cons p r rows))

  without_own : (p : Item → Bool) (m : ℕ) → ((i : Item) → p i ≡ true → i.n ≡ m)
      → (gone : List Item) (rows : List (ℕ × ItemRow))
      → any p (without_items c n gone rows) ≡ (any p rows && not (has_number gone m))
  without_own p m number [] rows = whole (any p rows)
    where
      whole : (b : Bool) → b ≡ (b && true)
      whole true = refl
      whole false = refl
  without_own p m number (g ∷ gs) rows =
      without_own p m number gs (delete_where (is_item_of c n g.n) rows)
      ∙ ap (λ b. b && not (has_number gs m)) (delete_own p g.n (m == g.n) (λ i h. ap (λ j. j == g.n) (number i h)) rows)
      ∙ both (any p rows) (m == g.n) (has_number gs m) ∙ ap (λ e. any p rows && not (e || has_number gs m)) (flip m g.n)
    where
      both : (a b d : Bool) → ((a && not b) && not d) ≡ (a && not (b || d))
      both true true d = refl
      both true false d = refl
      both false b d = refl

      flip : (a b : ℕ) → (a == b) ≡ (b == a)
      flip a b = grind (arith, nat_tests)

  -- INSERT
  is_own : (i : Item) → is_of_day c n (c, record { day = n; item = i }) ≡ true
  is_own i = grind (arith, nat_tests)

  any_new : (p : Item → Bool) (i : Item) (rows : List (ℕ × ItemRow))
      → any p ((c, record { day = n; item = i }) ∷ rows) ≡ (p i || any p rows)
  any_new p i rows = any_cons p (c, record { day = n; item = i }) rows ∙ ap (λ b. (b && p i) || any p rows) (is_own i)

  insert_own : (p : Item → Bool) (i : Item) (rows : List (ℕ × ItemRow))
      → any p (insert_sorted item_cmp (c, record { day = n; item = i }) rows) ≡ (p i || any p rows)
  insert_own p i [] = any_new p i []
  insert_own p i (r ∷ rows) = go (is_gt (item_cmp (c, record { day = n; item = i }) r)) (insert_own p i rows)
    where
      turn : (a s t : Bool) → (a || (s || t)) ≡ (s || (a || t))
      turn true true t = refl
      turn true false t = refl
      turn false s t = refl

      go : (g : Bool) → any p (insert_sorted item_cmp (c, record { day = n; item = i }) rows) ≡ (p i || any p rows)
          → any p
          (if g then r
          ∷ insert_sorted item_cmp (c, record { day = n; item = i }) rows else (c, record { day = n; item = i }) ∷ r
          ∷ rows) ≡ (p i || any p (r ∷ rows))
      go true rest =
          any_cons p r (insert_sorted item_cmp (c, record { day = n; item = i }) rows)
          ∙ ap (λ b. (is_of_day c n r && p r.1.item) || b) rest
          ∙ turn (is_of_day c n r && p r.1.item) (p i) (any p rows)
          ∙ ap (λ b. p i || b) (sym (any_cons p r rows))
      go false rest = any_new p i (r ∷ rows)

  with_own : (p : Item → Bool) (added : List Item) (rows : List (ℕ × ItemRow))
      → any p (with_items c n added rows) ≡ (list_any p added || any p rows)
  with_own p [] rows = refl
  with_own p (a ∷ as_) rows =
      with_own p as_ (insert_sorted item_cmp (c, record { day = n; item = a }) rows)
      ∙ ap (λ b. list_any p as_ || b) (insert_own p a rows)
      ∙ turn (list_any p as_) (p a) (any p rows)
    where
      turn : (q s t : Bool) → (q || (s || t)) ≡ ((s || q) || t)
      turn true true t = refl
      turn true false t = refl
      turn false true t = refl
      turn false false t = refl

  -- a number that no item of the day has
  lacks : (k : ℕ) (rows : List (ℕ × ItemRow)) → has_number (items_at c n rows) k ≡ false → LacksItem c n k rows
  lacks k [] none = tt
  lacks k (r ∷ rows) none =
      let all : ((is_of_day c n r && (r.1.item.n == k)) || any (λ i. i.n == k) rows) ≡ false =
      sym (any_cons (λ i. i.n == k) r rows) ∙ none in (
        mine (r.0 == c) (r.1.day == n) (r.1.item.n == k) (any (λ i. i.n == k) rows) all,
        lacks k rows
            (rest (is_of_day c n r && (r.1.item.n == k)) (any (λ i. i.n == k) rows) all),
      )
    where
      mine : (a b d t : Bool) → (((a && b) && d) || t) ≡ false → (a && (b && d)) ≡ false
      mine true true true t h = h
      mine true true false t h = refl
      mine true false d t h = refl
      mine false b d t h = refl

      rest : (a t : Bool) → (a || t) ≡ false → t ≡ false
      rest true t h = absurd (true≢false h)
      rest false t h = h

  all_new : (added : List Item) (rows : List (ℕ × ItemRow)) → HaveOwnNumbers added
      → ((a : Item) → is_among added a ≡ true → has_number (items_at c n rows) a.n ≡ false) → AreNew c n added rows
  all_new [] rows own fresh = tt
  all_new (a ∷ as_) rows own fresh = (
    lacks a.n rows (fresh a (here (same_item a a) (is_among as_ a) (same_itself a))),
    all_new as_ (insert_sorted item_cmp (c, record { day = n; item = a }) rows) own.1
        (λ b there. insert_own (λ i. i.n == b.n) a rows
        ∙ ap₂ (λ e f. e || f) (unlike b there (a.n == b.n) refl)
        (fresh b (later (same_item a b) (is_among as_ b) there))),
  )
    where
      here : (s t : Bool) → s ≡ true → (s || t) ≡ true
      here s t h = ap (λ u. u || t) h

      later : (s t : Bool) → t ≡ true → (s || t) ≡ true
      later true t h = refl
      later false t h = h

      unlike : (b : Item) → is_among as_ b ≡ true → (e : Bool) → (a.n == b.n) ≡ e → e ≡ false
      unlike b there false is = refl
      unlike b there true is =
          absurd (true≢false (sym (among_has as_ b there) ∙ ap (has_number as_) (sym (nat_is a.n b.n is)) ∙ own.0))

  -- the items that a change adds have numbers that the day lacks where their turn comes
  pub added_are_new : (old new : List Item) (rows : List (ℕ × ItemRow))
      → ((p : Item → Bool) → any p rows ≡ list_any p old) → HaveOwnNumbers new
      → AreNew c n (not_among old new) (without_items c n (not_among new old) rows)
  added_are_new old new rows alike own =
      all_new (not_among old new) (without_items c n (not_among new old) rows)
      (own_kept (λ i. not (is_among old i)) new own)
      (λ a added. without_own (λ i. i.n == a.n) a.n (λ i same. nat_is i.n a.n same) (not_among new old) rows
      ∙ ap (λ b. b && not (has_number (not_among new old) a.n)) (alike (λ i. i.n == a.n))
      ∙ added_is_new old new own a added)

  -- numbers that rise differ
  none_later : (r : ℕ × ItemRow) (rows : List (ℕ × ItemRow)) → is_of_day c n r ≡ true
      → AllByRecursion (λ s. item_cmp r s ≡ Less) rows → has_number (items_at c n rows) r.1.item.n ≡ false
  none_later r [] mine below = refl
  none_later r (s ∷ rows) mine below = go (is_of_day c n s) refl (none_later r rows mine below.1)
    where
      apart : is_of_day c n s ≡ true → (s.1.item.n == r.1.item.n) ≡ false
      apart same = let less = below.0 in grind (arith, nat_tests, mine, same, less)

      go : (b : Bool) → is_of_day c n s ≡ b → has_number (items_at c n rows) r.1.item.n ≡ false
          → has_number
          (map (λ (t : ℕ × ItemRow). t.1.item) (cond b (s ∷ filter (is_of_day c n) rows) (filter (is_of_day c n) rows)))
          r.1.item.n ≡ false
      go true e rest = ap (λ b. b || has_number (items_at c n rows) r.1.item.n) (apart e) ∙ rest
      go false e rest = rest

  pub own_numbers : (rows : List (ℕ × ItemRow)) → Rise item_cmp rows → HaveOwnNumbers (items_at c n rows)
  own_numbers [] up = tt
  own_numbers (r ∷ rows) up = go (is_of_day c n r) refl (own_numbers rows up.1)
    where
      go : (b : Bool) → is_of_day c n r ≡ b → HaveOwnNumbers (items_at c n rows)
          → HaveOwnNumbers
          (map (λ (t : ℕ × ItemRow). t.1.item) (cond b (r ∷ filter (is_of_day c n) rows) (filter (is_of_day c n) rows)))
      go true e rest = (none_later r rows e up.0, rest)
      go false e rest = rest

  -- the day's items, changed, are the new ones
  pub items_changed : (old new : List Item) (rows : List (ℕ × ItemRow))
      → ((p : Item → Bool) → any p rows ≡ list_any p old) → HaveOwnNumbers old → Rise position_cmp new
      → Rise item_cmp (change_items c n old new rows)
      → sort_by position_cmp (items_at c n (change_items c n old new rows)) ≡ new
  items_changed old new rows alike own up rise_after =
      let left = without_items c n (not_among new old) rows in
      placed new (items_at c n (change_items c n old new rows)) up
      (own_numbers (change_items c n old new rows) rise_after)
      (λ x. with_own (λ i. same_item i x) (not_among old new) left
      ∙ ap (λ b. is_among (not_among old new) x || b)
      (without_own (λ i. same_item i x) x.n (λ i same. ap (λ (j : Item). j.n) (same_is i x same)) (not_among new old)
      rows ∙ ap (λ b. b && not (has_number (not_among new old) x.n)) (alike (λ i. same_item i x)))
      ∙ difference_is old new x own)

  -- ---- the items of the other days

  module _ (d m : ℕ) (other : (d == c && m == n) ≡ false) where
    away : (k : ℕ) (r : ℕ × ItemRow) → is_of_day d m r ≡ true → not (is_item_of c n k r) ≡ true
    away k r there = grind (arith, nat_tests, other, there)

    without_others : (gone : List Item) (rows : List (ℕ × ItemRow))
        → filter (is_of_day d m) (without_items c n gone rows) ≡ filter (is_of_day d m) rows
    without_others [] rows = refl
    without_others (g ∷ gs) rows =
        without_others gs (delete_where (is_item_of c n g.n) rows)
        ∙ filter-filter (is_of_day d m) (λ r. not (is_item_of c n g.n r)) (away g.n) rows

    unlike : (i : Item) → is_of_day d m (c, record { day = n; item = i }) ≡ false
    unlike i = grind (arith, nat_tests, other)

    insert_other : (i : Item) (rows : List (ℕ × ItemRow))
        → filter (is_of_day d m) (insert_sorted item_cmp (c, record { day = n; item = i }) rows)
        ≡ filter (is_of_day d m) rows
    insert_other i [] = ap (λ b. cond b ((c, record { day = n; item = i }) ∷ []) []) (unlike i)
    insert_other i (r ∷ rows) = go (is_gt (item_cmp (c, record { day = n; item = i }) r)) (insert_other i rows)
      where
        go : (g : Bool)
            → filter (is_of_day d m) (insert_sorted item_cmp (c, record { day = n; item = i }) rows)
            ≡ filter (is_of_day d m) rows
            → filter (is_of_day d m)
            (if g then r
            ∷ insert_sorted item_cmp (c, record { day = n; item = i }) rows else (c, record { day = n; item = i }) ∷ r
            ∷ rows) ≡ filter (is_of_day d m) (r ∷ rows)
        go true rest = ap (λ l. cond (is_of_day d m r) (r ∷ l) l) rest
        go false rest =
            ap
            (λ b. cond b ((c, record { day = n; item = i }) ∷ filter (is_of_day d m) (r ∷ rows))
            (filter (is_of_day d m) (r ∷ rows))) (unlike i)

    with_others : (added : List Item) (rows : List (ℕ × ItemRow))
        → filter (is_of_day d m) (with_items c n added rows) ≡ filter (is_of_day d m) rows
    with_others [] rows = refl
    with_others (a ∷ as_) rows =
        with_others as_ (insert_sorted item_cmp (c, record { day = n; item = a }) rows) ∙ insert_other a rows

    pub others_changed : (old new : List Item) (rows : List (ℕ × ItemRow))
        → items_at d m (change_items c n old new rows) ≡ items_at d m rows
    others_changed old new rows =
        ap (map (λ (r : ℕ × ItemRow). r.1.item))
        (with_others (not_among old new) (without_items c n (not_among new old) rows)
        ∙ without_others (not_among new old) rows)

-- the numbers of a day's items differ
pub numbers_differ : (is : List Item) → AreNumbered is → HaveOwnNumbers is
numbers_differ [] numbered = tt
numbers_differ (i ∷ is) numbered = (numbered.2, numbers_differ is numbered.3)

-- ---- the days

-- the state of a day that is there is that of its row
state_again : (state : DayState) → state ≢ NotThere → state_in (is_sealed state) ≡ state
state_again NotThere there = absurd (there refl)
state_again Open there = refl
state_again Sealed there = refl

module _ (c : ℕ) (new : Day) (f g : ℕ × DayRow → ℕ × Day)
    (keys : (r : ℕ × DayRow) → ((f r).0 ≡ r.0) × ((f r).1.number ≡ r.1.number))
    (others : (r : ℕ × DayRow) → is_day c new.number r ≡ false → g r ≡ f r)
    (own : (r : ℕ × DayRow) → is_day c new.number r ≡ true → r.1.sealed ≡ is_sealed new.state → g r ≡ (c, new))
  where
    abbrev key : Day → ℕ
    key day = day.number

    own_row : is_day c new.number (c, row_of_day new) ≡ true
    own_row = grind (arith, nat_tests)

    replaces : ℕ × DayRow → List (ℕ × Day) → List (ℕ × Day)
    replaces r days =
        if r.0 == c && r.1.number == new.number then (c, new) ∷ days else
        if nat_lt c r.0 || (r.0 == c && nat_lt new.number r.1.number) then (c, new) ∷ f r ∷ days else
        f r ∷ replace_row key c new days

    replace_cons : (r : ℕ × DayRow) (days : List (ℕ × Day)) → replace_row key c new (f r ∷ days) ≡ replaces r days
    unfolding replaces
    replace_cons r days = ap₂ (λ a m.
        if a == c && m == new.number then (c, new) ∷ days else
        if nat_lt c a || (a == c && nat_lt new.number m) then (c, new) ∷ f r ∷ days else
        f r ∷ replace_row key c new days) (keys r).0 (keys r).1

    -- a day more
    inserted : (rows : List (ℕ × DayRow)) → list_any (is_day c new.number) rows ≡ false
        → map g (insert_sorted day_cmp (c, row_of_day new) rows) ≡ replace_row key c new (map f rows)
    unfolding replaces
    inserted [] none = ap (λ d. d ∷ []) (own (c, row_of_day new) own_row refl)
    inserted (r ∷ rows) none =
        go (is_gt (day_cmp (c, row_of_day new) r)) (is_day c new.number r)
        (nat_lt c r.0 || (r.0 == c && nat_lt new.number r.1.number)) refl refl refl none (inserted rows)
        ∙ sym (replace_cons r (map f rows))
      where
        same_rest : (rs : List (ℕ × DayRow)) → list_any (is_day c new.number) rs ≡ false → map g rs ≡ map f rs
        same_rest [] none = refl
        same_rest (s ∷ rs) none =
            ap₂ (λ d ds. d ∷ ds) (others s (grind (arith, none))) (same_rest rs (grind (arith, none)))

        go : (h k l : Bool) → is_gt (day_cmp (c, row_of_day new) r) ≡ h → is_day c new.number r ≡ k
            → (nat_lt c r.0 || (r.0 == c && nat_lt new.number r.1.number)) ≡ l
            → (k || list_any (is_day c new.number) rows) ≡ false
            → (list_any (is_day c new.number) rows ≡ false
            → map g (insert_sorted day_cmp (c, row_of_day new) rows) ≡ replace_row key c new (map f rows))
            → map g (if h then r ∷ insert_sorted day_cmp (c, row_of_day new) rows else (c, row_of_day new) ∷ r ∷ rows)
            ≡ (if k then (c, new)
            ∷ map f rows else (if l then (c, new) ∷ f r ∷ map f rows else f r ∷ replace_row key c new (map f rows)))
        go h true l gt is before no_one rest = absurd (true≢false no_one)
        go true false true gt is before no_one rest =
            absurd (let less = gt in grind (arith, nat_tests, less, is, before))
        go true false false gt is before no_one rest = ap₂ (λ d ds. d ∷ ds) (others r is) (rest no_one)
        go false false true gt is before no_one rest =
            ap₂ (λ d ds. d ∷ ds) (own (c, row_of_day new) own_row refl)
            (ap₂ (λ d ds. d ∷ ds) (others r is) (same_rest rows no_one))
        go false false false gt is before no_one rest =
            absurd (let less = gt in grind (arith, nat_tests, less, is, before))

    -- a day that is there
    abbrev set : ℕ × DayRow → ℕ × DayRow
    set t = (t.0, record t.1 { sealed = is_sealed new.state })

    kept : (r : ℕ × DayRow) (rows : List (ℕ × DayRow)) → is_day c new.number r ≡ true
        → AllByRecursion (λ s. day_cmp r s ≡ Less) rows
        → map g (update_where (is_day c new.number) set rows) ≡ map f rows
    kept r [] mine below = refl
    kept r (s ∷ rows) mine below =
        let unlike : is_day c new.number s ≡ false = let less = below.0 in grind (arith, nat_tests, mine, less) in
        ap₂ (λ d ds. d ∷ ds) (ap (λ b. g (if b then set s else s)) unlike ∙ others s unlike) (kept r rows mine below.1)

    set_own : (r : ℕ × DayRow) → is_day c new.number r ≡ true → g (set r) ≡ (c, new)
    set_own r mine = own (set r) mine refl

    not_before : (r : ℕ × DayRow) (rows : List (ℕ × DayRow)) → AllByRecursion (λ s. day_cmp r s ≡ Less) rows
        → list_any (is_day c new.number) rows ≡ true
        → (nat_lt c r.0 || (r.0 == c && nat_lt new.number r.1.number)) ≡ false
    not_before r [] below there = absurd (true≢false (sym there))
    not_before r (s ∷ rows) below there = by (is_day c new.number s) refl there (not_before r rows below.1)
      where
        by : (b : Bool) → is_day c new.number s ≡ b → (b || list_any (is_day c new.number) rows) ≡ true
            → (list_any (is_day c new.number) rows ≡ true
            → (nat_lt c r.0 || (r.0 == c && nat_lt new.number r.1.number)) ≡ false)
            → (nat_lt c r.0 || (r.0 == c && nat_lt new.number r.1.number)) ≡ false
        by true is_ more rest = let less = below.0 in grind (arith, nat_tests, is_, less)
        by false is_ more rest = rest more

    updated : (rows : List (ℕ × DayRow)) → Rise day_cmp rows → list_any (is_day c new.number) rows ≡ true
        → map g (update_where (is_day c new.number) set rows) ≡ replace_row key c new (map f rows)
    unfolding replaces
    updated [] up there = absurd (true≢false (sym there))
    updated (r ∷ rows) up there =
        go (is_day c new.number r) refl there (updated rows up.1) ∙ sym (replace_cons r (map f rows))
      where
        go : (k : Bool) → is_day c new.number r ≡ k → (k || list_any (is_day c new.number) rows) ≡ true
            → (list_any (is_day c new.number) rows ≡ true
            → map g (update_where (is_day c new.number) set rows) ≡ replace_row key c new (map f rows))
            → g (if k then set r else r) ∷ map g (update_where (is_day c new.number) set rows)
            ≡ (if k then (c, new)
            ∷ map f rows
            else (if nat_lt c r.0
            || (r.0 == c && nat_lt new.number r.1.number) then (c, new) ∷ f r ∷ map f rows else f r
            ∷ replace_row key c new (map f rows)))
        go true is more rest = ap₂ (λ d ds. d ∷ ds) (set_own r is) (kept r rows is up.0)
        go false is more rest =
            ap₂ (λ d ds. d ∷ ds) (others r is) (rest more)
            ∙ ap (λ b. if b then (c, new) ∷ f r ∷ map f rows else f r ∷ replace_row key c new (map f rows))
            (sym (not_before r rows up.0 more))

-- The days that the rows make, with a day in the place of the one with its number, which had the items `old`, or in the
-- order of the numbers.
pub days_replaced : (plan : List PlanRow) (c : ℕ) (new : Day) (there : Bool) (old : List Item) (rows : DaySet)
    → list_any (is_day c new.number) rows.days ≡ there
    → ((p : Item → Bool) → list_any p (items_at c new.number rows.items) ≡ list_any p old) → HaveOwnNumbers old
    → Rise day_cmp rows.days
    → Rise item_cmp (change_items c new.number old new.items rows.items) → frames_of plan c ≡ new.frames
    → new.state ≢ NotThere → AreApart planned 0 new.frames new.items
    → days_made plan (put_rows there c old new rows) ≡ replace_row (λ (d : Day). d.number) c new (days_made plan rows)
days_replaced plan c new there old rows is alike own_old days_rise after_rise frames stands apart = by there is
  where
    after : List (ℕ × ItemRow)
    after = change_items c new.number old new.items rows.items

    others : (r : ℕ × DayRow) → is_day c new.number r ≡ false → day_made plan after r ≡ day_made plan rows.items r
    others r unlike =
        ap
        (λ items. (
          r.0,
          record {
            number = r.1.number;
            frames = frames_of plan r.0;
            state = state_in r.1.sealed;
            items =
                sort_by position_cmp items;
          },
        )) (others_changed c new.number r.0 r.1.number unlike old new.items rows.items)

    own : (r : ℕ × DayRow) → is_day c new.number r ≡ true → r.1.sealed ≡ is_sealed new.state
        → day_made plan after r ≡ (c, new)
    own r mine sealed =
        let ch : r.0 ≡ c = grind (arith, nat_tests, mine) in
        let number : r.1.number ≡ new.number = grind (arith, nat_tests, mine) in
        λ i. (
          ch i,
          record {
            number = number i;
            frames = (ap (frames_of plan) ch ∙ frames) i;
            state = (ap state_in sealed ∙ state_again new.state stands) i;
            items =
                (ap₂ (λ a m. sort_by position_cmp (items_at a m after)) ch number
                ∙ items_changed c new.number old new.items rows.items alike own_old
                (apart_rise 0 new.frames new.items apart) after_rise) i;
          },
        )

    by : (b : Bool) → list_any (is_day c new.number) rows.days ≡ b
        → map (day_made plan after) (put_day b c (row_of_day new) rows.days)
        ≡ replace_row (λ (d : Day). d.number) c new (map (day_made plan rows.items) rows.days)
    by true some =
        updated c new (day_made plan rows.items) (day_made plan after) (λ r. (refl, refl)) others own rows.days
        days_rise some
    by false none =
        inserted c new (day_made plan rows.items) (day_made plan after) (λ r. (refl, refl)) others own rows.days none

-- ---- each item's day is there, still

any_inserted : {X : Type 0} (cmp : X → X → Ordering) (p : X → Bool) (x : X) (xs : List X)
    → list_any p (insert_sorted cmp x xs) ≡ (p x || list_any p xs)
any_inserted cmp p x [] = refl
any_inserted cmp p x (y ∷ ys) = go (is_gt (cmp x y)) (any_inserted cmp p x ys)
  where
    turn : (a s t : Bool) → (a || (s || t)) ≡ (s || (a || t))
    turn true true t = refl
    turn true false t = refl
    turn false s t = refl

    go : (g : Bool) → list_any p (insert_sorted cmp x ys) ≡ (p x || list_any p ys)
        → list_any p (if g then y ∷ insert_sorted cmp x ys else x ∷ y ∷ ys) ≡ (p x || (p y || list_any p ys))
    go true rest = ap (λ b. p y || b) rest ∙ turn (p y) (p x) (list_any p ys)
    go false rest = refl

-- ---- items by their positions

own_inserted : (x : Item) (is : List Item) → has_number is x.n ≡ false → HaveOwnNumbers is
    → HaveOwnNumbers (insert_sorted position_cmp x is)
own_inserted x [] none own = (refl, tt)
own_inserted x (i ∷ is) none own = by (is_gt (position_cmp x i)) (own_inserted x is (grind (arith, none)) own.1)
  where
    by : (g : Bool) → HaveOwnNumbers (insert_sorted position_cmp x is)
        → HaveOwnNumbers (if g then i ∷ insert_sorted position_cmp x is else x ∷ i ∷ is)
    by true rest =
        let here = any_inserted position_cmp (λ j. j.n == i.n) x is in
        let apart : (x.n == i.n) ≡ false = grind (arith, nat_tests, none) in
        let first = own.0 in
        (grind (arith, here, apart, first), rest)
    by false rest = (none, own)

-- a test knows no order
pub any_sorted : (p : Item → Bool) (is : List Item) → list_any p is ≡ list_any p (sort_by position_cmp is)
any_sorted p is =
    sym (list_any-IsPermutation p (sort_by position_cmp is) is (IsPermutation-sort_by position_cmp position_total is))

pub own_sorted : (is : List Item) → HaveOwnNumbers is → HaveOwnNumbers (sort_by position_cmp is)
own_sorted [] own = tt
own_sorted (i ∷ is) own =
    own_inserted i (sort_by position_cmp is) (sym (any_sorted (λ j. j.n == i.n) is) ∙ own.0) (own_sorted is own.1)

-- ---- a day whose row stays

-- the row of a day that is there, set as it is
abbrev sealed_so : Bool → ℕ × DayRow → ℕ × DayRow
sealed_so sealed t = (t.0, record t.1 { sealed = sealed })

pub row_stays : (c n : ℕ) (row : ℕ × DayRow) (days : List (ℕ × DayRow)) → Rise day_cmp days
    → find (is_day c n) days ≡ Some row → update_where (is_day c n) (sealed_so row.1.sealed) days ≡ days
row_stays c n row [] up found = refl
row_stays c n row (r ∷ days) up found = by (is_day c n r) refl (row_stays c n row days up.1) found
  where
    later : (rs : List (ℕ × DayRow)) → is_day c n r ≡ true → AllByRecursion (λ s. day_cmp r s ≡ Less) rs
        → update_where (is_day c n) (sealed_so row.1.sealed) rs ≡ rs
    later [] mine below = refl
    later (s ∷ rs) mine below =
        let unlike : is_day c n s ≡ false = let less = below.0 in grind (arith, nat_tests, mine, less) in
        ap₂ (λ d ds. d ∷ ds) (ap (λ b. if b then sealed_so row.1.sealed s else s) unlike) (later rs mine below.1)

    by : (b : Bool) → is_day c n r ≡ b
        → (find (is_day c n) days ≡ Some row → update_where (is_day c n) (sealed_so row.1.sealed) days ≡ days)
        → (if b then Some r else find (is_day c n) days) ≡ Some row
        → (if b then sealed_so row.1.sealed r else r) ∷ update_where (is_day c n) (sealed_so row.1.sealed) days
        ≡ r ∷ days
    by true mine rest found =
        let same : r ≡ row = cc in
        ap₂ (λ d ds. d ∷ ds) (ap (λ (q : ℕ × DayRow). sealed_so q.1.sealed r) (sym same)) (later days mine up.0)
    by false other rest found = ap (λ ds. r ∷ ds) (rest found)

all_inserted : {X : Type 0} (cmp : X → X → Ordering) (P : X → Type 0) (x : X) (xs : List X) → P x → AllByRecursion P xs
    → AllByRecursion P (insert_sorted cmp x xs)
all_inserted cmp P x [] h all = (h, tt)
all_inserted cmp P x (y ∷ ys) h all =
    elim (is_gt (cmp x y)) as (λ b. AllByRecursion P (if b then y ∷ insert_sorted cmp x ys else x ∷ y ∷ ys))
    [ true ↦ (all.0, all_inserted cmp P x ys h all.1) | false ↦ (h, all) ]

any_set : (c n d m : ℕ) (sealed : Bool) (days : List (ℕ × DayRow))
    → list_any (is_day d m) (update_where (is_day c n) (λ t. (t.0, record t.1 { sealed = sealed })) days)
    ≡ list_any (is_day d m) days
any_set c n d m sealed [] = refl
any_set c n d m sealed (r ∷ days) = ap₂ (λ a b. a || b) (set_one (is_day c n r)) (any_set c n d m sealed days)
  where
    set_one : (b : Bool) → is_day d m (if b then (r.0, record r.1 { sealed = sealed }) else r) ≡ is_day d m r
    set_one true = refl
    set_one false = refl

module _ (c : ℕ) (there : Bool) (row : DayRow) (days : List (ℕ × DayRow))
    (is : list_any (is_day c row.number) days ≡ there) where
  more_days : (d m : ℕ) → list_any (is_day d m) days ≡ true → list_any (is_day d m) (put_day there c row days) ≡ true
  more_days d m has = by there
    where
      or_there : (a : Bool) {b : Bool} → b ≡ true → (a || b) ≡ true
      or_there true h = refl
      or_there false h = h

      by : (b : Bool) → list_any (is_day d m) (put_day b c row days) ≡ true
      by true = any_set c row.number d m row.sealed days ∙ has
      by false = any_inserted day_cmp (is_day d m) (c, row) days ∙ or_there (is_day d m (c, row)) has

  own_day : list_any (is_day c row.number) (put_day there c row days) ≡ true
  own_day = by there is
    where
      mine : is_day c row.number (c, row) ≡ true
      mine = grind (arith, nat_tests)

      by : (b : Bool) → list_any (is_day c row.number) days ≡ b
          → list_any (is_day c row.number) (put_day b c row days) ≡ true
      by true has = any_set c row.number c row.number row.sealed days ∙ has
      by false none =
          any_inserted day_cmp (is_day c row.number) (c, row) days
          ∙ ap (λ b. b || list_any (is_day c row.number) days) mine

  abbrev Has : ℕ × ItemRow → Type 0
  Has r = has_day (put_day there c row days) r ≡ true

  without_have : (gone : List Item) (rows : List (ℕ × ItemRow)) → AllByRecursion Has rows
      → AllByRecursion Has (without_items c row.number gone rows)
  without_have [] rows all = all
  without_have (g ∷ gs) rows all =
      without_have gs (delete_where (is_item_of c row.number g.n) rows)
      (all-filter Has (λ r. not (is_item_of c row.number g.n r)) rows all)

  with_have : (added : List Item) (rows : List (ℕ × ItemRow)) → AllByRecursion Has rows
      → AllByRecursion Has (with_items c row.number added rows)
  with_have [] rows all = all
  with_have (a ∷ as_) rows all =
      with_have as_ (insert_sorted item_cmp (c, record { day = row.number; item = a }) rows)
      (all_inserted item_cmp Has (c, record { day = row.number; item = a }) rows own_day all)

pub owned_kept : (c : ℕ) (there : Bool) (old : List Item) (new : Day) (rows : DaySet)
    → list_any (is_day c new.number) rows.days ≡ there → list_all (has_day rows.days) rows.items ≡ true
    → list_all (has_day (put_rows there c old new rows).days) (put_rows there c old new rows).items ≡ true
owned_kept c there old new rows is owned =
    let row : DayRow = row_of_day new in
    let after = put_day there c row rows.days in
    test_from_all (has_day after) (change_items c new.number old new.items rows.items)
    (with_have c there row rows.days is (not_among old new.items)
    (without_items c new.number (not_among new.items old) rows.items)
    (without_have c there row rows.days is (not_among new.items old) rows.items
    (all_weaker (λ r. has_day rows.days r ≡ true) (λ r. has_day after r ≡ true)
    (λ r has. more_days c there row rows.days is r.0 r.1.day has) rows.items
    (all_from_test (has_day rows.days) rows.items owned))))

-- ---- the days in a range of numbers

pub days_within : (plan : List PlanRow) (c first last : ℕ) (items : List (ℕ × ItemRow)) (days : List (ℕ × DayRow))
    → map (day_made plan (filter (is_item_in c first last) items)) (filter (is_day_in c first last) days)
    ≡ filter (is_made_in c first last) (map (day_made plan items) days)
days_within plan c first last items [] = refl
days_within plan c first last items (r ∷ days) =
    go (is_day_in c first last r) refl (days_within plan c first last items days)
  where
    part : List (ℕ × ItemRow)
    part = filter (is_item_in c first last) items

    within : is_day_in c first last r ≡ true → (s : ℕ × ItemRow) → is_of_day r.0 r.1.number s ≡ true
        → is_item_in c first last s ≡ true
    within in_range s mine = grind (arith, nat_tests, in_range, mine)

    same : is_day_in c first last r ≡ true → day_made plan part r ≡ day_made plan items r
    same in_range =
        ap (λ l. (
          r.0,
          record {
            number = r.1.number;
            frames = frames_of plan r.0;
            state = state_in r.1.sealed;
            items =
                sort_by position_cmp (map (λ (s : ℕ × ItemRow). s.1.item) l);
          },
        ))
        (filter-filter (is_of_day r.0 r.1.number) (is_item_in c first last) (within in_range) items)

    go : (b : Bool) → is_day_in c first last r ≡ b
        → map (day_made plan part) (filter (is_day_in c first last) days)
        ≡ filter (is_made_in c first last) (map (day_made plan items) days)
        → map (day_made plan part)
        (cond b (r ∷ filter (is_day_in c first last) days) (filter (is_day_in c first last) days))
        ≡ cond b (day_made plan items r ∷ filter (is_made_in c first last) (map (day_made plan items) days))
        (filter (is_made_in c first last) (map (day_made plan items) days))
    go true in_range rest = ap₂ (λ d ds. d ∷ ds) (same in_range) rest
    go false out rest = rest

-- the channel's row stands for the plan
pub of_one_row : (p : PlanRow) (channels : List PlanRow) → find (λ (q : PlanRow). q.ch == p.ch) channels ≡ Some p
    → (first last : ℕ) (items : List (ℕ × ItemRow)) (days : List (ℕ × DayRow))
    → map (day_made (p ∷ []) items) (filter (is_day_in p.ch first last) days)
    ≡ map (day_made channels items) (filter (is_day_in p.ch first last) days)
of_one_row p channels found first last items [] = refl
of_one_row p channels found first last items (r ∷ days) =
    go (is_day_in p.ch first last r) refl (of_one_row p channels found first last items days)
  where
    itself : (p.ch == p.ch) ≡ true
    itself = grind (arith, nat_tests)

    frames : (c : ℕ) → c ≡ p.ch → frames_of (p ∷ []) c ≡ frames_of channels c
    frames c is =
        subst (λ d. frames_of (p ∷ []) d ≡ frames_of channels d) (sym is)
        (ap (λ b. frames_in (if b then Some p else None)) itself ∙ sym (ap frames_in found))

    same : is_day_in p.ch first last r ≡ true → day_made (p ∷ []) items r ≡ day_made channels items r
    same mine =
        let ch : r.0 ≡ p.ch = grind (arith, nat_tests, mine) in
        ap (λ f. (
          r.0,
          record {
            number = r.1.number;
            frames = f;
            state = state_in r.1.sealed;
            items =
                sort_by position_cmp (items_at r.0 r.1.number items);
          },
        )) (frames r.0 ch)

    go : (b : Bool) → is_day_in p.ch first last r ≡ b
        → map (day_made (p ∷ []) items) (filter (is_day_in p.ch first last) days)
        ≡ map (day_made channels items) (filter (is_day_in p.ch first last) days)
        → map (day_made (p ∷ []) items)
        (cond b (r ∷ filter (is_day_in p.ch first last) days) (filter (is_day_in p.ch first last) days))
        ≡ map (day_made channels items)
        (cond b (r ∷ filter (is_day_in p.ch first last) days) (filter (is_day_in p.ch first last) days))
    go true mine rest = ap₂ (λ d ds. d ∷ ds) (same mine) rest
    go false out rest = rest
