-- Rows in the order of their keys, where bisection finds those of one day.
use Rattle.std.proofs.Common.{◌≡◌, ◌<◌, ◌≤◌, ℕ, zero, suc, List, [], ◌∷◌, length, take, drop, filter, Bool, true, false}
use Rattle.std.proofs.Common.{Some, None, Result, Ok, Err, is_ok, refl, sym, ◌∙◌, ap, ap₂, arith, Ordering, Less, Equal}
use Rattle.std.proofs.Common.{Greater, is_lt, is_eq, nat_cmp, subst, true≢false, inl, inr}
use Rattle.std.specs.Prelude.{◌==◌, ◌||◌, find, slice_get, slice_index_or, nat_lt, if◌then◌else◌}
use Rattle.std.specs.Ordering.{is_le, ordering_then, ordering_index}
use Rattle.std.specs.List.{AllByRecursion, list_any}
use Rattle.std.specs.List.Sorted.{IsPartitionedBy, IsPartitionPoint, IsNonDecreasingBy, IsBinarySearchResult}
use Rattle.std.specs.List.Sorted.{IsSearchInRange}
use Rattle.std.proofs.lemmas.List.Folds.{list_any_at, list_any_none}
use Rattle.std.proofs.lemmas.Bool.{cases_lt}
use Rattle.std.proofs.lemmas.Bool.Decides.{nat_tests}
use Rattle.sqlite_trees.proofs.ListLemmas.{ascending-get_or}
use Rattle.sqlite_keyed.proofs.ListLemmas.{all_weaker}
use Rattle.channel_plan.specs.declared.plan.PlanRow.{PlanRow}
use Rattle.station_tables_records.specs.declared.day_rows.DayRow.{DayRow}
use Rattle.station_tables_records.specs.declared.day_rows.ItemRow.{ItemRow}
use Rattle.station_tables_records.specs.MadeDays.{Rise, item_cmp, plan_cmp, day_cmp, side_of_day, is_of_day, is_day}
use Rattle.station_tables_records.specs.MadeDays.{row_of}

-- rows by the side of what is looked for
module _ {R : Type 0} (side : R → Ordering) where
  abbrev mine : R → Bool
  mine r = is_eq (side r)

  between : (o : Ordering) → is_lt o ≡ false → is_le o ≡ true → is_eq o ≡ true
  between Less a b = absurd (true≢false a)
  between Equal a b = refl
  between Greater a b = absurd (true≢false (sym b))

  past : (o : Ordering) → is_le o ≡ false → is_eq o ≡ false
  past Less a = absurd (true≢false a)
  past Equal a = absurd (true≢false a)
  past Greater a = refl

  before : (o : Ordering) → is_lt o ≡ true → is_eq o ≡ false
  before Less a = refl
  before Equal a = absurd (true≢false (sym a))
  before Greater a = absurd (true≢false (sym a))

  none_there : (rs : List R) → ((k : ℕ) (d : R) → k < length rs → is_le (side (slice_index_or rs k d)) ≡ false)
      → filter mine rs ≡ []
  none_there [] h = refl
  none_there (r ∷ rs) h =
      let here : mine r ≡ false = past (side r) (h 0 r (omega arith)) in
      let rest = none_there rs (λ k d lt. h (suc k) d (omega arith)) in
      rw here rest

  in_front : (rs : List R) (b : ℕ) → b ≤ length rs
      → ((k : ℕ) (d : R) → k < length rs → is_lt (side (slice_index_or rs k d)) ≡ false)
      → IsPartitionPoint (λ r. is_le (side r) ≡ true) (λ r. is_le (side r) ≡ false) rs b → take b rs ≡ filter mine rs
  in_front rs zero le from until = sym (none_there rs (λ k d lt. until.1 k d (omega arith) lt))
  in_front [] (suc b) le from until = absurd (omega arith)
  in_front (r ∷ rs) (suc b) le from until =
      let here : mine r ≡ true = between (side r) (from 0 r (omega arith)) (until.0 0 r (omega arith) (omega arith)) in
      let rest =
      in_front rs b (omega arith) (λ k d lt. from (suc k) d (omega arith)) (
        λ k d low lt. until.0 (suc k) d (omega arith) (omega arith),
        λ k d low lt. until.1 (suc k) d (omega arith)
            (omega arith),
      ) in
      ap (λ l. r ∷ l) rest ∙ rw here refl

  from_place : (rs : List R) (a b : ℕ) → a ≤ length rs → b ≤ length (drop a rs)
      → IsPartitionPoint (λ r. is_lt (side r) ≡ true) (λ r. is_lt (side r) ≡ false) rs a
      → IsPartitionPoint (λ r. is_le (side r) ≡ true) (λ r. is_le (side r) ≡ false) (drop a rs) b
      → take b (drop a rs) ≡ filter mine rs
  from_place rs zero b within le from until = in_front rs b le (λ k d lt. from.1 k d (omega arith) lt) until
  from_place [] (suc a) b within le from until = absurd (omega arith)
  from_place (r ∷ rs) (suc a) b within le from until =
      let other : mine r ≡ false = before (side r) (from.0 0 r (omega arith) (omega arith)) in
      let rest =
      from_place rs a b (omega arith) le (
        λ k d low lt. from.0 (suc k) d (omega arith) (omega arith),
        λ k d low lt. from.1 (suc k) d (omega arith)
            (omega arith),
      ) until in
      rest ∙ rw other refl

  -- the rows from where they begin to where those behind begin
  pub found_behind : (rs from own : List R) (a b : ℕ) → from ≡ drop a rs → own ≡ take b from → a ≤ length rs
      → b ≤ length from → IsPartitionPoint (λ r. is_lt (side r) ≡ true) (λ r. is_lt (side r) ≡ false) rs a
      → IsPartitionPoint (λ r. is_le (side r) ≡ true) (λ r. is_le (side r) ≡ false) from b → own ≡ filter mine rs
  found_behind rs from own a b is shown within le first last =
      shown ∙ ap (take b) is
      ∙ from_place rs a b within (subst (λ l. b ≤ length l) is le) first
      (subst (λ l. IsPartitionPoint (λ r. is_le (side r) ≡ true) (λ r. is_le (side r) ≡ false) l b) is last)

pub any_same : {R : Type 0} (p q : R → Bool) → ((r : R) → p r ≡ q r) → (rs : List R) → list_any p rs ≡ list_any q rs
any_same p q same [] = refl
any_same p q same (r ∷ rs) = ap₂ (λ a b. a || b) (same r) (any_same p q same rs)

-- rows in the order of their keys
module _ {R : Type 0} (cmp : R → R → Ordering) where
  pub parted : (p : R → Bool) → ((a b : R) → cmp a b ≡ Less → p b ≡ true → p a ≡ true) → (rs : List R) → Rise cmp rs
      → IsPartitionedBy p rs
  parted p back rs rise i j d le lt h = elim (cases_lt i j) [
    | inl below ↦ back _ _ (ascending-get_or _ rs i j d rise below lt) h
    | inr at ↦ subst (λ k. p (slice_index_or rs k d) ≡ true) (omega arith) h
  ]

  module _ (side : R → Ordering)
      (rising : (a b : R) → cmp a b ≡ Less → ordering_index (side a) ≤ ordering_index (side b)) where
    sides_rise : (rs : List R) → Rise cmp rs → IsNonDecreasingBy (λ r. ordering_index (side r)) rs
    sides_rise rs rise i j d le lt = elim (cases_lt i j) [
      | inl below ↦ rising (slice_index_or rs i d) (slice_index_or rs j d) (ascending-get_or _ rs i j d rise below lt)
      | inr at ↦ let same : i ≡ j = omega arith in
          subst (λ k. ordering_index (side (slice_index_or rs i d)) ≤ ordering_index (side (slice_index_or rs k d)))
          same
          (omega arith)
    ]

    answered : (rs : List R) (r : Result ℕ ℕ) → Rise cmp rs → IsSearchInRange r (length rs)
        → IsBinarySearchResult side rs r → is_ok r ≡ list_any (λ x. is_eq (side x)) rs
    answered [] (Ok i) rise bound found = absurd (omega arith)
    answered (d ∷ rs) (Ok i) rise bound found =
        sym (list_any_at (λ x. is_eq (side x)) (d ∷ rs) i d bound (ap is_eq (found d)))
    answered rs (Err i) rise bound found = sym (list_any_none (λ x. is_eq (side x)) rs (λ k d lt. away k d lt))
      where
        cut : IsPartitionPoint (λ y. side y ≡ Less) (λ y. side y ≡ Greater) rs i
        cut = found (sides_rise rs rise)

        away : (k : ℕ) (d : R) → k < length rs → is_eq (side (slice_index_or rs k d)) ≡ false
        away k d lt = elim (cases_lt k i) [
          | inl low ↦ ap is_eq (cut.0 k d (omega arith) low)
          | inr high ↦ ap is_eq (cut.1 k d high lt)
        ]

    -- what a search answers
    pub searched : (p : R → Bool) → ((x : R) → is_eq (side x) ≡ p x) → (rs : List R) (r : Result ℕ ℕ) → Rise cmp rs
        → IsSearchInRange r (length rs) → IsBinarySearchResult side rs r → is_ok r ≡ list_any p rs
    searched p same rs r rise bound found = answered rs r rise bound found ∙ any_same _ _ same rs

  -- the rows behind a place
  pub drop_rises : (rs : List R) (a : ℕ) → Rise cmp rs → Rise cmp (drop a rs)
  drop_rises rs zero rise = rise
  drop_rises [] (suc a) rise = rise
  drop_rises (r ∷ rs) (suc a) rise = drop_rises rs a rise.1

-- two rows of one order, beside a day
module _ (c n : ℕ) where
  lt_back : (a b : ℕ × ItemRow) → item_cmp a b ≡ Less → is_lt (side_of_day c n b) ≡ true
      → is_lt (side_of_day c n a) ≡ true
  lt_back a b less h = grind (arith, nat_tests, less, h)

  le_back : (a b : ℕ × ItemRow) → item_cmp a b ≡ Less → is_le (side_of_day c n b) ≡ true
      → is_le (side_of_day c n a) ≡ true
  le_back a b less h = grind (arith, nat_tests, less, h)

  pub parted_lt : (rs : List (ℕ × ItemRow)) → Rise item_cmp rs → IsPartitionedBy (λ r. is_lt (side_of_day c n r)) rs
  parted_lt = parted item_cmp (λ r. is_lt (side_of_day c n r)) lt_back

  pub parted_le : (rs : List (ℕ × ItemRow)) → Rise item_cmp rs → IsPartitionedBy (λ r. is_le (side_of_day c n r)) rs
  parted_le = parted item_cmp (λ r. is_le (side_of_day c n r)) le_back

  pub beside : (r : ℕ × ItemRow) → is_eq (side_of_day c n r) ≡ is_of_day c n r
  beside r = grind (arith, nat_tests)

-- the channel's row of a plan in order
find_none : (c : ℕ) (rs : List PlanRow) → AllByRecursion (λ r. (r.ch == c) ≡ false) rs
    → find (λ (p : PlanRow). p.ch == c) rs ≡ None
find_none c [] none = refl
find_none c (r ∷ rs) none = rw none.0 (find_none c rs none.1)

pub found_row : (c : ℕ) (rs : List PlanRow) (a : ℕ) → a ≤ length rs
    → IsPartitionPoint (λ r. nat_lt r.ch c ≡ true) (λ r. nat_lt r.ch c ≡ false) rs a → Rise plan_cmp rs
    → find (λ (p : PlanRow). p.ch == c) rs ≡ row_of c (slice_get (drop a rs) 0)
found_row c [] zero le cut rise = refl
found_row c [] (suc a) le cut rise = absurd (omega arith)
found_row c (r ∷ rs) zero le cut rise = by (r.ch == c) refl
  where
    by : (b : Bool) → (r.ch == c) ≡ b
        → (if b then Some r else find (λ (p : PlanRow). p.ch == c) rs) ≡ (if b then Some r else None)
    by true e = refl
    by false e =
        let here : nat_lt r.ch c ≡ false = cut.1 0 r (omega arith) (omega arith) in
        find_none c rs
        (all_weaker _ (λ (s : PlanRow). (s.ch == c) ≡ false) (λ s below. grind (arith, nat_tests, e, here, below))
        rs rise.0)
found_row c (r ∷ rs) (suc a) le cut rise =
    let here : nat_lt r.ch c ≡ true = cut.0 0 r (omega arith) (omega arith) in
    let other : (r.ch == c) ≡ false = grind (arith, nat_tests, here) in
    rw other
    (found_row c rs a (omega arith) (
      λ k d low lt. cut.0 (suc k) d (omega arith) (omega arith),
      λ k d low lt. cut.1 (suc k) d (omega arith)
          (omega arith),
    ) rise.1)

below_back : (c : ℕ) (a b : PlanRow) → plan_cmp a b ≡ Less → nat_lt b.ch c ≡ true → nat_lt a.ch c ≡ true
below_back c a b less h = grind (arith, nat_tests, less, h)

pub parted_plan : (c : ℕ) (rs : List PlanRow) → Rise plan_cmp rs → IsPartitionedBy (λ (r : PlanRow). nat_lt r.ch c) rs
parted_plan c = parted plan_cmp (λ (r : PlanRow). nat_lt r.ch c) (below_back c)

-- what a search for a day answers
abbrev pub beside_day : ℕ → ℕ → ℕ × DayRow → Ordering
beside_day c n r = ordering_then (nat_cmp r.0 c) (nat_cmp r.1.number n)

rising_sides : (c n : ℕ) (a b : ℕ × DayRow) → day_cmp a b ≡ Less
    → ordering_index (beside_day c n a) ≤ ordering_index (beside_day c n b)
rising_sides c n a b less = grind (arith, nat_tests, less)

at_day : (c n : ℕ) (r : ℕ × DayRow) → is_eq (beside_day c n r) ≡ is_day c n r
at_day c n r = grind (arith, nat_tests)

pub searched_day : (c n : ℕ) (rs : List (ℕ × DayRow)) (r : Result ℕ ℕ) → Rise day_cmp rs → IsSearchInRange r (length rs)
    → IsBinarySearchResult (beside_day c n) rs r → is_ok r ≡ list_any (is_day c n) rs
searched_day c n = searched day_cmp (beside_day c n) (rising_sides c n) (is_day c n) (at_day c n)
