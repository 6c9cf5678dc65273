-- Keys that rise differ.
use Rattle.std.proofs.Common.{◌≡◌, ◌∙◌, zero, suc, ◌+◌, ℤ, Bool, true, false, List, [], ◌∷◌, map, length, refl, sym, ap}
use Rattle.std.proofs.Common.{ap₂, subst, Ordering, Less, Equal, Greater, is_eq, is_lt, int_cmp, IsPermutation}
use Rattle.std.proofs.Common.{true≢false, arith, Option, Some, None, IfSome, IfNone, inl, inr, Result, Ok, Err, IfOk}
use Rattle.std.specs.Ordering.{ordering_reverse}
use Rattle.std.specs.List.{AllByRecursion, AllAdjacentBelow, IsAllAdjacentAnswer, AllZip, Contains}
use Rattle.std.specs.Cmp.{IsTotalOrder}
use Rattle.std.specs.List.Sorted.{IsStrictlySortedBy, IsSorted}
use Rattle.std.proofs.lemmas.Map.Keys.{sorted_from_all_adjacent}
use Rattle.std.proofs.lemmas.List.Sorted.{IsPermutation-sym}
use Rattle.std.proofs.lemmas.Cmp.{int_cmp_total}
use Rattle.sqlite_value.specs.declared.value.Value.{Value}
use Rattle.sqlite_value.specs.declared.value.Value.TheVariants.{Int}
use Rattle.sqlite_value.specs.Order.{Row, value_cmp}
use Rattle.sqlite_value.proofs.OrderLemmas.{value_cmp-Int}
use Rattle.sqlite_trees.specs.Tree.{rowid, IsAscending}
use Rattle.sqlite_keyed.specs.Lists.{insert_sorted, sort_by}
use Rattle.sqlite_keyed.proofs.ListLemmas.{all_weaker, ascending_weaker, ascending-map, ascending_from_map}
use Rattle.sqlite_rules.specs.Edit.{id_in}
use Rattle.sqlite_trees.proofs.ListLemmas.{ascending-get_or}
use Rattle.std.specs.Fn.{Shared, Mut, FnReturnsAt, ComputesOnPairs}
use denote.Ref.{Bor}
use Rattle.station_tables_records.specs.Content.{HaveRowids, AreApart, HaveKeys}
use Rattle.station_tables_records.specs.Table.{TypedTable, IsTable, ReadAs, ReadAsNone}
use Rattle.station_tables_records.specs.RowReading.{ReadsAs, ReadEach, ReadInOrder, ReadsNothing}
use Rattle.station_tables_records.proofs.WriteLemmas.{ascending_permutes, apart_back}

-- each is below each later one
abbrev pub Rise : {K : Type 0} → (K → K → Ordering) → List K → Type 0
Rise cmp = IsAscending (λ a b. cmp a b ≡ Less)

module _ {K : Type 0} (cmp : K → K → Ordering) (total : IsTotalOrder cmp) where
  each_later : (ks : List K) → IsStrictlySortedBy cmp ks → Rise cmp ks
  unfolding IsStrictlySortedBy
  each_later [] h = tt
  each_later (k ∷ ks) h = (h.0, each_later ks h.1)

  pub rise_from_neighbours : (ks : List K) → AllAdjacentBelow (λ x y. cmp x y ≡ Less) ks (length ks) → Rise cmp ks
  rise_from_neighbours [] next = tt
  rise_from_neighbours (k ∷ ks) next =
      each_later (k ∷ ks) (sorted_from_all_adjacent total (k ∷ ks) k (λ i h. next i k h))

  less_from_test : (o : Ordering) → true ≡ is_lt o → o ≡ Less
  less_from_test Less found = refl
  less_from_test Equal found = absurd (true≢false found)
  less_from_test Greater found = absurd (true≢false found)

  -- a test of each key and the next found each below the next
  pub rise_from_test : (ks : List K) → IsAllAdjacentAnswer (λ x y b. b ≡ is_lt (cmp x y)) ks true → Rise cmp ks
  rise_from_test ks found = rise_from_neighbours ks (λ k d h. less_from_test _ (found k d h))

  below_from_apart : (a b : K) (o : Ordering) → cmp a b ≡ o → is_eq o ≡ false → is_lt (cmp b a) ≡ false → is_lt o ≡ true
  below_from_apart a b Less is apart sorted = refl
  below_from_apart a b Equal is apart sorted = absurd (true≢false apart)
  below_from_apart a b Greater is apart sorted =
      absurd (true≢false (sym (ap is_lt (total.antisymm b a ∙ ap ordering_reverse is)) ∙ sorted))

  -- sorted keys that differ rise
  pub rise_from_sorted : (ks : List K) → HaveKeys cmp ks → IsSorted cmp ks → Rise cmp ks
  rise_from_sorted ks apart sorted =
      rise_from_neighbours ks
      (λ k d within. less_from_test _
      (sym
      (below_from_apart _ _ _ refl (ascending-get_or _ ks k (k + 1) d apart (omega arith) within)
      (sorted k d (omega arith) within))))

  -- the test finds it of keys that rise
  pub test_from_rise : (ks : List K) (found : Bool) → Rise cmp ks
      → IsAllAdjacentAnswer (λ x y b. b ≡ is_lt (cmp x y)) ks found → found ≡ true
  test_from_rise ks true rise answer = refl
  test_from_rise [] false rise (k, within, above) = absurd (omega (arith, within))
  test_from_rise (d ∷ ks) false rise (k, within, above) =
      absurd
      (true≢false (sym (ap is_lt (ascending-get_or _ (d ∷ ks) k (k + 1) d rise (omega arith) within)) ∙ sym (above d)))

  pub rising_differ : (ks : List K) → Rise cmp ks → HaveKeys cmp ks
  rising_differ ks rise = ascending_weaker _ _ (λ a b h. ap is_eq h) ks rise

  -- in whatever order they come
  pub differ_from_rising : (ks sorted : List K) → IsPermutation ks sorted → Rise cmp sorted → HaveKeys cmp ks
  differ_from_rising ks sorted same rise =
      ascending_permutes _ (apart_back cmp total) sorted ks (IsPermutation-sym _ _ same) (rising_differ sorted rise)

  in_front : (k : K) (ks : List K) → AllByRecursion (λ l. cmp k l ≡ Less) ks → insert_sorted cmp k ks ≡ k ∷ ks
  in_front k [] below = refl
  in_front k (l ∷ ks) below = rw below.0 refl

  -- keys that rise are sorted as they stand
  pub rising_sorted : (ks : List K) → Rise cmp ks → sort_by cmp ks ≡ ks
  rising_sorted [] rise = refl
  rising_sorted (k ∷ ks) rise = ap (insert_sorted cmp k) (rising_sorted ks rise.1) ∙ in_front k ks rise.0

-- what is made of each element of a list, where it says the same as the element in its place of another
pub map_from_zip : {A B C : Type 0} (R : A → B → Type 0) (f : A → C) (h : B → C) → ((a : A) (b : B) → R a b → h b ≡ f a)
    → (xs : List A) (ys : List B) → AllZip R xs ys → map h ys ≡ map f xs
map_from_zip R f h same [] [] each = refl
map_from_zip R f h same [] (y ∷ ys) each = absurd each
map_from_zip R f h same (x ∷ xs) [] each = absurd each
map_from_zip R f h same (x ∷ xs) (y ∷ ys) each =
    ap₂ (λ c cs. c ∷ cs) (same x y each.0) (map_from_zip R f h same xs ys each.1)

read_from_zip : {A B : Type 0} (R : A → B → Type 0) (f : A → B) → ((a : A) (b : B) → R a b → f a ≡ b)
    → (xs : List A) (ys : List B) → AllZip R xs ys → map f xs ≡ ys
read_from_zip R f same [] [] each = refl
read_from_zip R f same [] (y ∷ ys) each = absurd each
read_from_zip R f same (x ∷ xs) [] each = absurd each
read_from_zip R f same (x ∷ xs) (y ∷ ys) each =
    ap₂ (λ c cs. c ∷ cs) (same x y each.0) (read_from_zip R f same xs ys each.1)

pub all_from_zip : {A B : Type 0} (R : A → B → Type 0) (P : A → Type 0) → ((a : A) (b : B) → R a b → P a)
    → (xs : List A) (ys : List B) → AllZip R xs ys → AllByRecursion P xs
all_from_zip R P says [] [] each = tt
all_from_zip R P says [] (y ∷ ys) each = absurd each
all_from_zip R P says (x ∷ xs) [] each = absurd each
all_from_zip R P says (x ∷ xs) (y ∷ ys) each = (says x y each.0, all_from_zip R P says xs ys each.1)

pub zip_weaker : {A B : Type 0} {R S : A → B → Type 0} (xs : List A) (ys : List B) → AllZip R xs ys
    → ((a : A) (b : B) → R a b → S a b) → AllZip S xs ys
zip_weaker [] [] each weaker = tt
zip_weaker [] (y ∷ ys) each weaker = absurd each
zip_weaker (x ∷ xs) [] each weaker = absurd each
zip_weaker (x ∷ xs) (y ∷ ys) each weaker = (weaker x y each.0, zip_weaker xs ys each.1 weaker)

-- the same of what was made of the elements
read_from_mapped : {A B C : Type 0} (R : A → B → Type 0) (f : C → A) (g : C → B) (cs : List C) (ys : List B)
    → AllZip R (map f cs) ys → ((c : C) (b : B) → R (f c) b → g c ≡ b) → map g cs ≡ ys
read_from_mapped R f g [] [] each same = refl
read_from_mapped R f g [] (y ∷ ys) each same = absurd each
read_from_mapped R f g (c ∷ cs) [] each same = absurd each
read_from_mapped R f g (c ∷ cs) (y ∷ ys) each same =
    ap₂ (λ b bs. b ∷ bs) (same c y each.0) (read_from_mapped R f g cs ys each.1 same)

pub read_shown : {A B C : Type 0} (R : A → B → Type 0) (f : C → A) (g : C → B) (rows : List A) (cs : List C)
    (ys : List B) → AllZip R rows ys → rows ≡ map f cs → ((c : C) (b : B) → R (f c) b → g c ≡ b) → map g cs ≡ ys
read_shown R f g rows cs ys each is = read_from_mapped R f g cs ys (subst (λ xs. AllZip R xs ys) is each)

-- what is said of a value that is there
pub of_some : {X : Type 0} (P : X → Type 0) {o : Option X} {x : X} → IfSome o P → o ≡ Some x → P x
of_some P said is = subst (λ o. IfSome o P) is said

-- integers stand for the rowids of these rows
abbrev pub AreRowids : List Row → List ℤ → Type 0
AreRowids = AllZip (λ row id. rowid row ≡ Int id)

pub rowids_are_integers : (rows : List Row) (ids : List ℤ) → AreRowids rows ids → HaveRowids rows
rowids_are_integers = all_from_zip _ _ (λ row id is. is ∙ ap Int (sym (ap id_in is)))

rowids_mapped : (rows : List Row) (ids : List ℤ) → AreRowids rows ids → map Int ids ≡ map rowid rows
rowids_mapped = map_from_zip _ rowid Int (λ row id is. sym is)

abbrev apart_values : Value → Value → Type 0
apart_values v w = is_eq (value_cmp v w) ≡ false

-- integers that differ in some order are rowids that differ
pub rowids_apart : (rows : List Row) (ids sorted : List ℤ) → AreRowids rows ids → IsPermutation ids sorted
    → Rise int_cmp sorted → AreApart rows
rowids_apart rows ids sorted are same rise =
    ascending_from_map apart_values rowid rows
    (subst (IsAscending apart_values) (rowids_mapped rows ids are)
    (ascending-map apart_values Int ids
    (ascending_weaker _ _ (λ a b h. ap is_eq (value_cmp-Int a b) ∙ h) ids
    (differ_from_rising int_cmp int_cmp_total ids sorted same rise))))

-- and rowids that differ are integers that differ, in any order
pub integers_apart : (rows : List Row) (ids sorted : List ℤ) → AreRowids rows ids → IsPermutation ids sorted
    → AreApart rows → HaveKeys int_cmp sorted
integers_apart rows ids sorted are same apart =
    ascending_permutes _ (apart_back int_cmp int_cmp_total) ids sorted same
    (ascending_weaker _ _ (λ a b h. ap is_eq (sym (value_cmp-Int a b)) ∙ h) ids
    (ascending_from_map apart_values Int ids
    (subst (IsAscending apart_values) (sym (rowids_mapped rows ids are))
    (ascending-map apart_values rowid rows apart))))

all_at : {A : Type 0} (P : A → Type 0) (xs : List A) → AllByRecursion P xs → (x : A) → Contains xs x → P x
all_at P [] all x (k, within, is) = absurd (omega (arith, within))
all_at P (y ∷ ys) all x (zero, within, is) = subst P is all.0
all_at P (y ∷ ys) all x (suc k, within, is) = all_at P ys all.1 x (k, omega (arith, within), is)

-- a function reads each row as the table does, and its test is the order of the table's keys
module _ {T F B : Type 0} (t : TypedTable T) (law : IsTable t) {reads : Shared F (Bor Row × Unit {0}) (Option T)}
    {read : F} {tests : Mut B (Bor T × (Bor T × Unit {0})) Bool} {is_before : B}
    (says : (row : Row) (value : T) → ReadsAs reads read row value → t.IsRow row × (t.of row ≡ value))
    (computes : ComputesOnPairs tests (λ a b. is_lt (t.cmp a b)) is_before) where
  are_read : (rows : List Row) (values : List T) → ReadEach reads read rows values → map t.of rows ≡ values
  are_read = read_from_zip _ t.of (λ row value h. (says row value h).1)

  read_in_order : (rows : List Row) (values : List T) → ReadInOrder reads read tests is_before rows values
      → ReadAs t rows values
  read_in_order rows values found =
      let are = are_read rows values found.each in
      let rise : Rise t.cmp values =
      rise_from_test t.cmp law.total values (found.order (λ a b. is_lt (t.cmp a b)) computes) in record {
        typed =
            record {
              read = all_from_zip _ t.IsRow (λ row value h. (says row value h).0) rows values found.each;
              rowids =
                  found.apart;
              keys = subst (HaveKeys t.cmp) (sym are) (rising_differ t.cmp law.total values rise);
            };
        are = are;
        rise = rise;
      }

  -- what it reads in order is what the rows read as
  pub found_as : {X E : Type 0} (items : X → List T) (rows : List Row) (r : Result (Option X) E)
      → IfOk r (λ o. IfSome o (λ x. ReadInOrder reads read tests is_before rows (items x)))
      → IfOk r (λ o. IfSome o (λ x. ReadAs t rows (items x)))
  found_as items rows (Ok (Some x)) found = read_in_order rows (items x) found
  found_as items rows (Ok None) found = tt
  found_as items rows (Err e) found = tt

  -- and where it reads each value that fits, it reads nothing of rows alone that read as no list of such
  pub none_as : {X E : Type 0} (fits : T → Bool)
      → ((row : Row) → t.IsRow row → fits (t.of row) ≡ true → FnReturnsAt reads read row None → ⊥)
      → (rows : List Row) (r : Result (Option X) E)
      → IfOk r (λ o. IfNone o (ReadsNothing reads read tests is_before rows))
      → IfOk r (λ o. IfNone o (ReadAsNone t fits rows))
  none_as fits reads_fit rows (Ok (Some x)) found = tt
  none_as fits reads_fit rows (Ok None) found = λ list can fit. nothing list can fit found
    where
      each : (rs : List Row) → AllByRecursion t.IsRow rs → AllByRecursion (λ v. fits v ≡ true) (map t.of rs)
          → AllByRecursion (λ row. FnReturnsAt reads read row None → ⊥) rs
      each [] is fit = tt
      each (r ∷ rs) is fit = (reads_fit r is.0 fit.0, each rs is.1 fit.1)

      nothing : (list : List T) → ReadAs t rows list → AllByRecursion (λ v. fits v ≡ true) list
          → ReadsNothing reads read tests is_before rows → ⊥
      nothing list can fit (inl apart) = apart (all_weaker _ _ law.numbered rows can.typed.read, can.typed.rowids)
      nothing list can fit (inr (inl none)) =
          all_at _ rows (each rows can.typed.read (subst (AllByRecursion (λ v. fits v ≡ true)) (sym can.are) fit))
          none.row none.is_one none.reads
      nothing list can fit (inr (inr (values, each, order))) =
          true≢false
          (sym
          (test_from_rise t.cmp law.total values false
          (subst (Rise t.cmp) (sym can.are ∙ are_read rows values each) can.rise)
          (order (λ a b. is_lt (t.cmp a b)) computes)))
  none_as fits reads_fit rows (Err e) found = tt
