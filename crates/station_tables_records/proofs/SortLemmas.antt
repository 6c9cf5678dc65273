-- The one sorted order of the rows of a table.
use Rattle.std.proofs.Common.{◌≡◌, zero, suc, Bool, true, false, cond, List, [], ◌∷◌, filter, refl, sym, ap, ◌∙◌, arith}
use Rattle.std.proofs.Common.{Ordering, Less, Equal, Greater, is_lt, is_gt, true≢false, IsPermutation, IsSorted}
use Rattle.std.specs.List.{AllByRecursion}
use Rattle.std.specs.Cmp.{IsTotalOrder}
use Rattle.std.specs.Ordering.{ordering_reverse}
use Rattle.std.proofs.lemmas.Cmp.{upto}
use Rattle.std.proofs.lemmas.List.Sorted.{IsPermutation-trans, IsPermutation-sym}
use Rattle.sqlite_trees.specs.Tree.{IsAscending}
use Rattle.sqlite_keyed.specs.Lists.{insert_sorted, sort_by}
use Rattle.sqlite_keyed.proofs.ListLemmas.{all_weaker, IsPermutation-filter, ascending-filter}
use Rattle.sqlite_keyed.proofs.SortLemmas.{sorted_is-sort_by, IsPermutation-sort_by}
use Rattle.station_tables_records.specs.Content.{HaveKeys}

module _ {X : Type 0} (cmp : X → X → Ordering) (total : IsTotalOrder cmp) where
  abbrev AtMost : X → X → Type 0
  AtMost a b = is_gt (cmp a b) ≡ false

  all-insert_sorted : (P : X → Type 0) (new : X) (xs : List X) → P new → AllByRecursion P xs
      → AllByRecursion P (insert_sorted cmp new xs)
  all-insert_sorted P new [] h all = (h, tt)
  all-insert_sorted P new (x ∷ xs) h all =
      elim (is_gt (cmp new x)) as (λ b. AllByRecursion P (cond b (x ∷ insert_sorted cmp new xs) (new ∷ x ∷ xs)))
      [ true ↦ (all.0, all-insert_sorted P new xs h all.1) | false ↦ (h, all) ]

  turned : (o : Ordering) → is_gt o ≡ true → is_gt (ordering_reverse o) ≡ false
  turned Less h = absurd (true≢false (sym h))
  turned Equal h = refl
  turned Greater h = refl

  rises-insert_sorted : (new : X) (xs : List X) → IsAscending AtMost xs → IsAscending AtMost (insert_sorted cmp new xs)
  rises-insert_sorted new [] up = (tt, tt)
  rises-insert_sorted new (x ∷ xs) up = go (is_gt (cmp new x)) refl (rises-insert_sorted new xs up.1)
    where
      go : (b : Bool) → is_gt (cmp new x) ≡ b → IsAscending AtMost (insert_sorted cmp new xs)
          → IsAscending AtMost (cond b (x ∷ insert_sorted cmp new xs) (new ∷ x ∷ xs))
      go false e more = ((e, all_weaker _ (AtMost new) (λ y. upto total new x y e) xs up.0), up)
      go true e more = (all-insert_sorted _ new xs (ap is_gt (total.antisymm x new) ∙ turned (cmp new x) e) up.0, more)

  rises-sort_by : (xs : List X) → IsAscending AtMost (sort_by cmp xs)
  rises-sort_by [] = tt
  rises-sort_by (x ∷ xs) = rises-insert_sorted x _ (rises-sort_by xs)

  back : (o : Ordering) → is_gt (ordering_reverse o) ≡ false → is_lt o ≡ false
  back Less h = h
  back Equal h = refl
  back Greater h = refl

  pub sorted_from_ascending : (xs : List X) → IsAscending AtMost xs → IsSorted cmp xs
  sorted_from_ascending [] up k d p q = absurd (omega arith)
  sorted_from_ascending (x ∷ []) up k d p q = absurd (omega arith)
  sorted_from_ascending (x ∷ y ∷ xs) up zero d p q = back (cmp y x) (sym (ap is_gt (total.antisymm x y)) ∙ up.0.0)
  sorted_from_ascending (x ∷ y ∷ xs) up (suc k) d p q =
      rw Rattle.std.proofs.Common.add-one
      (rw Rattle.std.proofs.Common.add-one at (sorted_from_ascending (y ∷ xs) up.1 k d (omega arith) (omega arith)))

  pub is_sorted-sort_by : (xs : List X) → IsSorted cmp (sort_by cmp xs)
  is_sorted-sort_by xs = sorted_from_ascending _ (rises-sort_by xs)

  -- lists with the same elements and no ties sort alike
  pub sort_same : (xs ys : List X) → HaveKeys cmp xs → IsPermutation xs ys → sort_by cmp ys ≡ sort_by cmp xs
  sort_same xs ys apart same =
      sorted_is-sort_by cmp total xs (sort_by cmp ys) apart
      (IsPermutation-trans _ _ _ same (IsPermutation-sym _ _ (IsPermutation-sort_by cmp total ys)))
      (is_sorted-sort_by ys)

  pub sort-filter : (p : X → Bool) (xs : List X) → HaveKeys cmp xs
      → sort_by cmp (filter p xs) ≡ filter p (sort_by cmp xs)
  sort-filter p xs apart =
      sym (sorted_is-sort_by cmp total (filter p xs) (filter p (sort_by cmp xs)) (ascending-filter _ p xs apart)
      (IsPermutation-filter p _ _ (IsPermutation-sym _ _ (IsPermutation-sort_by cmp total xs)))
      (sorted_from_ascending _ (ascending-filter AtMost p _ (rises-sort_by xs))))
