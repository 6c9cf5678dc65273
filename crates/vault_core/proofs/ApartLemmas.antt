-- Keys that differ. Once they are in order, equal ones are neighbours.
use Rattle.std.proofs.Common.{◌≡◌, ◌<◌, ◌+◌, ℕ, List, [], ◌∷◌, length, get_or, Bool, true, false, not, refl, sym, ◌∙◌}
use Rattle.std.proofs.Common.{ap, arith}
use Rattle.std.specs.Prelude.{map, nat_eq, bytes_eq, ◌&&◌, ◌||◌, Option, Some, None}
use Rattle.std.specs.Borrow.{Bor}
use Rattle.std.specs.declared.cmp.Ordering.{Ordering}
use Rattle.std.specs.declared.cmp.Ordering.TheVariants.{Less, Equal, Greater}
use Rattle.std.specs.Ordering.{eq_by_cmp, nat_cmp, is_lt, is_eq, ordering_reverse, ordering_then}
use Rattle.std.specs.Cmp.{IsTotalOrder, unsigned_ties}
use Rattle.std.specs.Cmp.Lexicographic.{slice_cmp, lists_ties}
use Rattle.std.specs.List.{list_any, filter_map, cons_option, AllByRecursion, AllAdjacentBelow, IsAllAdjacentAnswer}
use Rattle.std.specs.List.{IsDistinct}
use Rattle.std.specs.List.Sorted.{IsPermutation, IsSorted, IsStrictlySortedBy}
use Rattle.std.proofs.lemmas.Cmp.{eq_by_cmp_equiv}
use Rattle.std.proofs.lemmas.List.Sorted.{IsPermutation-sym}
use Rattle.std.proofs.lemmas.Map.Keys.{IsDistinct-from_sorted, IsDistinct-IsPermutation, apart_from_distinct}
use Rattle.std.proofs.lemmas.Map.Keys.{sorted_from_all_adjacent}
use Rattle.vault_core.specs.Rules.{are_apart, is_same_grant}
use Rattle.vault_core.specs.Keys.{are_both}

is_less : (o : Ordering) → true ≡ is_lt o → o ≡ Less
is_less Less h = refl
is_less Equal h = cc
is_less Greater h = cc

less_unless : (p q : Ordering) → p ≡ ordering_reverse q → is_lt q ≡ false → is_eq p ≡ false → is_lt p ≡ true
less_unless Less q back up apart = refl
less_unless Equal q back up apart = cc
less_unless Greater Less back up apart = cc
less_unless Greater Equal back up apart = cc
less_unless Greater Greater back up apart = cc

module _ {K : Type 0} {R : K → K → Ordering} (o : IsTotalOrder R) where
  rises : (xs : List K) → AllAdjacentBelow (λ x y. true ≡ is_lt (R x y)) xs (length xs) → IsStrictlySortedBy R xs
  unfolding IsStrictlySortedBy
  rises [] h = tt
  rises (x ∷ xs) h = sorted_from_all_adjacent o (x ∷ xs) x (λ k lt. is_less _ (h k x lt))

  next_is_greater : (xs : List K) (k : ℕ) (d : K) → IsSorted R xs → IsDistinct (eq_by_cmp R) xs → k + 1 < length xs
      → is_lt (R (get_or xs k d) (get_or xs (k + 1) d)) ≡ true
  next_is_greater xs k d sorted apart lt =
      less_unless _ _ (o.antisymm (get_or xs k d) (get_or xs (k + 1) d)) (sorted k d (omega arith) lt)
      (apart_from_distinct (eq_by_cmp R) xs k (k + 1) d apart (omega arith) lt)

  no_equal_pair : (xs : List K) (k : ℕ) → IsSorted R xs → IsDistinct (eq_by_cmp R) xs → k + 1 < length xs
      → ((d : K) → false ≡ is_lt (R (get_or xs k d) (get_or xs (k + 1) d))) → ⊥
  no_equal_pair [] k sorted apart lt h = absurd (omega arith)
  no_equal_pair (x ∷ xs) k sorted apart lt h =
      let less = next_is_greater (x ∷ xs) k x sorted apart lt in let not_less = h x in cc

  -- keys in order, of which each is less than the next, are keys that differ
  pub apart_is : (xs ys : List K) (r : Bool) → IsPermutation xs ys → IsSorted R ys
      → IsAllAdjacentAnswer (λ x y b. b ≡ is_lt (R x y)) ys r
      → (r ≡ true → IsDistinct (eq_by_cmp R) xs) × (IsDistinct (eq_by_cmp R) xs → r ≡ true)
  apart_is xs ys true moved sorted h = (
    λ _. IsDistinct-IsPermutation (eq_by_cmp R) (eq_by_cmp_equiv o).symm ys xs (IsPermutation-sym xs ys moved)
        (IsDistinct-from_sorted R ys (rises ys h)),
    λ _. refl,
  )
  apart_is xs ys false moved sorted h = (
    λ e. absurd (cc),
    λ apart. absurd
        (no_equal_pair ys h.0 sorted
        (IsDistinct-IsPermutation (eq_by_cmp R) (eq_by_cmp_equiv o).symm xs ys moved apart) h.1 h.2),
  )

module _ {K : Type 0} (e : K → K → Bool) where
  none-from_test : (x : K) (xs : List K) → list_any (e x) xs ≡ false → AllByRecursion (λ y. e x y ≡ false) xs
  none-from_test x [] h = tt
  none-from_test x (y ∷ ys) h = (grind (arith, h), none-from_test x ys (grind (arith, h)))

  test-from_none : (x : K) (xs : List K) → AllByRecursion (λ y. e x y ≡ false) xs → list_any (e x) xs ≡ false
  test-from_none x [] h = refl
  test-from_none x (y ∷ ys) h = let first = h.0 in let rest = test-from_none x ys h.1 in grind (arith, first, rest)

  distinct-from_test : (xs : List K) → are_apart e xs ≡ true → IsDistinct e xs
  unfolding IsDistinct
  distinct-from_test [] h = tt
  distinct-from_test (x ∷ xs) h = (none-from_test x xs (grind (arith, h)), distinct-from_test xs (grind (arith, h)))

  test-from_distinct : (xs : List K) → IsDistinct e xs → are_apart e xs ≡ true
  unfolding IsDistinct
  test-from_distinct [] h = refl
  test-from_distinct (x ∷ xs) h =
      let none = test-from_none x xs h.0 in let rest = test-from_distinct xs h.1 in grind (arith, none, rest)

  same_answer : (xs : List K) (r s : Bool) → s ≡ are_apart e xs
      → (r ≡ true → IsDistinct e xs) × (IsDistinct e xs → r ≡ true) → r ≡ s
  same_answer xs true s is h = sym (test-from_distinct xs (h.0 refl)) ∙ sym is
  same_answer xs false true is h = h.1 (distinct-from_test xs (sym is))
  same_answer xs false false is h = refl

module _ {K J : Type 0} (e : J → J → Bool) (f : K → J) where
  any-map : (a : J) (xs : List K) → list_any (λ x. e a (f x)) xs ≡ list_any (e a) (map f xs)
  any-map a [] = refl
  any-map a (x ∷ xs) = grind (arith, any-map a xs)

  pub apart-map : (xs : List K) → are_apart (λ x y. e (f x) (f y)) xs ≡ are_apart e (map f xs)
  apart-map [] = refl
  apart-map (x ∷ xs) = grind (arith, any-map (f x) xs, apart-map xs)

-- rows of which some have a key, pair by pair
module _ {K J : Type 0} (e : J → J → Bool) (f : K → Option J) where
  none_both : (xs : List K) → list_any (λ x. are_both e None (f x)) xs ≡ false
  none_both [] = refl
  none_both (x ∷ xs) = none_both xs

  any_both : (a : J) (xs : List K) → list_any (λ x. are_both e (Some a) (f x)) xs ≡ list_any (e a) (filter_map f xs)
  any_both a [] = refl
  any_both a (x ∷ xs) =
      elim (f x)
      as (λ o. (are_both e (Some a) o || list_any (λ y. are_both e (Some a) (f y)) xs)
      ≡ list_any (e a) (cons_option o (filter_map f xs))) [
        | None ↦ any_both a xs
        | Some b ↦ ap (λ r. e a b || r) (any_both a xs)
      ]

  pub apart_both : (xs : List K) → are_apart (λ x y. are_both e (f x) (f y)) xs ≡ are_apart e (filter_map f xs)
  apart_both [] = refl
  apart_both (x ∷ xs) =
      elim (f x)
      as (λ o. (not (list_any (λ y. are_both e o (f y)) xs) && are_apart (λ y z. are_both e (f y) (f z)) xs)
      ≡ are_apart e (cons_option o (filter_map f xs))) [
        | None ↦ ap (λ r. not r && are_apart (λ y z. are_both e (f y) (f z)) xs) (none_both xs) ∙ apart_both xs
        | Some a ↦ (λ i. not (any_both a xs i) && apart_both xs i)
      ]

-- barcodes, compared as texts
pub barcodes_apart : (texts : List (Bor (List ℕ))) (barcodes : List (List ℕ)) (r : Bool)
    → map (λ b. b.now) texts ≡ barcodes
    → (r ≡ true → IsDistinct (eq_by_cmp (λ x y. slice_cmp nat_cmp x.now y.now)) texts)
    × (IsDistinct (eq_by_cmp (λ x y. slice_cmp nat_cmp x.now y.now)) texts → r ≡ true)
    → r ≡ are_apart bytes_eq barcodes
barcodes_apart texts barcodes r are h =
    same_answer (eq_by_cmp (λ (x y : Bor (List ℕ)). slice_cmp nat_cmp x.now y.now)) texts r
    (are_apart bytes_eq barcodes)
    (ap (are_apart bytes_eq) (sym are)
    ∙ ap (λ (e : List ℕ → List ℕ → Bool). are_apart e (map (λ (b : Bor (List ℕ)). b.now) texts))
    (λ i x y. lists_ties {E = nat_eq} nat_cmp unsigned_ties x y i)
    ∙ sym (apart-map (eq_by_cmp (slice_cmp nat_cmp)) (λ (b : Bor (List ℕ)). b.now) texts))
    h

-- arrays of bytes
pub arrays_apart : (arrays texts : List (List ℕ)) (r : Bool) → arrays ≡ texts
    → (r ≡ true → IsDistinct (eq_by_cmp (slice_cmp nat_cmp)) arrays)
    × (IsDistinct (eq_by_cmp (slice_cmp nat_cmp)) arrays → r ≡ true)
    → r ≡ are_apart bytes_eq texts
arrays_apart arrays texts r are h =
    same_answer (eq_by_cmp (slice_cmp nat_cmp)) arrays r (are_apart bytes_eq texts)
    (ap (are_apart bytes_eq) (sym are)
    ∙ ap (λ (e : List ℕ → List ℕ → Bool). are_apart e arrays)
    (λ i x y. lists_ties {E = nat_eq} nat_cmp unsigned_ties x y i))
    h

-- numbers
pub numbers_apart : (numbers values : List ℕ) (r : Bool) → numbers ≡ values
    → (r ≡ true → IsDistinct (eq_by_cmp nat_cmp) numbers) × (IsDistinct (eq_by_cmp nat_cmp) numbers → r ≡ true)
    → r ≡ are_apart nat_eq values
numbers_apart numbers values r are h =
    same_answer (eq_by_cmp nat_cmp) numbers r (are_apart nat_eq values)
    (ap (are_apart nat_eq) (sym are) ∙ ap (λ (e : ℕ → ℕ → Bool). are_apart e numbers) (λ i x y. unsigned_ties x y i))
    h

-- a clip and a grantee
both_equal : (o p : Ordering) → is_eq (ordering_then o p) ≡ (is_eq o && is_eq p)
both_equal Less p = refl
both_equal Equal p = refl
both_equal Greater p = refl

abbrev grant_cmp : ℕ × ℕ → ℕ × ℕ → Ordering
grant_cmp a b = ordering_then (nat_cmp a.0 b.0) (nat_cmp a.1 b.1)

grant_ties : (a b : ℕ × ℕ) → is_same_grant a b ≡ eq_by_cmp grant_cmp a b
grant_ties a b =
    (λ i. unsigned_ties a.0 b.0 i && unsigned_ties a.1 b.1 i) ∙ sym (both_equal (nat_cmp a.0 b.0) (nat_cmp a.1 b.1))

pub grants_apart : (keys grants : List (ℕ × ℕ)) (r : Bool) → keys ≡ grants
    → (r ≡ true → IsDistinct (eq_by_cmp grant_cmp) keys) × (IsDistinct (eq_by_cmp grant_cmp) keys → r ≡ true)
    → r ≡ are_apart is_same_grant grants
grants_apart keys grants r are h =
    same_answer (eq_by_cmp grant_cmp) keys r (are_apart is_same_grant grants)
    (ap (are_apart is_same_grant) (sym are)
    ∙ ap (λ (e : ℕ × ℕ → ℕ × ℕ → Bool). are_apart e keys) (λ i a b. grant_ties a b i))
    h
