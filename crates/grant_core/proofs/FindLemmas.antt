-- Grants in order, of which bisection finds that of an owner and a number.
use Rattle.std.proofs.Common.{◌≡◌, ◌<◌, ◌≤◌, ℕ, zero, suc, List, [], ◌∷◌, length, drop, Bool, true, false, refl, subst}
use Rattle.std.proofs.Common.{arith, inl, inr}
use Rattle.std.specs.Prelude.{◌==◌, ◌&&◌, ◌||◌, nat_lt, find, slice_get, slice_index_or, Some, None, if◌then◌else◌}
use Rattle.std.specs.List.Sorted.{IsPartitionedBy, IsPartitionPoint}
use Rattle.std.proofs.lemmas.Bool.{and_parts, cases_lt}
use Rattle.std.proofs.lemmas.Bool.Decides.{nat_tests}
use Rattle.grant_core.specs.declared.grant.Grant.{Grant}
use Rattle.grant_core.specs.Grant.{is_before, is_before_first, are_in_order, is_below, if_grant}

before_both : (a b c : Grant) → is_before a b ≡ true → is_before b c ≡ true → is_before a c ≡ true
before_both a b c first second = grind (arith, nat_tests, first, second)

-- the first stands before each behind it
before_rest : (g : Grant) (gs : List Grant) (j : ℕ) (d : Grant) → are_in_order (g ∷ gs) ≡ true → j < length gs
    → is_before g (slice_index_or gs j d) ≡ true
before_rest g [] j d order lt = absurd (omega arith)
before_rest g (h ∷ hs) zero d order lt = (and_parts (is_before g h) (are_in_order (h ∷ hs)) order).0
before_rest g (h ∷ hs) (suc j) d order lt =
    let parts = and_parts (is_before g h) (are_in_order (h ∷ hs)) order in
    before_both g h (slice_index_or hs j d) parts.0 (before_rest h hs j d parts.1 (omega arith))

pub before_later : (gs : List Grant) (i j : ℕ) (d : Grant) → are_in_order gs ≡ true → i < j → j < length gs
    → is_before (slice_index_or gs i d) (slice_index_or gs j d) ≡ true
before_later [] i j d order later lt = absurd (omega arith)
before_later (g ∷ gs) i zero d order later lt = absurd (omega arith)
before_later (g ∷ gs) zero (suc j) d order later lt = before_rest g gs j d order (omega arith)
before_later (g ∷ gs) (suc i) (suc j) d order later lt =
    before_later gs i j d (and_parts (is_before_first g gs) (are_in_order gs) order).1 (omega arith) (omega arith)

module _ (owner n : ℕ) where
  abbrev is_it : Grant → Bool
  is_it g = g.owner == owner && g.offer.n == n

  below_too : (a b : Grant) → is_before a b ≡ true → is_below owner n b ≡ true → is_below owner n a ≡ true
  below_too a b before below = grind (arith, nat_tests, before, below)

  pub parted : (gs : List Grant) → are_in_order gs ≡ true → IsPartitionedBy (is_below owner n) gs
  parted gs order i j d le lt below = elim (cases_lt i j) [
    | inl earlier ↦ below_too (slice_index_or gs i d) (slice_index_or gs j d) (before_later gs i j d order earlier lt)
        below
    | inr same ↦ subst (λ k. is_below owner n (slice_index_or gs k d) ≡ true) (omega arith) below
  ]

  -- neither below it, nor the grant itself
  abbrev is_past : Grant → Bool
  is_past g = nat_lt owner g.owner || (g.owner == owner && nat_lt n g.offer.n)

  past : (g : Grant) → is_below owner n g ≡ false → is_it g ≡ false → is_past g ≡ true
  past g below it = grind (arith, nat_tests, below, it)

  past_too : (a b : Grant) → is_before a b ≡ true → is_past a ≡ true → is_past b ≡ true
  past_too a b before here = grind (arith, nat_tests, before, here)

  past_is_other : (g : Grant) → is_past g ≡ true → is_it g ≡ false
  past_is_other g here = grind (arith, nat_tests, here)

  below_is_other : (g : Grant) → is_below owner n g ≡ true → is_it g ≡ false
  below_is_other g here = grind (arith, nat_tests, here)

  none_behind : (g : Grant) (gs : List Grant) → are_in_order (g ∷ gs) ≡ true → is_past g ≡ true → find is_it gs ≡ None
  none_behind g [] order here = refl
  none_behind g (h ∷ hs) order here =
      let parts = and_parts (is_before g h) (are_in_order (h ∷ hs)) order in
      let there : is_past h ≡ true = past_too g h parts.0 here in
      rw (past_is_other h there) (none_behind h hs parts.1 there)

  -- it is the first that isn't below it, or none
  pub found_at : (gs : List Grant) (k : ℕ) → k ≤ length gs
      → IsPartitionPoint (λ g. is_below owner n g ≡ true) (λ g. is_below owner n g ≡ false) gs k
      → are_in_order gs ≡ true
      → find is_it gs ≡ if_grant owner n (slice_get (drop k gs) 0)
  found_at [] zero le cut order = refl
  found_at [] (suc k) le cut order = absurd (omega arith)
  found_at (g ∷ gs) zero le cut order = by (is_it g) refl
    where
      by : (b : Bool) → is_it g ≡ b → (if b then Some g else find is_it gs) ≡ (if b then Some g else None)
      by true e = refl
      by false e = none_behind g gs order (past g (cut.1 0 g (omega arith) (omega arith)) e)
  found_at (g ∷ gs) (suc k) le cut order =
      let other : is_it g ≡ false = below_is_other g (cut.0 0 g (omega arith) (omega arith)) in
      rw other (
      found_at gs k (omega arith) (
        λ j d low lt. cut.0 (suc j) d (omega arith) (omega arith),
        λ j d low lt. cut.1 (suc j) d (omega arith)
            (omega arith),
      )
      (and_parts (is_before_first g gs) (are_in_order gs) order).1
      )
