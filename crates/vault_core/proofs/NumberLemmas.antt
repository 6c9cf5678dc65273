-- Rows that are numbered without a hole: the one with a number.
use Rattle.std.proofs.Common.{◌≡◌, ℕ, ◌+◌, ◌-◌, ◌<◌, zero, suc, List, [], ◌∷◌, true, false, refl, ◌∙◌, ap, arith}
use Rattle.std.specs.Prelude.{◌==◌, find, slice_get, None}
use Rattle.std.proofs.lemmas.Bool.Decides.{nat_tests}
use Rattle.vault_core.specs.Rules.{is_numbered_from}

-- in rows that are numbered from m, row m + k stands at place k
module _ {R : Type 0} (number : R → ℕ) where
  pub none_below : (rs : List R) (m n : ℕ) → is_numbered_from number m rs ≡ true → n < m
      → find (λ r. number r == n) rs ≡ None
  none_below [] m n h lt = refl
  none_below (r ∷ rs) m n h lt =
      let other : (number r == n) ≡ false = grind (arith, nat_tests, h, lt) in
      rw other (none_below rs (m + 1) n (grind (arith, h)) (omega arith))

  pub numbered_at : (rs : List R) (m k : ℕ) → is_numbered_from number m rs ≡ true
      → slice_get rs k ≡ find (λ r. number r == m + k) rs
  numbered_at [] m k h = refl
  numbered_at (r ∷ rs) m zero h =
      let here : (number r == m + zero) ≡ true = grind (arith, nat_tests, h) in
      rw here refl
  numbered_at (r ∷ rs) m (suc k) h =
      let other : (number r == m + suc k) ≡ false = grind (arith, nat_tests, h) in
      rw other (numbered_at rs (m + 1) k (grind (arith, h)) ∙ ap (λ n. find (λ r. number r == n) rs) (omega arith))

  pub numbered_from_one : (rs : List R) (n : ℕ) → is_numbered_from number 1 rs ≡ true → 0 < n
      → slice_get rs (n - 1) ≡ find (λ r. number r == n) rs
  numbered_from_one rs n h lt = numbered_at rs 1 (n - 1) h ∙ ap (λ n. find (λ r. number r == n) rs) (omega (arith, lt))
