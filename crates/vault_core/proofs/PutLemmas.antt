-- A row that is put among numbered rows: one more stands behind them, one in the place of another changes that alone.
use Rattle.std.proofs.Common.{◌≡◌, ℕ, ◌+◌, ◌<◌, List, [], ◌∷◌, ◌++◌, length, Bool, true, false, refl, sym, ◌∙◌, ap, ap₂}
use Rattle.std.proofs.Common.{arith}
use Rattle.std.specs.Prelude.{◌==◌, nat_lt, find, Some, None, Option, if◌then◌else◌}
use Rattle.std.proofs.lemmas.Bool.Decides.{nat_tests}
use Rattle.vault_core.specs.Questions.{alter, replaced}
use Rattle.vault_core.specs.Rules.{is_numbered_from}
use Rattle.vault_core.proofs.NumberLemmas.{none_below}

module _ {R : Type 0} (number : R → ℕ) where
  -- one more stands behind them
  pub put_last : (rows : List R) (n : ℕ) (r : R) → is_numbered_from number n rows ≡ true → number r ≡ length rows + n
      → replaced number r rows ≡ rows ++ r ∷ []
  put_last [] n r h last = refl
  put_last (x ∷ rows) n r h last =
      let behind = put_last rows (n + 1) r (grind (arith, h)) (omega (arith, last)) in
      let first : number x ≡ n = grind (arith, nat_tests, h) in
      let past : n < number r = omega (arith, last) in
      let other : (number x == number r) ≡ false = grind (arith, nat_tests, first, past) in
      let before : nat_lt (number r) (number x) ≡ false = grind (arith, nat_tests, first, past) in
      rw (other, before) (ap (λ l. x ∷ l) behind)

  -- no row is changed of a number that none has
  pub none_altered : (f : R → R) (rows : List R) (n m : ℕ) → is_numbered_from number n rows ≡ true → m < n
      → alter (λ u. number u == m) f rows ≡ rows
  none_altered f [] n m h lt = refl
  none_altered f (x ∷ rows) n m h lt =
      let other : (number x == m) ≡ false = grind (arith, nat_tests, h, lt) in
      rw other (ap (λ l. x ∷ l) (none_altered f rows (n + 1) m (grind (arith, h)) (omega (arith, lt))))

  -- one in the place of another changes that alone
  pub put_changed : (f : R → R) (rows : List R) (n : ℕ) (x r : R) → is_numbered_from number n rows ≡ true
      → find (λ u. number u == number r) rows ≡ Some x → f x ≡ r
      → replaced number r rows ≡ alter (λ u. number u == number r) f rows
  put_changed f [] n x r h found is = absurd (cc)
  put_changed f (u ∷ rows) n x r h found is =
      by (number u == number r) refl found (λ e. put_changed f rows (n + 1) x r (grind (arith, h)) e is)
    where
      first : number u ≡ n
      first = grind (arith, nat_tests, h)

      rest : is_numbered_from number (n + 1) rows ≡ true
      rest = grind (arith, h)

      lacking : Option R → number r < n + 1 → find (λ v. number v == number r) rows ≡ Some x → ⊥
      lacking o lt e = let none = none_below number rows (n + 1) (number r) rest lt in absurd (cc)

      by : (b : Bool) → (number u == number r) ≡ b
          → (if b then Some u else find (λ v. number v == number r) rows) ≡ Some x
          → (find (λ v. number v == number r) rows ≡ Some x
          → replaced number r rows ≡ alter (λ v. number v == number r) f rows)
          → (if b then r ∷ rows else if nat_lt (number r) (number u) then r ∷ u ∷ rows else u ∷ replaced number r rows)
          ≡ (if b then f u else u) ∷ alter (λ v. number v == number r) f rows
      by true here e behind =
          let same : u ≡ x = cc in
          let its : number u ≡ number r = grind (arith, nat_tests, here) in
          ap₂ (λ y l. y ∷ l) (sym is ∙ ap f (sym same))
          (sym (none_altered f rows (n + 1) (number r) rest (omega (arith, first, its))))
      by false other e behind = past (nat_lt (number r) (number u)) refl
        where
          past : (b : Bool) → nat_lt (number r) (number u) ≡ b
              → (if b then r ∷ u ∷ rows else u ∷ replaced number r rows) ≡ u ∷ alter (λ v. number v == number r) f rows
          past true lt = let low : number r < n + 1 = grind (arith, nat_tests, first, lt) in absurd (lacking None low e)
          past false lt = ap (λ l. u ∷ l) (behind e)
