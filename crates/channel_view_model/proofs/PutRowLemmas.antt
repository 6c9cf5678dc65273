-- A row that is put into a table: one more stands behind its channel's others, one in the place of another changes that
-- alone.
use Rattle.std.proofs.Common.{◌≡◌, ℕ, ◌+◌, ◌<◌, List, [], ◌∷◌, length, Bool, true, false, ◌&&◌, refl, sym, ◌∙◌, ap, ap₂}
use Rattle.std.proofs.Common.{arith}
use Rattle.std.specs.Prelude.{◌==◌, nat_lt, map, filter, find, Some, None, if◌then◌else◌}
use Rattle.std.specs.List.{list_any, list_all}
use Rattle.std.proofs.lemmas.Bool.Decides.{nat_tests}
use Rattle.vault_core.specs.Rules.{is_numbered_from}
use Rattle.vault_core.specs.Questions.{replaced}
use Rattle.vault_core.proofs.NumberLemmas.{none_below}
use Rattle.channel_view_model.specs.Tables.{Table, rows_of, add_row, alter_row, replace_row, is_in_order}
use Rattle.channel_view_model.proofs.TableLemmas.{all_after, none_of}

module _ {A : Type 0} (number : A → ℕ) (c : ℕ) where
  -- one more stands behind the channel's others
  pub replace_adds : (n : ℕ) (x : A) (t : Table A) → is_numbered_from number n (rows_of c t) ≡ true
      → number x ≡ length (rows_of c t) + n → replace_row number c x t ≡ add_row c x t
  replace_adds n x [] h last = refl
  replace_adds n x (r ∷ rs) h last = by (r.0 == c) refl h last (λ m. replace_adds m x rs)
    where
      by : (b : Bool) → (r.0 == c) ≡ b
          → is_numbered_from number n
          (map (λ s. s.1) (if b then r ∷ filter (λ s. s.0 == c) rs else filter (λ s. s.0 == c) rs)) ≡ true
          → number x
          ≡ length (map (λ s. s.1) (if b then r ∷ filter (λ s. s.0 == c) rs else filter (λ s. s.0 == c) rs)) + n
          → ((m : ℕ) → is_numbered_from number m (rows_of c rs) ≡ true → number x ≡ length (rows_of c rs) + m
          → replace_row number c x rs ≡ add_row c x rs)
          → replace_row number c x (r ∷ rs) ≡ add_row c x (r ∷ rs)
      by true mine h last rest =
          let first : number r.1 ≡ n = grind (arith, nat_tests, h) in
          let past : n < number x = omega (arith, last) in
          let behind = rest (n + 1) (grind (arith, h)) (omega (arith, last)) in
          let other : (number r.1 == number x) ≡ false = grind (arith, nat_tests, first, past) in
          let before : nat_lt (number x) (number r.1) ≡ false = grind (arith, nat_tests, first, past) in
          let here : nat_lt c r.0 ≡ false = grind (arith, nat_tests, mine) in
          grind (arith, mine, other, before, here, behind)
      by false mine h last rest = grind (arith, mine, rest n h last)

  -- no row is altered of a number that none of the channel's has
  pub none_altered : (f : A → A) (n m : ℕ) (t : Table A) → is_numbered_from number n (rows_of c t) ≡ true → m < n
      → alter_row c (λ u. number u == m) f t ≡ t
  none_altered f n m [] h lt = refl
  none_altered f n m (r ∷ rs) h lt = by (r.0 == c) refl h (λ k. none_altered f k m rs)
    where
      by : (b : Bool) → (r.0 == c) ≡ b
          → is_numbered_from number n
          (map (λ s. s.1) (if b then r ∷ filter (λ s. s.0 == c) rs else filter (λ s. s.0 == c) rs)) ≡ true
          → ((k : ℕ) → is_numbered_from number k (rows_of c rs) ≡ true → m < k
          → alter_row c (λ u. number u == m) f rs ≡ rs)
          → alter_row c (λ u. number u == m) f (r ∷ rs) ≡ r ∷ rs
      by true mine h rest =
          let other : (number r.1 == m) ≡ false = grind (arith, nat_tests, h, lt) in
          let behind = rest (n + 1) (grind (arith, h)) (omega (arith, lt)) in
          grind (arith, mine, other, behind)
      by false mine h rest = grind (arith, mine, rest n h lt)

  -- one in the place of another changes that alone
  pub replace_alters : (f : A → A) (n : ℕ) (x before : A) (t : Table A) → is_in_order t ≡ true
      → is_numbered_from number n (rows_of c t) ≡ true
      → find (λ u. number u == number x) (rows_of c t) ≡ Some before → f before ≡ x
      → replace_row number c x t ≡ alter_row c (λ u. number u == number x) f t
  replace_alters f n x before [] order h found is = absurd (cc)
  replace_alters f n x before (r ∷ rs) order h found is =
      by (r.0 == c) refl h found (λ m. replace_alters f m x before rs (grind (arith, order)))
    where
      by : (b : Bool) → (r.0 == c) ≡ b
          → is_numbered_from number n
          (map (λ s. s.1) (if b then r ∷ filter (λ s. s.0 == c) rs else filter (λ s. s.0 == c) rs)) ≡ true
          → find (λ u. number u == number x)
          (map (λ s. s.1) (if b then r ∷ filter (λ s. s.0 == c) rs else filter (λ s. s.0 == c) rs)) ≡ Some before
          → ((m : ℕ) → is_numbered_from number m (rows_of c rs) ≡ true
          → find (λ u. number u == number x) (rows_of c rs) ≡ Some before → f before ≡ x
          → replace_row number c x rs ≡ alter_row c (λ u. number u == number x) f rs)
          → replace_row number c x (r ∷ rs) ≡ alter_row c (λ u. number u == number x) f (r ∷ rs)
      by true mine h found rest = at (number r.1 == number x) refl found
        where
          first : number r.1 ≡ n
          first = grind (arith, nat_tests, h)

          behind : is_numbered_from number (n + 1) (rows_of c rs) ≡ true
          behind = grind (arith, h)

          place : r.0 ≡ c
          place = grind (arith, nat_tests, mine)

          at : (b : Bool) → (number r.1 == number x) ≡ b
              → (if b then Some r.1 else find (λ u. number u == number x) (rows_of c rs)) ≡ Some before
              → replace_row number c x (r ∷ rs) ≡ alter_row c (λ u. number u == number x) f (r ∷ rs)
          at true here e =
              let same : r.1 ≡ before = cc in
              let its : number r.1 ≡ number x = grind (arith, nat_tests, here) in
              let left : alter_row c (λ u. number u == number x) f rs ≡ rs =
              none_altered f (n + 1) (number x) rs behind (omega (arith, first, its)) in
              let now : f r.1 ≡ x = ap f same ∙ is in
              grind (arith, mine, here, left, now, place)
          at false other e = past (nat_lt (number x) (number r.1)) refl
            where
              past : (b : Bool) → nat_lt (number x) (number r.1) ≡ b
                  → replace_row number c x (r ∷ rs) ≡ alter_row c (λ u. number u == number x) f (r ∷ rs)
              past true lt =
                  let low : number x < n + 1 = grind (arith, nat_tests, first, lt) in
                  let none = none_below number (rows_of c rs) (n + 1) (number x) behind low in
                  absurd (cc)
              past false lt =
                  let not_past : nat_lt c r.0 ≡ false = grind (arith, nat_tests, mine) in
                  let same = rest (n + 1) behind e is in
                  grind (arith, mine, other, lt, not_past, same)
      by false mine h found rest = past (nat_lt c r.0) refl
        where
          past : (b : Bool) → nat_lt c r.0 ≡ b
              → replace_row number c x (r ∷ rs) ≡ alter_row c (λ u. number u == number x) f (r ∷ rs)
          past true lt =
              let none : rows_of c rs ≡ [] =
              none_of number c rs (all_after c r.0 rs (grind (arith, nat_tests, lt)) (grind (arith, order))) in
              let lacks : find (λ u. number u == number x) (rows_of c rs) ≡ None =
              ap (find (λ u. number u == number x)) none in
              absurd (cc)
          past false lt = let same = rest n h found is in grind (arith, mine, lt, same)

-- of numbered rows the one with a number is the only one
module _ {R : Type 0} (number : R → ℕ) (p : R → Bool) where
  none_such : (rows : List R) (n m : ℕ) → is_numbered_from number n rows ≡ true → m < n
      → list_any (λ u. number u == m && p u) rows ≡ false
  none_such [] n m h lt = refl
  none_such (u ∷ rows) n m h lt =
      let other : (number u == m) ≡ false = grind (arith, nat_tests, h, lt) in
      let rest = none_such rows (n + 1) m (grind (arith, h)) (omega (arith, lt)) in
      grind (arith, other, rest)

  pub any_numbered : (rows : List R) (n m : ℕ) (x : R) → is_numbered_from number n rows ≡ true
      → find (λ u. number u == m) rows ≡ Some x → list_any (λ u. number u == m && p u) rows ≡ p x
  any_numbered [] n m x h found = absurd (cc)
  any_numbered (u ∷ rows) n m x h found =
      by (number u == m) refl found (any_numbered rows (n + 1) m x (grind (arith, h)))
    where
      by : (b : Bool) → (number u == m) ≡ b → (if b then Some u else find (λ u. number u == m) rows) ≡ Some x
          → (find (λ u. number u == m) rows ≡ Some x → list_any (λ u. number u == m && p u) rows ≡ p x)
          → list_any (λ u. number u == m && p u) (u ∷ rows) ≡ p x
      by true here e rest =
          let same : u ≡ x = cc in
          let none = none_such rows (n + 1) m (grind (arith, h)) (grind (arith, nat_tests, h, here)) in
          let now : p u ≡ p x = ap p same in
          grind (arith, here, none, now)
      by false other e rest = grind (arith, other, rest e)

-- what holds of all rows once one is put among them holds of that one
module _ {R : Type 0} (number : R → ℕ) (p : R → Bool) where
  pub put_holds : (x : R) (rows : List R) → list_all p (replaced number x rows) ≡ true → p x ≡ true
  put_holds x [] h = grind (arith, h)
  put_holds x (r ∷ rows) h = by (number r == number x) (nat_lt (number x) (number r)) h (put_holds x rows)
    where
      by : (a b : Bool)
          → list_all p (if a then x ∷ rows else if b then x ∷ r ∷ rows else r ∷ replaced number x rows) ≡ true
          → (list_all p (replaced number x rows) ≡ true → p x ≡ true) → p x ≡ true
      by true b h rest = grind (arith, h)
      by false true h rest = grind (arith, h)
      by false false h rest = rest (grind (arith, h))
