-- Rows that are numbered without a hole within each channel: the one with a number, and what changing it makes of a
-- table.
use Rattle.std.proofs.Common.{◌≡◌, ℕ, ◌+◌, ◌-◌, ◌<◌, ◌≤◌, zero, suc, List, [], ◌∷◌, length, get_or, Bool, true, false}
use Rattle.std.proofs.Common.{◌&&◌, refl, sym, ◌∙◌, ap, subst, arith}
use Rattle.std.specs.Prelude.{◌==◌, nat_lt, nat_le, find, slice_get, Some, None}
use Rattle.std.specs.List.{list_all}
use Rattle.std.specs.List.Sorted.{IsPartitionPoint}
use Rattle.std.proofs.lemmas.Bool.Decides.{nat_tests}
use Rattle.std.proofs.Math.ListN.{set}
use Rattle.std.specs.Option.{option_map}
use Rattle.std.proofs.lemmas.Option.{slice_get-map, slice_get_read}
use Rattle.vault_core.specs.Rules.{is_numbered_from}
use Rattle.vault_core.proofs.NumberLemmas.{numbered_at}
use Rattle.channel_view_model.specs.Tables.{Table, rows_alone, rows_of, alter_row, is_in_order}

module _ {A : Type 0} where
  all_got : (p : ℕ × A → Bool) (rs : Table A) → list_all p rs ≡ true → (k : ℕ) (r : ℕ × A) → slice_get rs k ≡ Some r
      → p r ≡ true
  all_got p [] h k r there = absurd (cc)
  all_got p (s ∷ rs) h zero r there = let same : s ≡ r = cc in subst (λ (t : ℕ × A). p t ≡ true) same (grind (arith, h))
  all_got p (s ∷ rs) h (suc k) r there = all_got p rs (grind (arith, h)) k r there

module _ {A : Type 0} (number : A → ℕ) (f : A → A) (c : ℕ) where
  all_past : (k : ℕ) (rs : Table A) → nat_lt c k ≡ true → list_all (λ s. nat_le k s.0) rs ≡ true
      → list_all (λ s. nat_lt c s.0) rs ≡ true
  all_past k [] past h = refl
  all_past k (r ∷ rs) past h = grind (arith, nat_tests, past, h, all_past k rs past)

  all_from : (rs : Table A) → IsPartitionPoint (λ r. nat_lt r.0 c ≡ true) (λ r. nat_lt r.0 c ≡ false) rs 0
      → list_all (λ s. nat_le c s.0) rs ≡ true
  all_from [] from = refl
  all_from (r ∷ rs) from =
      let here : nat_lt r.0 c ≡ false = from.1 0 r (omega arith) (omega arith) in
      let rest =
      all_from rs (λ j d low lt. absurd (omega arith), λ j d low lt. from.1 (suc j) d (omega arith) (omega arith))
      in
      grind (arith, nat_tests, here, rest)

  -- no row of the channel
  none_mine : (n : ℕ) (rs : Table A) → list_all (λ r. nat_lt c r.0) rs ≡ true
      → alter_row c (λ x. number x == n) f rs ≡ rs
  none_mine n [] h = refl
  none_mine n (r ∷ rs) h =
      let other : (r.0 == c) ≡ false = grind (arith, nat_tests, h) in
      rw other (ap (λ l. r ∷ l) (none_mine n rs (grind (arith, h))))

  -- none with a number below those that there are
  pub none_low : (n m : ℕ) (rs : Table A) → is_numbered_from number m (rows_of c rs) ≡ true → n < m
      → alter_row c (λ x. number x == n) f rs ≡ rs
  none_low n m [] h lt = refl
  none_low n m (r ∷ rs) h lt =
      by (r.0 == c) refl (λ g. none_low n (m + 1) rs g (omega arith)) (λ g. none_low n m rs g lt)
    where
      by : (b : Bool) → (r.0 == c) ≡ b
          → (is_numbered_from number (m + 1) (rows_of c rs) ≡ true → alter_row c (λ x. number x == n) f rs ≡ rs)
          → (is_numbered_from number m (rows_of c rs) ≡ true → alter_row c (λ x. number x == n) f rs ≡ rs)
          → alter_row c (λ x. number x == n) f (r ∷ rs) ≡ r ∷ rs
      by true e mine others =
          let here : is_numbered_from number m (r.1 ∷ rows_of c rs) ≡ true = rw e at h in
          let other : (number r.1 == n) ≡ false = grind (arith, nat_tests, here, lt) in
          rw (e, other) (ap (λ l. r ∷ l) (mine (grind (arith, here))))
      by false e mine others = rw e (ap (λ l. r ∷ l) (others (rw e at h)))

  -- in rows that begin with the channel's: the one at place k is changed
  front : (rs : Table A) (m k : ℕ) (r : ℕ × A) → is_in_order rs ≡ true → list_all (λ s. nat_le c s.0) rs ≡ true
      → is_numbered_from number m (rows_of c rs) ≡ true
      → slice_get rs k ≡ Some r → (r.0 == c) ≡ true → set rs k (r.0, f r.1) ≡ alter_row c (λ x. number x == m + k) f rs
  front [] m k r order from h there mine = absurd (cc)
  front (s ∷ rs) m zero r order from h there mine =
      let same : s ≡ r = cc in
      let own : (s.0 == c) ≡ true = subst (λ (t : ℕ × A). (t.0 == c) ≡ true) (sym same) mine in
      let here : is_numbered_from number m (s.1 ∷ rows_of c rs) ≡ true = rw own at h in
      let is : (number s.1 == m + zero) ≡ true = grind (arith, nat_tests, here) in
      ap (λ (t : ℕ × A). (t.0, f t.1) ∷ rs) (sym same)
      ∙ rw (own, is)
      (ap (λ l. (s.0, f s.1) ∷ l) (sym (none_low (m + zero) (m + 1) rs (grind (arith, here)) (omega arith))))
  front (s ∷ rs) m (suc k) r order from h there mine =
      let low : nat_le s.0 r.0 ≡ true = all_got (λ t. nat_le s.0 t.0) rs (grind (arith, order)) k r there in
      let own : (s.0 == c) ≡ true = grind (arith, nat_tests, from, low, mine) in
      let here : is_numbered_from number m (s.1 ∷ rows_of c rs) ≡ true = rw own at h in
      let other : (number s.1 == m + suc k) ≡ false = grind (arith, nat_tests, here) in
      let next : m + 1 + k ≡ m + suc k = omega arith in
      let rest = front rs (m + 1) k r (grind (arith, order)) (grind (arith, from)) (grind (arith, here)) there mine in
      rw (own, other) (ap (λ l. s ∷ l) (rest ∙ ap (λ n. alter_row c (λ x. number x == n) f rs) next))

  -- or none is, where no row of the channel stands there
  front_none : (rs : Table A) (m k : ℕ) → is_in_order rs ≡ true → list_all (λ s. nat_le c s.0) rs ≡ true
      → is_numbered_from number m (rows_of c rs) ≡ true
      → ((r : ℕ × A) → slice_get rs k ≡ Some r → (r.0 == c) ≡ false) → rs ≡ alter_row c (λ x. number x == m + k) f rs
  front_none [] m k order from h none = refl
  front_none (s ∷ rs) m k order from h none =
      by (s.0 == c) refl k none
      (λ j others. front_none rs (m + 1) j (grind (arith, order)) (grind (arith, from)) others)
    where
      by : (b : Bool) → (s.0 == c) ≡ b → (k : ℕ) → ((r : ℕ × A) → slice_get (s ∷ rs) k ≡ Some r → (r.0 == c) ≡ false)
          → ((j : ℕ) → is_numbered_from number (m + 1) (rows_of c rs) ≡ true
          → ((r : ℕ × A) → slice_get rs j ≡ Some r → (r.0 == c) ≡ false)
          → rs ≡ alter_row c (λ x. number x == m + 1 + j) f rs)
          → s ∷ rs ≡ alter_row c (λ x. number x == m + k) f (s ∷ rs)
      by true e zero none rest = absurd (let no : (s.0 == c) ≡ false = none s refl in cc)
      by true e (suc k) none rest =
          let here : is_numbered_from number m (s.1 ∷ rows_of c rs) ≡ true = rw e at h in
          let other : (number s.1 == m + suc k) ≡ false = grind (arith, nat_tests, here) in
          let next : m + 1 + k ≡ m + suc k = omega arith in
          rw (e, other)
          (ap (λ l. s ∷ l)
          (rest k (grind (arith, here)) (λ r there. none r there)
          ∙ ap (λ n. alter_row c (λ x. number x == n) f rs) next))
      by false e k none rest =
          let after : nat_lt c s.0 ≡ true = grind (arith, nat_tests, from, e) in
          rw e (ap (λ l. s ∷ l) (sym (none_mine (m + k) rs (all_past s.0 rs after (grind (arith, order))))))

  -- the rows of the channels in front stay
  pub set_numbered : (rs : Table A) (m a k : ℕ) (r : ℕ × A) → is_in_order rs ≡ true
      → is_numbered_from number m (rows_of c rs) ≡ true
      → IsPartitionPoint (λ r. nat_lt r.0 c ≡ true) (λ r. nat_lt r.0 c ≡ false) rs a → slice_get rs (a + k) ≡ Some r
      → (r.0 == c) ≡ true
      → set rs (a + k) (r.0, f r.1) ≡ alter_row c (λ x. number x == m + k) f rs
  set_numbered rs m zero k r order h from there mine =
      let same : 0 + k ≡ k = omega arith in
      subst (λ j. set rs j (r.0, f r.1) ≡ alter_row c (λ x. number x == m + k) f rs) (sym same)
      (front rs m k r order (all_from rs from) h (subst (λ j. slice_get rs j ≡ Some r) same there) mine)
  set_numbered [] m (suc a) k r order h from there mine = absurd (cc)
  set_numbered (s ∷ rs) m (suc a) k r order h from there mine =
      let next : suc a + k ≡ suc (a + k) = omega arith in
      let less : nat_lt s.0 c ≡ true = from.0 0 s (omega arith) (omega arith) in
      let other : (s.0 == c) ≡ false = grind (arith, nat_tests, less) in
      let rest =
      set_numbered rs m a k r (grind (arith, order)) (rw other at h) (
        λ j d low lt. from.0 (suc j) d (omega arith) (omega arith),
        λ j d low lt. from.1 (suc j) d (omega arith)
            (omega arith),
      ) (subst (λ j. slice_get (s ∷ rs) j ≡ Some r) next there) mine in
      subst (λ j. set (s ∷ rs) j (r.0, f r.1) ≡ alter_row c (λ x. number x == m + k) f (s ∷ rs)) (sym next)
      (rw other (ap (λ l. s ∷ l) rest))

  pub none_numbered : (rs : Table A) (m a k : ℕ) → is_in_order rs ≡ true
      → is_numbered_from number m (rows_of c rs) ≡ true
      → IsPartitionPoint (λ r. nat_lt r.0 c ≡ true) (λ r. nat_lt r.0 c ≡ false) rs a → a ≤ length rs
      → ((r : ℕ × A) → slice_get rs (a + k) ≡ Some r → (r.0 == c) ≡ false)
      → rs ≡ alter_row c (λ x. number x == m + k) f rs
  none_numbered rs m zero k order h from le none =
      let same : 0 + k ≡ k = omega arith in
      front_none rs m k order (all_from rs from) h
      (subst (λ j. (r : ℕ × A) → slice_get rs j ≡ Some r → (r.0 == c) ≡ false) same none)
  none_numbered [] m (suc a) k order h from le none = refl
  none_numbered (s ∷ rs) m (suc a) k order h from le none =
      let next : suc a + k ≡ suc (a + k) = omega arith in
      let less : nat_lt s.0 c ≡ true = from.0 0 s (omega arith) (omega arith) in
      let other : (s.0 == c) ≡ false = grind (arith, nat_tests, less) in
      let rest =
      none_numbered rs m a k (grind (arith, order)) (rw other at h) (
        λ j d low lt. from.0 (suc j) d (omega arith) (omega arith),
        λ j d low lt. from.1 (suc j) d (omega arith)
            (omega arith),
      ) (omega arith)
      (subst (λ j. (r : ℕ × A) → slice_get (s ∷ rs) j ≡ Some r → (r.0 == c) ≡ false) next none) in
      rw other (ap (λ l. s ∷ l) rest)

pub some_is : {R : Type 0} (x y : R) → Some x ≡ Some y → x ≡ y
some_is x y h = cc

-- the rows of channel c begin here
abbrev pub IsStart : {A : Type 0} → ℕ → ℕ → Table A → Type 0
IsStart c a rs = IsPartitionPoint (λ r. nat_lt r.0 c ≡ true) (λ r. nat_lt r.0 c ≡ false) rs a

-- the same, where rows are numbered from 1
module _ {A : Type 0} (number : A → ℕ) where
  pub numbered_from_one : (rs : Table A) (n : ℕ) → is_numbered_from number 1 (rows_alone rs) ≡ true → 0 < n
      → option_map (λ r. r.1) (slice_get rs (n - 1)) ≡ find (λ x. number x == n) (rows_alone rs)
  numbered_from_one rs n h some =
      let next : 1 + (n - 1) ≡ n = omega arith in
      sym (slice_get-map (λ r. r.1) rs (n - 1)) ∙ numbered_at number (rows_alone rs) 1 (n - 1) h
      ∙ ap (λ k. find (λ x. number x == k) (rows_alone rs)) next

  module _ (f : A → A) (c : ℕ) (rs : Table A) (a n : ℕ) (order : is_in_order rs ≡ true)
      (h : is_numbered_from number 1 (rows_of c rs) ≡ true)
      (from : IsPartitionPoint (λ r. nat_lt r.0 c ≡ true) (λ r. nat_lt r.0 c ≡ false) rs a) (some : 0 < n) where
    pub row_changed : (k : ℕ) (r : ℕ × A) → k ≡ n - 1 → a + k < length rs → r ≡ get_or rs (a + k) r → r.0 ≡ c
        → set rs (a + k) (r.0, f r.1) ≡ alter_row c (λ x. number x == n) f rs
    row_changed k r is within read mine =
        set_numbered number f c rs 1 a k r order h from (slice_get_read rs (length rs) (a + k) r refl within read)
        (grind (arith, nat_tests, mine))
        ∙ ap (λ j. alter_row c (λ x. number x == j) f rs) (omega (arith, is, some))

    pub row_lacking : (k : ℕ) → k ≡ n - 1 → a ≤ length rs
        → ((r : ℕ × A) → slice_get rs (a + k) ≡ Some r → (r.0 == c) ≡ false)
        → rs ≡ alter_row c (λ x. number x == n) f rs
    row_lacking k is le none =
        none_numbered number f c rs 1 a k order h from le none
        ∙ ap (λ j. alter_row c (λ x. number x == j) f rs) (omega (arith, is, some))

-- a row changed in its channel leaves the order
pub order-set : {A : Type 0} (rs : Table A) (k : ℕ) (r : ℕ × A) (x : A) → k < length rs → r ≡ get_or rs k r
    → is_in_order rs ≡ true → is_in_order (set rs k (r.0, x)) ≡ true
order-set [] k r x within read h = absurd (omega arith)
order-set (s ∷ rs) zero r x within read h = rw read (grind (arith, h))
order-set (s ∷ rs) (suc k) r x within read h =
    let rest = order-set rs k r x (omega arith) read (grind (arith, h)) in
    let same : list_all (λ t. nat_le s.0 t.0) (set rs k (r.0, x)) ≡ list_all (λ t. nat_le s.0 t.0) rs =
    channels-set (nat_le s.0) rs k r x (omega arith) read in
    grind (arith, h, rest, same)
  where
    channels-set : {A : Type 0} (test : ℕ → Bool) (rs : Table A) (k : ℕ) (r : ℕ × A) (x : A) → k < length rs
        → r ≡ get_or rs k r → list_all (λ t. test t.0) (set rs k (r.0, x)) ≡ list_all (λ t. test t.0) rs
    channels-set test [] k r x within read = absurd (omega arith)
    channels-set test (s ∷ rs) zero r x within read = rw read refl
    channels-set test (s ∷ rs) (suc k) r x within read =
        ap (λ b. test s.0 && b) (channels-set test rs k r x (omega arith) read)
