-- Lists in the order of their channels, where bisection finds a channel's rows.
use Rattle.std.proofs.Common.{◌≡◌, ◌<◌, ◌≤◌, ℕ, zero, suc, List, [], ◌∷◌, length, take, drop, filter, Bool, true, false}
use Rattle.std.proofs.Common.{refl, sym, ◌∙◌, ap, arith}
use Rattle.std.specs.Prelude.{◌==◌, nat_lt, nat_le, find, slice_get, slice_index_or, Some, if◌then◌else◌}
use Rattle.std.specs.List.{list_all, position_or_len}
use Rattle.std.specs.List.Sorted.{IsNonDecreasingBy, IsPartitionedBy, IsPartitionPoint}
use Rattle.std.proofs.lemmas.Bool.Decides.{nat_tests}
use Rattle.channel_view_model.specs.Tables.{Table, is_in_order}

all_at : {R : Type 0} (p : R → Bool) (rs : List R) → list_all p rs ≡ true → (k : ℕ) (d : R) → k < length rs
    → p (slice_index_or rs k d) ≡ true
all_at p [] h k d lt = absurd (omega arith)
all_at p (r ∷ rs) h zero d lt = grind (arith, h)
all_at p (r ∷ rs) h (suc k) d lt = all_at p rs (grind (arith, h)) k d (omega arith)

-- a table in order
pub rises : {A : Type 0} (t : Table A) → is_in_order t ≡ true → IsNonDecreasingBy (λ r. r.0) t
rises [] h i j d le lt = absurd (omega arith)
rises (r ∷ rs) h zero zero d le lt = omega arith
rises (r ∷ rs) h zero (suc j) d le lt =
    let here : nat_le r.0 (slice_index_or rs j d).0 ≡ true =
    all_at (λ s. nat_le r.0 s.0) rs (grind (arith, h)) j d (omega arith) in
    grind (arith, nat_tests, here)
rises (r ∷ rs) h (suc i) zero d le lt = absurd (omega arith)
rises (r ∷ rs) h (suc i) (suc j) d le lt = rises rs (grind (arith, h)) i j d (omega arith) (omega arith)

module _ {R : Type 0} (key : R → ℕ) (c : ℕ) where
  -- the rows of the channels in front come first
  pub parted_below : (rs : List R) → IsNonDecreasingBy key rs → IsPartitionedBy (λ r. nat_lt (key r) c) rs
  parted_below rs order i j d le lt h =
      let low : key (slice_index_or rs i d) ≤ key (slice_index_or rs j d) = order i j d le lt in
      grind (arith, nat_tests, h, low)

  none_there : (rs : List R) → ((k : ℕ) (d : R) → k < length rs → nat_le (key (slice_index_or rs k d)) c ≡ false)
      → filter (λ r. key r == c) rs ≡ []
  none_there [] h = refl
  none_there (r ∷ rs) h =
      let here : nat_le (key r) c ≡ false = h 0 r (omega arith) in
      let rest = none_there rs (λ k d lt. h (suc k) d (omega arith)) in
      grind (arith, nat_tests, here, rest)

  in_front : (rs : List R) (b : ℕ) → b ≤ length rs
      → ((k : ℕ) (d : R) → k < length rs → nat_lt (key (slice_index_or rs k d)) c ≡ false)
      → IsPartitionPoint (λ r. nat_le (key r) c ≡ true) (λ r. nat_le (key r) c ≡ false) rs b
      → take b rs ≡ filter (λ r. key r == c) rs
  in_front rs zero le from until = sym (none_there rs (λ k d lt. until.1 k d (omega arith) lt))
  in_front [] (suc b) le from until = absurd (omega arith)
  in_front (r ∷ rs) (suc b) le from until =
      let not_less : nat_lt (key r) c ≡ false = from 0 r (omega arith) in
      let at_most : nat_le (key r) c ≡ true = until.0 0 r (omega arith) (omega arith) in
      let rest =
      in_front rs b (omega arith) (λ k d lt. from (suc k) d (omega arith)) (
        λ k d low lt. until.0 (suc k) d (omega arith) (omega arith),
        λ k d low lt. until.1 (suc k) d (omega arith)
            (omega arith),
      ) in
      let mine : (key r == c) ≡ true = grind (arith, nat_tests, not_less, at_most) in
      ap (λ l. r ∷ l) rest ∙ rw mine refl

  -- the rows between where they begin and where those behind begin
  pub found_between : (rs : List R) (a b : ℕ) → a ≤ b → b ≤ length rs
      → IsPartitionPoint (λ r. nat_lt (key r) c ≡ true) (λ r. nat_lt (key r) c ≡ false) rs a
      → IsPartitionPoint (λ r. nat_le (key r) c ≡ true) (λ r. nat_le (key r) c ≡ false) rs b
      → drop a (take b rs) ≡ filter (λ r. key r == c) rs
  found_between rs zero b le within from until = in_front rs b within (λ k d lt. from.1 k d (omega arith) lt) until
  found_between rs (suc a) zero le within from until = absurd (omega arith)
  found_between [] (suc a) (suc b) le within from until = absurd (omega arith)
  found_between (r ∷ rs) (suc a) (suc b) le within from until =
      let less : nat_lt (key r) c ≡ true = from.0 0 r (omega arith) (omega arith) in
      let other : (key r == c) ≡ false = grind (arith, nat_tests, less) in
      let rest =
      found_between rs a b (omega arith) (omega arith) (
        λ k d low lt. from.0 (suc k) d (omega arith) (omega arith),
        λ k d low lt. from.1 (suc k) d (omega arith)
            (omega arith),
      ) (
        λ k d low lt. until.0 (suc k) d (omega arith) (omega arith),
        λ k d low lt. until.1 (suc k) d (omega arith)
            (omega arith),
      ) in
      rest ∙ rw other refl

  -- the first of them isn't behind their end
  pub not_past : (rs : List R) (a b : ℕ) → a ≤ length rs
      → IsPartitionPoint (λ r. nat_lt (key r) c ≡ true) (λ r. nat_lt (key r) c ≡ false) rs a
      → IsPartitionPoint (λ r. nat_le (key r) c ≡ true) (λ r. nat_le (key r) c ≡ false) rs b → a ≤ b
  not_past [] a b within from until = omega arith
  not_past (d ∷ rs) a b within from until = by (nat_le a b) refl
    where
      by : (t : Bool) → nat_le a b ≡ t → a ≤ b
      by true e = grind (arith, nat_tests, e)
      by false e =
          let past : b < a = grind (arith, nat_tests, e) in
          let less : nat_lt (key (slice_index_or (d ∷ rs) b d)) c ≡ true = from.0 b d (omega arith) past in
          let more : nat_le (key (slice_index_or (d ∷ rs) b d)) c ≡ false = until.1 b d (omega arith) (omega arith) in
          absurd (grind (arith, nat_tests, less, more))

-- where `put` puts a new row
pub end_is_place : {R : Type 0} (key : R → ℕ) (c : ℕ) (rs : List R) (b : ℕ) → b ≤ length rs
    → IsPartitionPoint (λ r. nat_le (key r) c ≡ true) (λ r. nat_le (key r) c ≡ false) rs b
    → b ≡ position_or_len (λ r. nat_lt c (key r)) rs
end_is_place key c [] b le until = omega arith
end_is_place key c (r ∷ rs) zero le until =
    let past : nat_le (key r) c ≡ false = until.1 0 r (omega arith) (omega arith) in
    let after : nat_lt c (key r) ≡ true = grind (arith, nat_tests, past) in
    sym (rw after refl)
end_is_place key c (r ∷ rs) (suc b) le until =
    let at_most : nat_le (key r) c ≡ true = until.0 0 r (omega arith) (omega arith) in
    let before : nat_lt c (key r) ≡ false = grind (arith, nat_tests, at_most) in
    let rest =
    end_is_place key c rs b (omega arith) (
      λ k d low lt. until.0 (suc k) d (omega arith) (omega arith),
      λ k d low lt. until.1 (suc k) d (omega arith)
          (omega arith),
    ) in
    grind (arith, before, rest)

-- the first of a list, if it has one
pub first_found : {A : Type 0} (p : A → Bool) (xs : List A) → find p xs ≡ slice_get (filter p xs) 0
first_found p [] = refl
first_found p (x ∷ xs) =
    elim (p x) as (λ b. (if b then Some x else find p xs) ≡ slice_get (if b then x ∷ filter p xs else filter p xs) 0)
    [ true ↦ refl | false ↦ first_found p xs ]
