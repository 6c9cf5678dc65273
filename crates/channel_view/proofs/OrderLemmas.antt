-- Rows that are tested to be in the order of their channels.
use Rattle.std.proofs.Common.{◌≡◌, ◌<◌, ◌≤◌, ◌+◌, ℕ, suc, List, [], ◌∷◌, length, Bool, true, false, ◌&&◌, refl, sym}
use Rattle.std.proofs.Common.{◌∙◌, true≢false, arith}
use Rattle.std.specs.Prelude.{◌↔◌, IsTrue, nat_le, slice_index_or}
use Rattle.std.specs.List.{IsAllAdjacentAnswer, list_all}
use Rattle.std.specs.List.Sorted.{IsNonDecreasingBy}
use Rattle.std.proofs.lemmas.Bool.Decides.{nat_tests}
use Rattle.std.proofs.lemmas.List.Sorted.{IsNonDecreasingBy-from_all_adjacent}
use Rattle.channel_view_model.specs.Tables.{Table, is_in_order}
use Rattle.channel_view_model.specs.Centre.{Centre, IsInOrder}
use Rattle.channel_view_rules.proofs.BisectLemmas.{rises}

-- what a test of each row and the next says
module _ {R : Type 0} (key : R → ℕ) where
  at_most : (a b : ℕ) → true ≡ nat_le a b → a ≤ b
  at_most a b is = grind (arith, nat_tests, is)

  falls : (a b : ℕ) → false ≡ nat_le a b → a ≤ b → ⊥
  falls a b is le = grind (arith, nat_tests, is, le)

  pub rising_from_test : (xs : List R) (b : Bool)
      → IsAllAdjacentAnswer (λ x y c. c ≡ nat_le (key x) (key y)) xs b → IsTrue b ↔ IsNonDecreasingBy key xs
  rising_from_test xs true found =
      (λ yes. IsNonDecreasingBy-from_all_adjacent key xs (λ k d lt. at_most _ _ (found k d lt)), λ order. refl)
  rising_from_test [] false (k, within, at) = absurd (omega (arith, within))
  rising_from_test (x ∷ xs) false (k, within, at) = (
    λ no. absurd (true≢false (sym no)),
    λ order. absurd (falls _ _ (at x) (order k (k + 1) x (omega arith) within)),
  )

-- a table whose channels don't fall is in order
all_from : {R : Type 0} (p : R → Bool) (rs : List R)
    → ((k : ℕ) (d : R) → k < length rs → p (slice_index_or rs k d) ≡ true) → list_all p rs ≡ true
all_from p [] h = refl
all_from p (r ∷ rs) h =
    let here : p r ≡ true = h 0 r (omega arith) in
    let rest = all_from p rs (λ k d lt. h (suc k) d (omega arith)) in
    grind (arith, here, rest)

pub in_order_from_rising : {A : Type 0} (t : Table A) → IsNonDecreasingBy (λ r. r.0) t → is_in_order t ≡ true
in_order_from_rising [] h = refl
in_order_from_rising (r ∷ rs) h =
    let first : list_all (λ s. nat_le r.0 s.0) rs ≡ true =
    all_from (λ s. nat_le r.0 s.0) rs
    (λ k d lt.
    let le : r.0 ≤ (slice_index_or rs k d).0 = h 0 (suc k) d (omega arith) (omega arith) in
    grind (arith, nat_tests, le)) in
    let rest = in_order_from_rising rs (λ i j d le lt. h (suc i) (suc j) d (omega arith) (omega arith)) in
    grind (arith, first, rest)

-- the channels and each table of a set
each_of : (a b d e f g : Bool) → (a && b && d && e && f && g) ≡ true
    → (a ≡ true) × (b ≡ true) × (d ≡ true) × (e ≡ true) × (f ≡ true) × (g ≡ true)
each_of a b d e f g h =
    (grind (arith, h), grind (arith, h), grind (arith, h), grind (arith, h), grind (arith, h), grind (arith, h))

all_six : (a b d e f g : Bool) → a ≡ true → b ≡ true → d ≡ true → e ≡ true → f ≡ true → g ≡ true
    → (a && b && d && e && f && g) ≡ true
all_six a b d e f g h i j k l m = grind (arith, h, i, j, k, l, m)

pub order_from_tests : (rows : Centre) (a b d e f g : Bool)
    → (IsTrue a ↔ IsNonDecreasingBy (λ p. p.ch) rows.channels) → (IsTrue b ↔ IsNonDecreasingBy (λ r. r.0) rows.tapes)
    → (IsTrue d ↔ IsNonDecreasingBy (λ r. r.0) rows.clips) → (IsTrue e ↔ IsNonDecreasingBy (λ r. r.0) rows.offers)
    → (IsTrue f ↔ IsNonDecreasingBy (λ r. r.0) rows.days) → (IsTrue g ↔ IsNonDecreasingBy (λ r. r.0) rows.aired)
    → IsTrue (a && b && d && e && f && g) ↔ IsInOrder rows
order_from_tests rows a b d e f g channels tapes clips offers days aired = (
  λ yes.
      let each = each_of a b d e f g yes in
      record {
        channels = channels.0 each.0;
        tapes = in_order_from_rising rows.tapes (tapes.0 each.1);
        clips = in_order_from_rising rows.clips (clips.0 each.2);
        offers = in_order_from_rising rows.offers (offers.0 each.3);
        days = in_order_from_rising rows.days (days.0 each.4);
        aired = in_order_from_rising rows.aired (aired.0 each.5);
      },
  λ order. all_six a b d e f g (channels.1 order.channels) (tapes.1 (rises rows.tapes order.tapes))
      (clips.1 (rises rows.clips order.clips)) (offers.1 (rises rows.offers order.offers))
      (days.1 (rises rows.days order.days)) (aired.1 (rises rows.aired order.aired)),
)
