-- Rows in the order of their keys, where bisection finds the one of an offer.
use Rattle.std.proofs.Common.{◌≡◌, ◌≤◌, ℕ, zero, suc, List, [], ◌∷◌, length, drop, Bool, true, false, ◌&&◌, Some}
use Rattle.std.proofs.Common.{None, Result, is_ok, refl, ap, arith, Ordering, Less, is_lt}
use Rattle.std.proofs.Common.{is_eq, nat_cmp}
use Rattle.std.specs.Prelude.{◌==◌, find, slice_get, if◌then◌else◌}
use Rattle.std.specs.Option.{option_map}
use Rattle.std.specs.Ordering.{ordering_then, ordering_index}
use Rattle.std.specs.List.{AllByRecursion, list_any, cons_option}
use Rattle.std.specs.List.Sorted.{IsPartitionedBy, IsPartitionPoint, IsBinarySearchResult}
use Rattle.std.specs.List.Sorted.{IsSearchInRange}
use Rattle.std.proofs.lemmas.Bool.Decides.{nat_tests}
use Rattle.sqlite_keyed.proofs.ListLemmas.{all_weaker}
use Rattle.vault_core.specs.declared.offer.Offer.{Offer}
use Rattle.station_tables_records.specs.declared.offer_rows.SpanRow.{SpanRow}
use Rattle.station_tables_records.proofs.BisectLemmas.{parted, searched}
use Rattle.station_tables_records.specs.MadeDays.{Rise}
use Rattle.station_tables_records.specs.MadeOffers.{span_cmp, is_span, window_at}
use Rattle.station_tables_records.specs.OfferRows.{offer_cmp}

-- where a window's row stands beside offer n of channel c
abbrev pub beside_span : ℕ → ℕ → ℕ × SpanRow → Ordering
beside_span c n s = ordering_then (nat_cmp s.0 c) (nat_cmp s.1.offer n)

none_found : (c n : ℕ) (ss : List (ℕ × SpanRow)) → AllByRecursion (λ s. is_span c n s ≡ false) ss
    → find (is_span c n) ss ≡ None
none_found c n [] none = refl
none_found c n (s ∷ ss) none = rw none.0 (none_found c n ss none.1)

pub found_span : (c n : ℕ) (ss : List (ℕ × SpanRow)) (a : ℕ) → a ≤ length ss
    → IsPartitionPoint (λ s. is_lt (beside_span c n s) ≡ true) (λ s. is_lt (beside_span c n s) ≡ false) ss a
    → Rise span_cmp ss
    → window_at c n ss ≡ window_at c n (cons_option (slice_get (drop a ss) 0) [])
found_span c n [] zero le cut rise = refl
found_span c n [] (suc a) le cut rise = absurd (omega arith)
found_span c n (s ∷ ss) zero le cut rise = by (is_span c n s) refl
  where
    by : (b : Bool) → is_span c n s ≡ b
        → option_map (λ t. t.1.window) (if b then Some s else find (is_span c n) ss)
        ≡ option_map (λ t. t.1.window) (if b then Some s else None)
    by true e = refl
    by false e =
        let here : is_lt (beside_span c n s) ≡ false = cut.1 0 s (omega arith) (omega arith) in
        ap (option_map (λ t. t.1.window))
        (none_found c n ss
        (all_weaker _ (λ (t : ℕ × SpanRow). is_span c n t ≡ false)
        (λ t below. grind (arith, nat_tests, e, here, below)) ss rise.0))
found_span c n (s ∷ ss) (suc a) le cut rise =
    let here : is_lt (beside_span c n s) ≡ true = cut.0 0 s (omega arith) (omega arith) in
    let other : is_span c n s ≡ false = grind (arith, nat_tests, here) in
    rw other
    (found_span c n ss a (omega arith) (
      λ k d low lt. cut.0 (suc k) d (omega arith) (omega arith),
      λ k d low lt. cut.1 (suc k) d (omega arith)
          (omega arith),
    ) rise.1)

below_back : (c n : ℕ) (a b : ℕ × SpanRow) → span_cmp a b ≡ Less → is_lt (beside_span c n b) ≡ true
    → is_lt (beside_span c n a) ≡ true
below_back c n a b less h = grind (arith, nat_tests, less, h)

pub parted_spans : (c n : ℕ) (ss : List (ℕ × SpanRow)) → Rise span_cmp ss
    → IsPartitionedBy (λ (s : ℕ × SpanRow). is_lt (beside_span c n s)) ss
parted_spans c n = parted span_cmp (λ (s : ℕ × SpanRow). is_lt (beside_span c n s)) (below_back c n)

-- what a search for an offer answers
abbrev pub beside_offer : ℕ → ℕ → ℕ × Offer → Ordering
beside_offer c n o = ordering_then (nat_cmp o.0 c) (nat_cmp o.1.n n)

abbrev pub is_offer : ℕ → ℕ → ℕ × Offer → Bool
is_offer c n o = o.0 == c && o.1.n == n

rising_sides : (c n : ℕ) (a b : ℕ × Offer) → offer_cmp a b ≡ Less
    → ordering_index (beside_offer c n a) ≤ ordering_index (beside_offer c n b)
rising_sides c n a b less = grind (arith, nat_tests, less)

at_offer : (c n : ℕ) (o : ℕ × Offer) → is_eq (beside_offer c n o) ≡ is_offer c n o
at_offer c n o = grind (arith, nat_tests)

pub searched_offer : (c n : ℕ) (os : List (ℕ × Offer)) (r : Result ℕ ℕ) → Rise offer_cmp os
    → IsSearchInRange r (length os) → IsBinarySearchResult (beside_offer c n) os r
    → is_ok r ≡ list_any (is_offer c n) os
searched_offer c n = searched offer_cmp (beside_offer c n) (rising_sides c n) (is_offer c n) (at_offer c n)
