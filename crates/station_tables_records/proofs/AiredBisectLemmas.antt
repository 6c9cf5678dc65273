-- Rows in the order of their keys, where bisection finds those of one day, or of one batch.
use Rattle.std.proofs.Common.{◌≡◌, ◌≤◌, ℕ, List, length, true, Result, is_ok}
use Rattle.std.proofs.Common.{arith, Ordering, Less, is_lt, is_eq, nat_cmp}
use Rattle.std.specs.Ordering.{is_le, ordering_then, ordering_index}
use Rattle.std.specs.List.{list_any}
use Rattle.std.specs.List.Sorted.{IsPartitionedBy, IsBinarySearchResult}
use Rattle.std.specs.List.Sorted.{IsSearchInRange}
use Rattle.std.proofs.lemmas.Bool.Decides.{nat_tests}
use Rattle.station_tables_records.specs.MadeDays.{Rise}
use Rattle.station_tables_records.specs.declared.aired_rows.BatchRow.{BatchRow}
use Rattle.station_tables_records.specs.declared.aired_rows.AiredLine.{AiredLine}
use Rattle.station_tables_records.specs.MadeAirings.{batch_cmp, line_cmp, is_batch, is_batch_of, is_line_of}
use Rattle.station_tables_records.specs.MadeAirings.{side_of_day}
use Rattle.station_tables_records.specs.MadeAirings.{side_of_batch}
use Rattle.station_tables_records.proofs.BisectLemmas.{parted, searched}

-- ---- batches beside a day

module _ (c n : ℕ) where
  day_lt_back : (a b : ℕ × BatchRow) → batch_cmp a b ≡ Less → is_lt (side_of_day c n b) ≡ true
      → is_lt (side_of_day c n a) ≡ true
  day_lt_back a b less h = grind (arith, nat_tests, less, h)

  day_le_back : (a b : ℕ × BatchRow) → batch_cmp a b ≡ Less → is_le (side_of_day c n b) ≡ true
      → is_le (side_of_day c n a) ≡ true
  day_le_back a b less h = grind (arith, nat_tests, less, h)

  pub parted_lt_day : (bs : List (ℕ × BatchRow)) → Rise batch_cmp bs
      → IsPartitionedBy (λ b. is_lt (side_of_day c n b)) bs
  parted_lt_day = parted batch_cmp (λ b. is_lt (side_of_day c n b)) day_lt_back

  pub parted_le_day : (bs : List (ℕ × BatchRow)) → Rise batch_cmp bs
      → IsPartitionedBy (λ b. is_le (side_of_day c n b)) bs
  parted_le_day = parted batch_cmp (λ b. is_le (side_of_day c n b)) day_le_back

  pub beside_day : (b : ℕ × BatchRow) → is_eq (side_of_day c n b) ≡ is_batch_of c n b
  beside_day b = grind (arith, nat_tests)

-- ---- lines beside a batch

module _ (c n k : ℕ) where
  batch_lt_back : (a b : ℕ × AiredLine) → line_cmp a b ≡ Less → is_lt (side_of_batch c n k b) ≡ true
      → is_lt (side_of_batch c n k a) ≡ true
  batch_lt_back a b less h = grind (arith, nat_tests, less, h)

  batch_le_back : (a b : ℕ × AiredLine) → line_cmp a b ≡ Less → is_le (side_of_batch c n k b) ≡ true
      → is_le (side_of_batch c n k a) ≡ true
  batch_le_back a b less h = grind (arith, nat_tests, less, h)

  pub parted_lt_batch : (rs : List (ℕ × AiredLine)) → Rise line_cmp rs
      → IsPartitionedBy (λ r. is_lt (side_of_batch c n k r)) rs
  parted_lt_batch = parted line_cmp (λ r. is_lt (side_of_batch c n k r)) batch_lt_back

  pub parted_le_batch : (rs : List (ℕ × AiredLine)) → Rise line_cmp rs
      → IsPartitionedBy (λ r. is_le (side_of_batch c n k r)) rs
  parted_le_batch = parted line_cmp (λ r. is_le (side_of_batch c n k r)) batch_le_back

  pub beside_batch : (r : ℕ × AiredLine) → is_eq (side_of_batch c n k r) ≡ is_line_of c n k r
  beside_batch r = grind (arith, nat_tests)

-- ---- searches

-- where a batch stands beside one, as tuples are compared
abbrev pub side_of_number : ℕ → ℕ → ℕ → ℕ × BatchRow → Ordering
side_of_number c n k b = ordering_then (ordering_then (nat_cmp b.0 c) (nat_cmp b.1.day n)) (nat_cmp b.1.number k)

numbers_rising : (c n k : ℕ) (a b : ℕ × BatchRow) → batch_cmp a b ≡ Less
    → ordering_index (side_of_number c n k a) ≤ ordering_index (side_of_number c n k b)
numbers_rising c n k a b less = grind (arith, nat_tests, less)

at_number : (c n k : ℕ) (b : ℕ × BatchRow) → is_eq (side_of_number c n k b) ≡ is_batch c n k b
at_number c n k b = grind (arith, nat_tests)

pub searched_batch : (c n k : ℕ) (bs : List (ℕ × BatchRow)) (r : Result ℕ ℕ) → Rise batch_cmp bs
    → IsSearchInRange r (length bs) → IsBinarySearchResult (side_of_number c n k) bs r
    → is_ok r ≡ list_any (is_batch c n k) bs
searched_batch c n k =
    searched batch_cmp (side_of_number c n k) (numbers_rising c n k) (is_batch c n k) (at_number c n k)
