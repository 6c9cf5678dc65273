-- The values that statements are given.
use Rattle.std.proofs.Common.{◌≡◌, ℕ, Option, Some, None, refl}
use Rattle.sqlite.specs.Values.{or_null, bound_value}
use Rattle.station_tables_records.specs.Values.{of_nat}

-- NULL where there is none
pub bound_slot : (slot : Option ℕ) → bound_value (or_null of_nat slot) ≡ or_null of_nat slot
bound_slot None = refl
bound_slot (Some n) = refl
