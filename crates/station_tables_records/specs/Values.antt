-- Values of SQL as numbers and texts. A value of another type reads as some number or text; what a row must be for its
-- reading to count is said with the row.
use Rattle.std.specs.Prelude.{ℕ, ℤ, pos, negsuc, Bool, true, false, ◌==◌, List, [], Option, Some, None}
use Rattle.sqlite_value.specs.declared.value.Value.{Value}
use Rattle.sqlite_value.specs.declared.value.Value.TheVariants.{Int, Text as Words, Blob}

-- a number that isn't negative
abbrev pub of_nat : ℕ → Value
of_nat n = Int (pos n)

abbrev pub int_in : Value → ℤ
int_in (Int n) = n
int_in _ = pos 0

abbrev pub nat_of : ℤ → ℕ
nat_of (pos n) = n
nat_of (negsuc n) = 0

abbrev pub nat_in : Value → ℕ
nat_in (Int n) = nat_of n
nat_in _ = 0

abbrev pub text_in : Value → List ℕ
text_in (Words text) = text
text_in _ = []

-- a number, or none where the value is NULL
abbrev pub maybe_nat_in : Value → Option ℕ
maybe_nat_in (Int n) = Some (nat_of n)
maybe_nat_in _ = None

abbrev pub bytes_in : Value → List ℕ
bytes_in (Blob bytes) = bytes
bytes_in _ = []

-- yes is 1, no is 0
abbrev pub of_bool : Bool → Value
of_bool true = of_nat 1
of_bool false = of_nat 0

abbrev pub bool_in : Value → Bool
bool_in value = nat_in value == 1
