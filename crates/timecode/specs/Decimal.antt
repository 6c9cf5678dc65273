-- Decimal numbers in texts.
use Rattle.std.specs.Prelude.{ℕ, ◌-◌, List, ◌++◌, Bool, ◌&&◌, ◌==◌, length, replicate, decimal, slice_index, nat_lt}
use Rattle.std.specs.Prelude.{nat_le, Option, Some, None, if◌then◌else◌}
use Rattle.std.specs.List.{list_all}
use Rattle.std.specs.Char.{is_ascii_digit}
use Rattle.std.specs.Str.Parse.{digits_value}
use Rattle.timecode.specs.Letters.{digit_0}

-- 1 to `most` digits
abbrev pub is_decimal : ℕ → List ℕ → Bool
is_decimal most text = nat_lt 0 (length text) && nat_le (length text) most && list_all is_ascii_digit text

-- the number that 1 to `most` digits write
abbrev pub decimal_number : ℕ → List ℕ → Option ℕ
decimal_number most text = if is_decimal most text then Some (digits_value 10 text) else None

-- the same, where the first digit isn't 0
abbrev pub whole_number : ℕ → List ℕ → Option ℕ
whole_number most text = if slice_index text 0 == digit_0 then None else decimal_number most text

-- a number in at least so many digits: zeros stand in front
abbrev pub in_digits : ℕ → ℕ → List ℕ
in_digits width n = replicate (width - length (decimal n)) digit_0 ++ decimal n
