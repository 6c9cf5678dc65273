-- Rows of channels, each with its channel and with a number that counts in its channel.
use Rattle.std.specs.Prelude.{◌≡◌, ℕ, Bool, false, ◌+◌, ◌*◌, ◌&&◌, ◌==◌, nat_le, List, [], ◌∷◌}
use Rattle.std.specs.declared.cmp.Ordering.{Ordering}
use Rattle.std.specs.Ordering.{nat_cmp, ordering_then}
use Rattle.std.specs.List.{AllByRecursion}
use Rattle.sqlite_value.specs.Order.{Row}
use Rattle.station_tables_records.specs.Values.{of_nat}

-- by channel, and then by number
abbrev pub numbered_cmp : {A : Type 0} → (A → ℕ) → ℕ × A → ℕ × A → Ordering
numbered_cmp number a b = ordering_then (nat_cmp a.0 b.0) (nat_cmp (number a.1) (number b.1))

-- the columns of its key
abbrev pub numbered_key : {A : Type 0} → (A → ℕ) → ℕ × A → Row
numbered_key number r = of_nat r.0 ∷ of_nat (number r.1) ∷ []

-- of this channel
abbrev pub is_of : {A : Type 0} → ℕ → ℕ × A → Bool
is_of c r = r.0 == c

-- row n of channel c
abbrev pub is_row : {A : Type 0} → (A → ℕ) → ℕ → ℕ → ℕ × A → Bool
is_row number c n r = r.0 == c && number r.1 == n

-- row of channel c on page p: the numbers 1 to 64 are on page 0, 65 to 128 on page 1, and so on
abbrev pub is_on_page : {A : Type 0} → (A → ℕ) → ℕ → ℕ → ℕ × A → Bool
is_on_page number c p r = r.0 == c && (nat_le (p * 64 + 1) (number r.1) && nat_le (number r.1) (p * 64 + 64))

-- no row of channel c has number n
abbrev pub LacksNumber : {A : Type 0} → (A → ℕ) → ℕ → ℕ → List (ℕ × A) → Type 0
LacksNumber number c n = AllByRecursion (λ r. is_row number c n r ≡ false)
