-- What a title is.
use Rattle.std.specs.Prelude.{ℕ, ◌-◌, List, Bool, not, ◌&&◌, ◌==◌, nat_lt, nat_le, length, slice_index}
use Rattle.std.specs.List.{list_all}

-- the blank and what is printed
abbrev pub is_title_byte : ℕ → Bool
is_title_byte b = nat_le 32 b && nat_le b 126

-- 1 to 60 such bytes, with no blank at either end
unfoldable pub is_title : List ℕ → Bool
is_title text =
    nat_lt 0 (length text) && nat_le (length text) 60 && list_all is_title_byte text
    && not (slice_index text 0 == 32) && not (slice_index text (length text - 1) == 32)
