-- What a barcode is.
use Rattle.std.specs.Prelude.{ℕ, List, Bool, not, ◌&&◌, ◌||◌, ◌==◌, nat_lt, nat_le, length, slice_index, drop, codes}
use Rattle.std.specs.Prelude.{bytes_eq}
use Rattle.std.specs.List.{list_all}
use Rattle.std.specs.Char.{is_ascii_digit, is_ascii_uppercase}
use Rattle.timecode.specs.Letters.{letter_C, letter_L}

-- A to Z and 0 to 9
abbrev pub is_barcode_letter : ℕ → Bool
is_barcode_letter b = is_ascii_uppercase b || is_ascii_digit b

-- a letter and 7 digits
abbrev pub is_numbered : ℕ → List ℕ → Bool
is_numbered letter text = length text == 8 && slice_index text 0 == letter && list_all is_ascii_digit (drop 1 text)

-- the reels that a list keeps for something else: black, bars, an auxiliary source, a clip and a lent clip
abbrev pub is_reserved_reel : List ℕ → Bool
is_reserved_reel text =
    bytes_eq text (codes "BL") || bytes_eq text (codes "BLACK") || bytes_eq text (codes "BARS")
    || bytes_eq text (codes "AX")
    || is_numbered letter_C text || is_numbered letter_L text

-- 1 to 8 letters and digits, and no reel that is kept
unfoldable pub is_barcode : List ℕ → Bool
is_barcode text = nat_lt 0 (length text) && nat_le (length text) 8 && list_all is_barcode_letter text
    && not (is_reserved_reel text)
