-- The reel of a row of what was aired.
use Rattle.std.specs.Prelude.{ℕ, List, Bool, not, ◌&&◌, nat_lt, nat_le, length, codes, bytes_eq, Option, Some, None}
use Rattle.std.specs.Prelude.{if◌then◌else◌}
use Rattle.std.specs.List.{list_all}
use Rattle.vault_core.specs.Barcode.{is_barcode_letter}

-- 1 to 8 letters A to Z and digits
abbrev pub is_reel : List ℕ → Bool
is_reel text = nat_lt 0 (length text) && nat_le (length text) 8 && list_all is_barcode_letter text

-- the reel that a text says: the long name of black is kept as the short one
abbrev pub short_name : List ℕ → List ℕ
short_name text = if bytes_eq text (codes "BLACK") then codes "BL" else text

abbrev pub reel_said : List ℕ → Option (List ℕ)
reel_said text = if is_reel text then Some (short_name text) else None

-- a reel as rows keep it
abbrev pub is_row_reel : List ℕ → Bool
is_row_reel reel = is_reel reel && not (bytes_eq reel (codes "BLACK"))
