-- The reel of a clip in edit lists and tables.
use Rattle.std.specs.Prelude.{ℕ, List, ◌∷◌}
use Rattle.timecode.specs.Decimal.{in_digits}
use Rattle.timecode.specs.Letters.{letter_C}

-- `C`, and the clip's number in 7 digits
abbrev pub clip_reel : ℕ → List ℕ
clip_reel n = letter_C ∷ in_digits 7 n
