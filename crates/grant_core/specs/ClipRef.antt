-- What the clip of an offer names.
use Rattle.std.specs.Prelude.{ℕ, List, [], ◌∷◌, length, ◌==◌, Option, Some, None, if◌then◌else◌}
use Rattle.timecode.specs.Decimal.{decimal_number}
use Rattle.timecode.specs.Letters.{letter_C, letter_L}
use Rattle.grant_core.specs.declared.clip_ref.ClipRef.{ClipRef}
use Rattle.grant_core.specs.declared.clip_ref.ClipRef.TheVariants.{Own, Lent, Unknown}

-- the number that just 7 digits write
abbrev pub seven_digits : List ℕ → Option ℕ
seven_digits text = if length text == 7 then decimal_number 7 text else None

abbrev pub own_clip : Option ℕ → ClipRef
own_clip None = Unknown
own_clip (Some n) = Own n

abbrev pub lent_clip : Option ℕ → ClipRef
lent_clip None = Unknown
lent_clip (Some n) = Lent

-- `C` and 7 digits is an own clip, by its number; `L` and 7 digits is a lent one
abbrev pub clip_ref : List ℕ → ClipRef
clip_ref [] = Unknown
clip_ref (b ∷ digits) =
    if b == letter_C then own_clip (seven_digits digits) else
    if b == letter_L then lent_clip (seven_digits digits) else
    Unknown
