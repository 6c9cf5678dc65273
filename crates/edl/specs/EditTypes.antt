-- The four kinds of edits of CMX 3600, by the words that say them.
use Rattle.std.specs.Prelude.{ℕ, ◌==◌, if◌then◌else◌, List, drop, slice_index, bytes_eq, codes, Option, Some, None}
use Rattle.std.specs.Prelude.{option_map}
use Rattle.timecode.specs.Decimal.{decimal_number}
use Rattle.timecode.specs.Letters.{letter_W}
use Rattle.edl.specs.Line.{is_cut, is_key}
use Rattle.edl.specs.declared.edits.EditType.{EditType}
use Rattle.edl.specs.declared.edits.EditType.TheVariants.{Cut, Dissolve, Wipe, Key}

-- the wipe of `W` and its pattern, which has one to three digits
abbrev pub edit_type_of : List ℕ → Option EditType
edit_type_of word =
    if is_cut word then Some Cut
    else if bytes_eq word (codes "D") then Some Dissolve
    else if slice_index word 0 == letter_W then option_map (λ pattern. Wipe pattern) (decimal_number 3 (drop 1 word))
    else if is_key word then Some Key
    else None
