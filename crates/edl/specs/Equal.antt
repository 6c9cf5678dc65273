-- Which events are equal.
use Rattle.std.specs.Prelude.{ℕ, Bool, ◌&&◌, ◌==◌, nat_eq, bytes_eq, List}
use Rattle.std.specs.Bool.{beq}
use Rattle.std.specs.Cmp.Lexicographic.{pointwise}
use Rattle.std.specs.Option.{option_eq}
use Rattle.edl.specs.Entry.{EventEntry}

-- the same texts in the same order
abbrev pub texts_eq : List (List ℕ) → List (List ℕ) → Bool
texts_eq = pointwise bytes_eq

-- the same line, number, words and duration
abbrev pub words_eq : EventEntry → EventEntry → Bool
words_eq a b =
    a.line == b.line && a.number == b.number
    && bytes_eq a.reel b.reel && bytes_eq a.channels b.channels && bytes_eq a.kind b.kind
    && option_eq nat_eq a.duration b.duration

abbrev pub places_eq : EventEntry → EventEntry → Bool
places_eq a b =
    a.source_first == b.source_first && a.source_end == b.source_end
    && a.record_first == b.record_first && a.length == b.length

-- events that say the same, on the same line
abbrev pub entry_eq : EventEntry → EventEntry → Bool
entry_eq a b = words_eq a b && places_eq a b && beq a.speed b.speed && texts_eq a.notes b.notes
