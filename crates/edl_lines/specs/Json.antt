-- The events of a list as lines of JSON (RFC 8259): an object for each, with the names that the library has.
use Rattle.std.specs.Prelude.{ℕ, ◌/◌, ◌%◌, ◌==◌, nat_lt, if◌then◌else◌, Bool, true, false, List, [], ◌∷◌, ◌++◌}
use Rattle.std.specs.Prelude.{codes, decimal, Option, Some, None, slice_index}
use Rattle.std.specs.List.{flat_map}
use Rattle.edl.specs.Entry.{EventEntry}

-- a digit of a byte, of 16
abbrev pub hex_digit : ℕ → ℕ
hex_digit n = slice_index (codes "0123456789abcdef") n

-- a byte of a string: `"` (34) and `\` (92) behind a `\`, what is below the blank in digits, as \u000a
abbrev pub json_byte : ℕ → List ℕ
json_byte byte =
    if byte == 34 then 92 ∷ 34 ∷ [] else if byte == 92 then 92 ∷ 92 ∷ []
    else if nat_lt byte 32 then codes "\\u00" ++ (hex_digit (byte / 16) ∷ hex_digit (byte % 16) ∷ [])
    else byte ∷ []

unfoldable pub json_text : List ℕ → List ℕ
json_text text = codes "\"" ++ (flat_map json_byte text ++ codes "\"")

-- the second and the others behind a comma
abbrev pub json_rest : List (List ℕ) → List ℕ
json_rest texts = flat_map (λ text. codes "," ++ json_text text) texts

abbrev pub json_items : List (List ℕ) → List ℕ
json_items [] = []
json_items (text ∷ texts) = json_text text ++ json_rest texts

unfoldable pub json_texts : List (List ℕ) → List ℕ
json_texts texts = codes "[" ++ (json_items texts ++ codes "]")

abbrev pub json_duration : Option ℕ → List ℕ
json_duration (Some frames) = decimal frames
json_duration None = codes "null"

abbrev pub json_flag : Bool → List ℕ
json_flag true = codes "true"
json_flag false = codes "false"

-- a number, and a text, behind the name of its member
unfoldable pub numbered : List ℕ → ℕ → List ℕ
numbered name number = name ++ decimal number

unfoldable pub named : List ℕ → List ℕ → List ℕ
named name text = name ++ json_text text

-- the words of an event
unfoldable pub json_words : EventEntry → List ℕ
json_words event =
    numbered (codes "{\"line\":") event.line ++ (numbered (codes ",\"number\":") event.number
    ++ (named (codes ",\"reel\":") event.reel ++ (named (codes ",\"channels\":") event.channels
    ++ named (codes ",\"kind\":") event.kind)))

unfoldable pub json_source : EventEntry → List ℕ
json_source event =
    numbered (codes ",\"source_first\":") event.source_first ++ numbered (codes ",\"source_end\":") event.source_end

unfoldable pub json_record : EventEntry → List ℕ
json_record event =
    numbered (codes ",\"record_first\":") event.record_first ++ numbered (codes ",\"length\":") event.length

-- and its numbers
unfoldable pub json_numbers : EventEntry → List ℕ
json_numbers event = json_duration event.duration ++ (json_source event ++ json_record event)

unfoldable pub json_end : Bool → List (List ℕ) → List ℕ
json_end speed notes =
    codes ",\"speed\":" ++ (json_flag speed ++ (codes ",\"notes\":" ++ (json_texts notes ++ codes "}\n")))

unfoldable pub json_line : EventEntry → List ℕ
json_line event =
    json_words event ++ (codes ",\"duration\":" ++ (json_numbers event ++ (json_end event.speed event.notes)))

abbrev pub json_lines : List EventEntry → List ℕ
json_lines events = flat_map json_line events
