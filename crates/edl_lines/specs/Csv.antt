-- The events of a list as CSV (RFC 4180): a header, and a record for each, whose lines end by LF.
use Rattle.std.specs.Prelude.{ℕ, Bool, ◌==◌, if◌then◌else◌, List, [], ◌∷◌, ◌++◌, codes, decimal, Option, Some, None}
use Rattle.std.specs.List.{flat_map}
use Rattle.edl.specs.Entry.{EventEntry}
use Rattle.edl_lines.specs.Json.{json_flag, numbered}

-- a text between quotes, of which each within is doubled
abbrev pub csv_byte : ℕ → List ℕ
csv_byte byte = if byte == 34 then 34 ∷ 34 ∷ [] else byte ∷ []

unfoldable pub csv_text : List ℕ → List ℕ
csv_text text = codes "\"" ++ (flat_map csv_byte text ++ codes "\"")

-- notes are one field, with an LF behind each
unfoldable pub csv_notes : List (List ℕ) → List ℕ
csv_notes notes = codes "\"" ++ (flat_map (λ note. flat_map csv_byte note ++ codes "\n") notes ++ codes "\"")

abbrev pub csv_duration : Option ℕ → List ℕ
csv_duration (Some frames) = decimal frames
csv_duration None = []

abbrev pub csv_head : List ℕ
csv_head = codes "line,number,reel,channels,kind,duration,source_first,source_end,record_first,length,speed,notes\n"

-- a text behind a comma
unfoldable pub csv_named : List ℕ → List ℕ
csv_named text = codes "," ++ csv_text text

unfoldable pub csv_words : EventEntry → List ℕ
csv_words event =
    decimal event.line ++ (numbered (codes ",") event.number ++ (csv_named event.reel ++ (csv_named event.channels
    ++ csv_named event.kind)))

unfoldable pub csv_numbers : EventEntry → List ℕ
csv_numbers event =
    csv_duration event.duration ++ (numbered (codes ",") event.source_first ++ (numbered (codes ",") event.source_end
    ++ (numbered (codes ",") event.record_first ++ numbered (codes ",") event.length)))

unfoldable pub csv_end : Bool → List (List ℕ) → List ℕ
csv_end speed notes = codes "," ++ (json_flag speed ++ (codes "," ++ (csv_notes notes ++ codes "\n")))

unfoldable pub csv_line : EventEntry → List ℕ
csv_line event = csv_words event ++ (codes "," ++ (csv_numbers event ++ csv_end event.speed event.notes))

abbrev pub csv_lines : List EventEntry → List ℕ
csv_lines events = csv_head ++ flat_map csv_line events
