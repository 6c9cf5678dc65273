-- A text as lines, and a line as fields.
use Rattle.std.specs.Prelude.{ℕ, ◌-◌, Bool, not, ◌||◌, ◌==◌, nat_eq, if◌then◌else◌, List, [], ◌∷◌, length, take, drop}
use Rattle.std.specs.Prelude.{map, filter, slice_index}
use Rattle.std.specs.Char.{is_ascii_digit}
use Rattle.std.specs.List.{starts_with, ends_with, prefix_len, suffix_len, slice_split, onto_first}

-- LF ends a line
abbrev pub is_line_end : ℕ → Bool
is_line_end byte = byte == 10

-- space and tab
abbrev pub is_blank : ℕ → Bool
is_blank byte = (byte == 32) || (byte == 9)

-- without the byte order mark at its start
abbrev pub after_mark : List ℕ → List ℕ
after_mark text = if starts_with nat_eq text (0xef ∷ 0xbb ∷ 0xbf ∷ []) then drop 3 text else text

-- cut behind each LF, which is left out; what stands behind the last one is a line if it isn't empty
unfoldable pub raw_lines : List ℕ → List (List ℕ)
raw_lines [] = []
raw_lines (byte ∷ bytes) = if is_line_end byte then [] ∷ raw_lines bytes else onto_first byte (raw_lines bytes)

-- without one CR at its end
abbrev pub without_cr : List ℕ → List ℕ
without_cr line = if ends_with nat_eq line (13 ∷ []) then take (length line - 1) line else line

-- without blanks at its start, and at its end
abbrev pub after_blanks : List ℕ → List ℕ
after_blanks bytes = drop (prefix_len is_blank bytes) bytes

abbrev pub before_blanks : List ℕ → List ℕ
before_blanks bytes = take (length bytes - suffix_len is_blank bytes) bytes

-- what a line says: without its CR, and without blanks at its ends
unfoldable pub line_text : List ℕ → List ℕ
line_text line = before_blanks (after_blanks (without_cr line))

abbrev pub line_texts : List ℕ → List (List ℕ)
line_texts text = map line_text (raw_lines text)

-- what the lines of a text say, the first line first
abbrev pub lines_of : List ℕ → List (List ℕ)
lines_of text = line_texts (after_mark text)

-- the longest stretches without a blank
unfoldable pub fields_of : List ℕ → List (List ℕ)
fields_of line = filter (λ field. not (length field == 0)) (slice_split is_blank line)

-- the line begins with a digit, as just the lines of events do
abbrev pub begins_event : List ℕ → Bool
begins_event line = is_ascii_digit (slice_index line 0)
