-- The text of a written list.
use Rattle.std.specs.Prelude.{ℕ, ◌+◌, ◌-◌, ◌/◌, ◌%◌, ◌==◌, if◌then◌else◌, List, [], ◌∷◌, ◌++◌, length, replicate}
use Rattle.std.specs.Prelude.{codes, Option, Some, None}
use Rattle.std.specs.List.{flat_map}
use Rattle.timecode.specs.declared.rates.Rate.{Rate}
use Rattle.timecode.specs.Rate.{is_drop_frame}
use Rattle.timecode.specs.Counting.{day_length}
use Rattle.timecode.specs.Decimal.{in_digits}
use Rattle.timecode.specs.Label.{frame_text}
use Rattle.timecode.specs.Letters.{digit_0}

-- An event to be written. Places are frames of the day; a source may end with the day.
pub record OutEntry : Type 0 where
  pub number : ℕ
  pub reel : List ℕ
  pub channels : List ℕ
  pub kind : List ℕ
  pub duration : Option ℕ
  pub source_first : ℕ
  pub source_end : ℕ
  pub record_first : ℕ
  pub length : ℕ
  pub notes : List (List ℕ)

-- three decimal digits
unfoldable pub three_digits : ℕ → List ℕ
three_digits n = (digit_0 + n / 100) ∷ (digit_0 + n / 10 % 10) ∷ (digit_0 + n % 10) ∷ []

-- at the left of so many places
abbrev pub padded : ℕ → List ℕ → List ℕ
padded width text = text ++ replicate (width - length text) 32

-- an event's number in three digits or more, at the left of the first five places
unfoldable pub number_text : ℕ → List ℕ
number_text n = padded 5 (in_digits 3 n)

-- three digits, or as many blanks
abbrev pub duration_text : Option ℕ → List ℕ
duration_text (Some frames) = three_digits frames
duration_text None = codes "   "

-- the label of a place; the day's end is written as its start
unfoldable pub place_text : Rate → ℕ → List ℕ
place_text rate place = frame_text rate (if place == day_length rate then 0 else place)

-- what stands before the labels
unfoldable pub edit_text : OutEntry → List ℕ
edit_text event =
    number_text event.number ++ padded 8 event.reel ++ codes " " ++ padded 5 event.channels ++ codes " "
    ++ padded 4 event.kind ++ codes " " ++ duration_text event.duration

-- source in and out, record in and out, each behind a blank; the record may go on past the day's end
unfoldable pub places_text : Rate → OutEntry → List ℕ
places_text rate event =
    32 ∷ place_text rate event.source_first ++ 32 ∷ place_text rate event.source_end ++ 32
    ∷ place_text rate event.record_first
    ++ 32 ∷ place_text rate ((event.record_first + event.length) % day_length rate)

-- a line and its end
abbrev pub line_of : List ℕ → List ℕ
line_of text = text ++ 10 ∷ []

-- an event's line, and the lines of its notes
unfoldable pub event_text : Rate → OutEntry → List ℕ
event_text rate event = line_of (edit_text event ++ places_text rate event) ++ flat_map line_of event.notes

abbrev pub mode_text : Rate → List ℕ
mode_text rate = if is_drop_frame rate then codes "FCM: DROP FRAME" else codes "FCM: NON-DROP FRAME"

-- the title, the frame mode and an empty line
abbrev pub head_text : List ℕ → Rate → List ℕ
head_text title rate = line_of (codes "TITLE: " ++ title) ++ line_of (mode_text rate) ++ line_of []

-- the head and the events
unfoldable pub list_text : List ℕ → Rate → List OutEntry → List ℕ
list_text title rate events = head_text title rate ++ flat_map (event_text rate) events
