-- What a written list is read back as.
use Rattle.std.specs.Prelude.{◌≡◌, ◌≢◌, ℕ, ◌+◌, ◌-◌, ◌<◌, ◌≤◌, false, not, ◌==◌, if◌then◌else◌, List, [], ◌∷◌, length}
use Rattle.std.specs.Prelude.{slice_index, count_by, codes, All, Option, Some, None}
use Rattle.timecode.specs.declared.rates.Rate.{Rate}
use Rattle.timecode.specs.Counting.{day_length}
use Rattle.timecode.specs.Letters.{letter_W, star}
use Rattle.edl.specs.Limits.{highest_event_number}
use Rattle.edl.specs.Written.{OutEntry, three_digits}
use Rattle.edl.specs.Entry.{EventEntry}

-- 20h to 7Eh, and 21h to 7Eh
pub record IsPrintable (byte : ℕ) : Type 0 where
  pub low : 32 ≤ byte
  pub high : byte ≤ 126

pub record IsGraphic (byte : ℕ) : Type 0 where
  pub low : 33 ≤ byte
  pub high : byte ≤ 126

-- a word of one to so many bytes
pub record IsWord (most : ℕ) (text : List ℕ) : Type 0 where
  pub some : 0 < length text
  pub few : length text ≤ most
  pub graphic : All IsGraphic text

-- one to so many bytes with no blank at either end
pub record IsPlain (most : ℕ) (text : List ℕ) : Type 0 where
  pub some : 0 < length text
  pub few : length text ≤ most
  pub printable : All IsPrintable text
  pub first : slice_index text 0 ≢ 32
  pub last : slice_index text (length text - 1) ≢ 32

-- a note of 1 to 80 bytes that begins with `*`
pub record IsStarNote (text : List ℕ) : Type 0 where
  pub plain : IsPlain 80 text
  pub star : slice_index text 0 ≡ star

-- a cut without a duration, or a dissolve or a wipe with one
pub data IsWrittenEdit : List ℕ → Option ℕ → Type 0 where
  Cut : IsWrittenEdit (codes "C") None
  Dissolve : (frames : ℕ) → frames ≤ 999 → IsWrittenEdit (codes "D") (Some frames)
  Wipe : (number frames : ℕ) → number ≤ 999 → frames ≤ 999
      → IsWrittenEdit (letter_W ∷ three_digits number) (Some frames)

-- what the caller of the writer keeps for an event to be read back
pub record CanBeReadBack (rate : Rate) (event : OutEntry) : Type 0 where
  pub number : event.number ≤ highest_event_number
  pub reel : IsWord 8 event.reel
  pub channels : IsWord 5 event.channels
  pub edit : IsWrittenEdit event.kind event.duration
  pub source : event.source_first + event.length ≡ event.source_end
  pub source_end : event.source_end ≤ day_length rate
  pub record_first : event.record_first < day_length rate
  pub length : event.length < day_length rate
  pub notes : All IsStarNote event.notes

-- how many events aren't zero
abbrev pub nonzero_count : List OutEntry → ℕ
nonzero_count events = count_by (λ event. not (event.length == 0)) events

-- The event of line n. A source at the day's end has no frame, and is read at the day's start.
abbrev pub read_back : Rate → ℕ → OutEntry → EventEntry
read_back rate n event = record {
  line = n;
  number = event.number;
  reel = event.reel;
  channels = event.channels;
  kind = event.kind;
  duration = event.duration;
  source_first = if event.source_first == day_length rate then 0 else event.source_first;
  source_end = if event.source_first == day_length rate then 0 else event.source_end;
  record_first = event.record_first;
  length = event.length;
  speed = false;
  notes = event.notes;
}

-- the events, of which the first stands on line n, each with its notes on the lines behind it
unfoldable pub all_read_back : Rate → ℕ → List OutEntry → List EventEntry
all_read_back rate n [] = []
all_read_back rate n (event ∷ events) = read_back rate n event ∷ all_read_back rate (n + 1 + length event.notes) events
