-- Edit lists that C writes.
use Rattle.std.specs.Prelude.{ℕ, ◌≡◌, ◌+◌, ◌⊎◌, ◌<◌, ◌≤◌, ◌==◌, List, [], length, All, IsUtf8, map, take, drop}
use Rattle.std.specs.Prelude.{slice_index_or}
use Rattle.std.specs.Prelude.{Option, Some, None, if◌then◌else◌}
use Rattle.timecode.specs.declared.rates.Rate.{Rate}
use Rattle.timecode.specs.Counting.{day_length}
use Rattle.edl.specs.Limits.{highest_event_number}
use Rattle.edl.specs.Written.{OutEntry, list_text}
use Rattle.temolunai.specs.Numbers.{no_such_rate, no_room, no_duration, not_writable, no_text}
use Rattle.temolunai.specs.Texts.{text_at, texts_at, IsWithin}
use Rattle.temolunai.specs.declared.texts.Place.{Place}
use Rattle.temolunai.specs.declared.lists.Event.{Event}
use Rattle.temolunai.specs.declared.writing.NotWritten.{NotWritten}
use Rattle.temolunai.specs.declared.writing.NotWritten.TheVariants as why
use Rattle.temolunai.specs.declared.writing.Written.{Written}

abbrev pub duration_said : ℕ → Option ℕ
duration_said number = if number == no_duration then None else Some number

-- text n, of those that there are
abbrev pub text_said : List (List ℕ) → ℕ → List ℕ
text_said texts n = slice_index_or texts n []

-- what an event says, whose texts these are
abbrev pub out_said : List (List ℕ) → Event → OutEntry
out_said texts event = record {
  number = event.number;
  reel = text_said texts event.first_text;
  channels = text_said texts (event.first_text + 1);
  kind = text_said texts (event.first_text + 2);
  duration = duration_said event.duration;
  source_first = event.source_first;
  source_end = event.source_end;
  record_first = event.record_first;
  length = event.length;
  notes = take event.notes (drop (event.first_text + 3) texts);
}

-- an event that can be written: its numbers have their few digits, its places lie in the day, and there are so many
-- texts
pub record CanBeWritten (rate : Rate) (count : ℕ) (event : Event) : Type 0 where
  pub number : event.number ≤ highest_event_number
  pub duration : (event.duration ≤ 999) ⊎ (event.duration ≡ no_duration)
  pub source_first : event.source_first ≤ day_length rate
  pub source_end : event.source_end ≤ day_length rate
  pub record_first : event.record_first < day_length rate
  pub length : event.length < day_length rate
  pub texts : event.first_text + 3 + event.notes ≤ count

-- a place that has a text
pub record IsText (bytes : List ℕ) (place : Place) : Type 0 where
  pub within : IsWithin (length bytes) place
  pub utf8 : IsUtf8 (text_at bytes place)

-- the list of these events is written so
abbrev pub list_written : List ℕ → Rate → List Event → List Place → List ℕ → List ℕ
list_written title rate events places bytes = list_text title rate (map (out_said (texts_at bytes places)) events)

-- the title and the places have texts, and each event can be written
abbrev pub AreWritable : List ℕ → Rate → List Event → List Place → List ℕ → Type 0
AreWritable title rate events places bytes =
    IsUtf8 title × All (IsText bytes) places × All (CanBeWritten rate (length places)) events

abbrev pub IsWrittenAt : List ℕ → Option Rate → List Event → List Place → List ℕ → List ℕ → Type 0
IsWrittenAt title (Some rate) events places bytes text =
    AreWritable title rate events places bytes × (text ≡ list_written title rate events places bytes)
IsWrittenAt title None events places bytes text = ⊥

-- the first event that can't be written
pub record IsFirstUnwritable (rate : Rate) (count : ℕ) (events : List Event) (k : ℕ) : Type 0 where
  pub below : k < length events
  pub can_not : (d : Event) → ¬ (CanBeWritten rate count (slice_index_or events k d))
  pub first : All (CanBeWritten rate count) (take k events)

-- why a list can't be written, of its events alone
abbrev pub HasEventFault : Rate → ℕ → List Event → NotWritten → Type 0
HasEventFault rate count events why.NoText = ⊥
HasEventFault rate count events (why.Event k) = IsFirstUnwritable rate count events k
HasEventFault rate count events why.Unavailable = Unit {0}

abbrev pub answered : ℕ → ℕ → ℕ → Written
answered fault event bytes = record { fault = fault; event = event; bytes = bytes }

abbrev pub answered_why : NotWritten → Written
answered_why why.NoText = answered no_text 0 0
answered_why (why.Event k) = answered not_writable k 0
answered_why why.Unavailable = answered 100 0 0

-- why a list can't be written
abbrev pub HasWhy : List ℕ → Rate → List Event → List Place → List ℕ → NotWritten → Type 0
HasWhy title rate events places bytes why.NoText = ¬ (IsUtf8 title × All (IsText bytes) places)
HasWhy title rate events places bytes (why.Event k) = IsFirstUnwritable rate (length places) events k
HasWhy title rate events places bytes why.Unavailable = Unit {0}

-- Why nothing was written: the number is no rate, the title or a place has no text, an event can't be written, memory
-- ran out, or there is too little room, and the count says how much is wanted.
abbrev pub IsUnwrittenAt : List ℕ → Option Rate → List Event → List Place → List ℕ → ℕ → Written → Type 0
IsUnwrittenAt title None events places bytes room written = written ≡ answered no_such_rate 0 0
IsUnwrittenAt title (Some rate) events places bytes room written =
    ((why : NotWritten) × HasWhy title rate events places bytes why × (written ≡ answered_why why))
    ⊎ (AreWritable title rate events places bytes × (room < written.bytes)
    × (written ≡ answered no_room 0 (length (list_written title rate events places bytes))))
