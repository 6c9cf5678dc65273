-- The notes on an event, and what they make of it.
use Rattle.std.specs.Prelude.{ℕ, ◌-◌, Bool, not, ◌&&◌, ◌||◌, ◌==◌, nat_eq, if◌then◌else◌, List, [], ◌∷◌, Option, Some}
use Rattle.std.specs.Prelude.{None, Result, Ok, codes}
use Rattle.std.specs.List.{cons_option, list_any, starts_with}
use Rattle.std.specs.Str.{bytes_eq}
use Rattle.timecode.specs.declared.rates.Rate.{Rate}
use Rattle.channel_plan.specs.declared.fault.LineFault.{LineFault}
use Rattle.edl.specs.Text.{begins_event}
use Rattle.edl.specs.Line.{EventLine}
use Rattle.edl.specs.Meaning.{LineMeaning, Noted, meaning_of}
use Rattle.edl.specs.Entry.{EventEntry}

-- the text of a line that is a note
abbrev pub note_in : Result LineMeaning LineFault → Option (List ℕ)
note_in (Ok (Noted text)) = Some text
note_in _ = None

-- the notes on the lines up to the next one of an event
unfoldable pub notes_until_event : Rate → List (List ℕ) → List (List ℕ)
notes_until_event rate [] = []
notes_until_event rate (line ∷ lines) =
    if begins_event line then [] else cons_option (note_in (meaning_of rate line)) (notes_until_event rate lines)

-- `M2` alone, or with a blank behind it
abbrev pub is_speed_note : List ℕ → Bool
is_speed_note note =
    bytes_eq note (codes "M2") || starts_with nat_eq note (codes "M2 ") || starts_with nat_eq note (77 ∷ 50 ∷ 9 ∷ [])

abbrev pub has_speed_note : List (List ℕ) → Bool
has_speed_note notes = list_any is_speed_note notes

abbrev pub source_duration : EventLine → ℕ
source_duration event = event.places.source_end - event.places.source_first

-- source and record differ in how long they are
abbrev pub is_mismatched : EventLine → Bool
is_mismatched event = not (source_duration event == event.places.record_length)

-- neither has a frame
abbrev pub is_zero : EventLine → Bool
is_zero event = (source_duration event == 0) && (event.places.record_length == 0)

-- a mismatch is meant where a note says the speed
abbrev pub is_speed : EventLine → List (List ℕ) → Bool
is_speed event notes = is_mismatched event && has_speed_note notes

-- The event of line n with its notes. A mismatch that isn't meant leaves the record as long as the source.
abbrev pub entry_of : ℕ → EventLine → List (List ℕ) → EventEntry
entry_of n event notes = record {
  line = n;
  number = event.number;
  reel = event.reel;
  channels = event.channels;
  kind = event.edit.kind;
  duration = event.edit.duration;
  source_first = event.places.source_first;
  source_end = event.places.source_end;
  record_first = event.places.record_first;
  length = if is_speed event notes then event.places.record_length else source_duration event;
  speed = is_speed event notes;
  notes = notes;
}
