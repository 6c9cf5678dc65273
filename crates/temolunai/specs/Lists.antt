-- Edit lists as C gets them.
use Rattle.std.specs.Prelude.{ℕ, ◌≡◌, ◌+◌, ◌⊎◌, ◌<◌, ◌≤◌, ◌^◌, Bool, true, false, List, [], ◌∷◌, ◌++◌, length, All}
use Rattle.std.specs.Prelude.{Option, Some, None, is_some}
use Rattle.std.specs.Option.{option_to_list}
use Rattle.timecode.specs.declared.rates.Rate.{Rate}
use Rattle.timecode.specs.declared.faults.TcFault.{TcFault}
use Rattle.timecode.specs.Fault.{fault_number as label_fault_number}
use Rattle.channel_plan.specs.declared.fault.ListFault.{ListFault}
use Rattle.channel_plan.specs.declared.fault.ListFault.TheVariants.{Unavailable}
use Rattle.channel_plan.specs.Fault.{line_of, code_of, label_of}
use Rattle.edl.specs.Entry.{EventEntry, is_picture}
use Rattle.edl.specs.EditTypes.{edit_type_of}
use Rattle.edl.specs.Faults.{first_fault}
use Rattle.edl.specs.InOrder.{texts_in, texts_of_events}
use Rattle.edl.specs.ListOf.{IsListOf}
use Rattle.edl.specs.declared.edits.EditType.{EditType}
use Rattle.edl.specs.declared.edits.EditType.TheVariants.{Cut, Dissolve, Wipe, Key}
use Rattle.temolunai.specs.Numbers.{done, no_such_rate, no_room, too_long, no_duration}
use Rattle.temolunai.specs.Texts.{texts_at, IsWithin}
use Rattle.temolunai.specs.declared.texts.Place.{Place}
use Rattle.temolunai.specs.declared.lists.Event.{Event}
use Rattle.temolunai.specs.declared.lists.Laid.{Laid}
use Rattle.temolunai.specs.declared.lists.ListRead.{ListRead}

abbrev pub number_of_flag : Bool → ℕ
number_of_flag true = 1
number_of_flag false = 0

abbrev pub number_of_duration : Option ℕ → ℕ
number_of_duration (Some frames) = frames
number_of_duration None = no_duration

-- 1 to 4 are a cut, a dissolve, a wipe and a key
abbrev pub number_of_edit : Option EditType → ℕ
number_of_edit (Some Cut) = 1
number_of_edit (Some Dissolve) = 2
number_of_edit (Some (Wipe pattern)) = 3
number_of_edit (Some Key) = 4
number_of_edit None = 0

abbrev pub pattern_of_edit : Option EditType → ℕ
pattern_of_edit (Some (Wipe pattern)) = pattern
pattern_of_edit _ = 0

-- an event, the first of whose texts is text n
abbrev pub event_made : ℕ → EventEntry → Event
event_made n entry = record {
  first_text = n;
  notes = length entry.notes;
  line = entry.line;
  number = entry.number;
  duration = number_of_duration entry.duration;
  source_first = entry.source_first;
  source_end = entry.source_end;
  record_first = entry.record_first;
  length = entry.length;
  speed = number_of_flag entry.speed;
  is_picture = number_of_flag (is_picture entry);
  edit_type = number_of_edit (edit_type_of entry.kind);
  pattern = pattern_of_edit (edit_type_of entry.kind);
}

-- events whose texts stand one behind another, from text n on
unfoldable pub events_made : ℕ → List EventEntry → List Event
events_made n [] = []
events_made n (entry ∷ entries) = event_made n entry ∷ events_made (n + length (texts_in entry)) entries

-- all texts of a list: the title, if there is one, the head's notes, and each event's reel, channels, kind and notes
abbrev pub texts_before : Option (List ℕ) → List (List ℕ) → List (List ℕ)
texts_before title head = option_to_list title ++ head

abbrev pub texts_of_list : Option (List ℕ) → List (List ℕ) → List EventEntry → List (List ℕ)
texts_of_list title head entries = texts_before title head ++ texts_of_events entries

-- what was found, of which nothing is wrong
abbrev pub counts_of : Laid → ℕ → ℕ → ListRead
counts_of laid has_title head_notes = record {
  fault = done;
  line = 0;
  label = 0;
  has_title = has_title;
  head_notes = head_notes;
  events = length laid.events.items;
  texts = length laid.texts.places.items;
  bytes = length laid.texts.bytes.items;
}

-- These events, places and bytes are those of the list of a text, which the counts say.
pub record IsRead (rate : Rate) (ignore : Bool) (text : List ℕ) (read : ListRead) (events : List Event)
    (places : List Place) (bytes : List ℕ) : Type 0 where
  pub title : Option (List ℕ)
  pub head : List (List ℕ)
  pub entries : List EventEntry
  pub is_list : IsListOf rate ignore text title head entries
  pub has_title : read.has_title ≡ number_of_flag (is_some title)
  pub head_notes : read.head_notes ≡ length head
  pub events_are : (read.events ≡ length events) × (events ≡ events_made (length (texts_before title head)) entries)
  pub texts_are : (read.texts ≡ length places) × (texts_at bytes places ≡ texts_of_list title head entries)
  pub within : (read.bytes ≡ length bytes) × All (IsWithin (length bytes)) places

-- a call that read nothing, for this fault
abbrev pub refused_for : ℕ → ℕ → ℕ → ListRead
refused_for fault line label = record {
  fault = fault;
  line = line;
  label = label;
  has_title = 0;
  head_notes = 0;
  events = 0;
  texts = 0;
  bytes = 0;
}

abbrev pub number_of_label_fault : Option TcFault → ℕ
number_of_label_fault (Some fault) = label_fault_number fault
number_of_label_fault None = 0

-- for the fault of a list: its number, its line and the number of its label's fault
abbrev pub fault_read : ListFault → ListRead
fault_read fault = refused_for (code_of fault) (line_of fault) (number_of_label_fault (label_of fault))

-- at a number that is a rate
abbrev pub IsReadAt : Option Rate → Bool → List ℕ → ListRead → List Event → List Place → List ℕ → Type 0
IsReadAt (Some rate) ignore text read events places bytes = IsRead rate ignore text read events places bytes
IsReadAt None ignore text read events places bytes = ⊥

-- How much room there is for events, places and bytes.
pub record Room : Type 0 where
  pub events : ℕ
  pub texts : ℕ
  pub bytes : ℕ

-- one of them is too small for what was read
abbrev pub IsTooSmall : Room → ListRead → Type 0
IsTooSmall room read = (room.events < read.events) ⊎ (room.texts < read.texts) ⊎ (room.bytes < read.bytes)

-- Why nothing was written: the number is no rate, the text has 2^32 bytes or more, it has a fault or memory ran out, or
-- there is too little room, and the counts say how much is wanted.
abbrev pub IsRefusedAt : Option Rate → Bool → List ℕ → Room → ListRead → Type 0
IsRefusedAt None ignore text room read = read ≡ refused_for no_such_rate 0 0
IsRefusedAt (Some rate) ignore text room read =
    ((2 ^ 32 ≤ length text) × (read ≡ refused_for too_long 0 0))
    ⊎ ((fault : ListFault) × ((fault ≡ Unavailable) ⊎ (first_fault rate ignore text ≡ Some fault))
    × (read ≡ fault_read fault))
    ⊎ ((events : List Event) × (places : List Place) × (bytes : List ℕ)
    × IsRead rate ignore text read events places bytes × IsTooSmall room read × (read.fault ≡ no_room))
