-- Events as a contract sees them.
use Rattle.std.specs.Prelude.{ℕ, List, map, Option, Some, None}
use Rattle.std.specs.Borrow.{Bor}
use Rattle.edl.specs.declared.list.Event.{Event}
use Rattle.edl.specs.Entry.{EventEntry}

-- an event without where its texts lie in memory
abbrev pub entry_shown : Event → EventEntry
entry_shown event = record {
  line = event.line;
  number = event.number;
  reel = event.reel.now;
  channels = event.channels.now;
  kind = event.kind.now;
  duration = event.duration;
  source_first = event.source_first;
  source_end = event.source_end;
  record_first = event.record_first;
  length = event.length;
  speed = event.speed;
  notes = event.notes;
}

abbrev pub entries_of : List Event → List EventEntry
entries_of events = map entry_shown events

-- the text of a title, if there is one
abbrev pub title_shown : Option (Bor (List ℕ)) → Option (List ℕ)
title_shown None = None
title_shown (Some text) = Some text.now
