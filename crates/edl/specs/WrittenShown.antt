-- Events to be written as a contract sees them, and which of them can be written.
use Rattle.std.specs.Prelude.{◌<◌, ◌≤◌, List, map, IfSome}
use Rattle.timecode.specs.declared.rates.Rate.{Rate}
use Rattle.timecode.specs.Counting.{day_length}
use Rattle.edl.specs.Limits.{highest_event_number}
use Rattle.edl.specs.declared.write.OutEvent.{OutEvent}
use Rattle.edl.specs.Entry.{EventEntry}
use Rattle.edl.specs.Written.{OutEntry}

abbrev pub out_shown : OutEvent → OutEntry
out_shown event = record {
  number = event.number;
  reel = event.reel.now;
  channels = event.channels.now;
  kind = event.kind.now;
  duration = event.duration;
  source_first = event.source_first;
  source_end = event.source_end;
  record_first = event.record_first;
  length = event.length;
  notes = event.notes;
}

abbrev pub outs_of : List OutEvent → List OutEntry
outs_of events = map out_shown events

-- a read event as one to be written: all but its line, and whether its source is played at another speed
abbrev pub out_of : EventEntry → OutEntry
out_of event = record {
  number = event.number;
  reel = event.reel;
  channels = event.channels;
  kind = event.kind;
  duration = event.duration;
  source_first = event.source_first;
  source_end = event.source_end;
  record_first = event.record_first;
  length = event.length;
  notes = event.notes;
}

-- a number that an event may have, a duration of three digits, and places of the day
pub record HasText (rate : Rate) (event : OutEvent) : Type 0 where
  pub number : event.number ≤ highest_event_number
  pub duration : IfSome event.duration (λ frames. frames ≤ 999)
  pub source_first : event.source_first ≤ day_length rate
  pub source_end : event.source_end ≤ day_length rate
  pub record_first : event.record_first < day_length rate
  pub length : event.length < day_length rate
