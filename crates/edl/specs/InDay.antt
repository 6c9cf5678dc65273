-- Where the places of an event lie in the day.
use Rattle.std.specs.Prelude.{◌-◌, ◌<◌, ◌≤◌}
use Rattle.timecode.specs.declared.rates.Rate.{Rate}
use Rattle.timecode.specs.Counting.{day_length}
use Rattle.edl.specs.Entry.{EventEntry}
use Rattle.edl.specs.declared.event.Places.{Places}
use Rattle.edl.specs.declared.meaning.Meaning.{Meaning}
use Rattle.edl.specs.declared.meaning.Meaning.TheVariants.{Blank, Title, Mode, Event, Note}

-- the source isn't backwards, ends with the day at the latest and is shorter; the record begins within the day and is
-- shorter
pub record AreInDay (rate : Rate) (places : Places) : Type 0 where
  pub ordered : places.source_first ≤ places.source_end
  pub source : places.source_end ≤ day_length rate
  pub source_length : places.source_end - places.source_first < day_length rate
  pub record_first : places.record_first < day_length rate
  pub record_length : places.record_length < day_length rate

-- the same of a line that is an event's
abbrev pub IsInDay : Rate → Meaning → Type 0
IsInDay rate Blank = Unit {0}
IsInDay rate (Title text) = Unit {0}
IsInDay rate Mode = Unit {0}
IsInDay rate (Event event) = AreInDay rate event.places
IsInDay rate (Note text) = Unit {0}

-- the same of an event of a list
pub record IsEntryInDay (rate : Rate) (event : EventEntry) : Type 0 where
  pub ordered : event.source_first ≤ event.source_end
  pub source_end : event.source_end ≤ day_length rate
  pub record_first : event.record_first < day_length rate
  pub length : event.length < day_length rate
