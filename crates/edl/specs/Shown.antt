-- What the reader's values say, without where their texts lie in memory.
use Rattle.edl.specs.declared.event.ReadEdit.{ReadEdit}
use Rattle.edl.specs.declared.event.ReadEvent.{ReadEvent}
use Rattle.edl.specs.declared.meaning.Meaning.{Meaning}
use Rattle.edl.specs.declared.meaning.Meaning.TheVariants.{Blank, Title, Mode, Event, Note}
use Rattle.edl.specs.Line.{EditWords, EventLine}
use Rattle.edl.specs.Meaning.{LineMeaning, Nothing, Titled, Moded, Edited, Noted}

abbrev pub edit_shown : ReadEdit → EditWords
edit_shown edit = record { kind = edit.kind.now; duration = edit.duration }

abbrev pub event_shown : ReadEvent → EventLine
event_shown event = record {
  number = event.number;
  reel = event.reel.now;
  channels = event.channels.now;
  edit = edit_shown event.edit;
  places = event.places;
}

abbrev pub meaning_shown : Meaning → LineMeaning
meaning_shown Blank = Nothing
meaning_shown (Title text) = Titled text.now
meaning_shown Mode = Moded
meaning_shown (Event event) = Edited (event_shown event)
meaning_shown (Note text) = Noted text.now
