-- The loops of `has_speed_note` (whether one of the notes makes a speed event).
use Rattle.std.proofs.Common.{◌≡◌, false, take}
use Rattle.edl.specs.Texts.{texts_of}
use Rattle.edl.specs.Notes.{has_speed_note}
use Rattle.edl.proofs.read.has_speed_note.Given as goal

abbrev pub invariant-loop-note : goal.invariant-loop-note
invariant-loop-note l = has_speed_note (texts_of (take l.note-index l.notes)) ≡ false
