-- The loops of `notes_until_event` (the notes on the lines up to the next one of an event).
use Rattle.std.proofs.Common.{◌≡◌, ◌++◌, length}
use Rattle.edl.specs.Text.{line_texts}
use Rattle.edl.specs.Texts.{texts_of}
use Rattle.edl.specs.Notes.{notes_until_event}
use Rattle.edl.proofs.read.notes_until_event.Given as goal

abbrev pub invariant-loop-rest : goal.invariant-loop-rest
invariant-loop-rest l =
    texts_of l.notes.items ++ notes_until_event l.rate (line_texts l.rest)
    ≡ notes_until_event l.rate (line_texts l.fn.text)

abbrev pub decreases-loop-rest : goal.decreases-loop-rest
decreases-loop-rest l = length l.rest
