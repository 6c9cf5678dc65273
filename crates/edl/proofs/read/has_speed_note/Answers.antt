-- `has_speed_note`: whether one of the notes makes a speed event.
use Rattle.std.proofs.Common.{◌∙◌, [], arith, sym, ap}
use Rattle.std.proofs.lemmas.List.Folds.{list_any_at}
use Rattle.edl.specs.Texts.{texts_of}
use Rattle.edl.specs.Notes.{is_speed_note}
use Rattle.edl.proofs.FieldLemmas.{field-texts_of, length-texts_of}
use Rattle.edl.proofs.read.has_speed_note.Goals as goal

pub returns-then-is_speed_note : goal.returns-then-is_speed_note
returns-then-is_speed_note c =
    let lt = c.loop-note-test.true in
    let count = length-texts_of c.args.notes.now in
    let at = field-texts_of c.args.notes.now c.loop-note.note-index _ lt in
    sym (list_any_at is_speed_note (texts_of c.args.notes.now) c.loop-note.note-index [] (omega (arith, count))
    (ap is_speed_note at ∙ sym c.if-is_speed_note.ensures))
