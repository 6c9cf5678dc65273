-- `notes_until_event`: the notes on the lines up to the next one of an event.
use Rattle.std.proofs.Common.{◌∙◌, ◌≡◌, ◌++◌, ◌∷◌, [], List, ℕ, sym, ap, Some, None}
use Rattle.std.specs.List.{before_first}
use Rattle.std.specs.Borrow.{Bor}
use Rattle.std.proofs.lemmas.List.{append-nil, map_push}
use Rattle.edl.specs.Text.{is_line_end, line_text}
use Rattle.edl.specs.Texts.{texts_of}
use Rattle.edl.specs.Meaning.{meaning_of}
use Rattle.edl.specs.Notes.{note_in}
use Rattle.edl.proofs.NotesLemmas.{notes_end, notes_last, notes_more}
use Rattle.edl.proofs.read.notes_until_event.Goals as goal

pub returns-then-begins_event : goal.returns-then-begins_event
returns-then-begins_event c =
    notes_end c.args.rate c.loop-rest.rest.now _ _ (sym c.is_empty.ensures ∙ c.loop-rest-test.true)
    c.loop-rest.invariant
    (rw (← c.split_line.ensures.line, ← c.line_text-line.ensures, ← c.begins_event.ensures) c.if-begins_event.true)

pub loop-rest-preserved-in_ok-push : goal.loop-rest-preserved-in_ok-push
loop-rest-preserved-in_ok-push c =
    let line : c.line_text-line.result.now ≡ line_text (before_first is_line_end c.loop-rest.rest.now) =
    c.line_text-line.ensures ∙ ap line_text c.split_line.ensures.line in
    let note = c.in-Some.ensures ∙ ap (λ (l : List ℕ). note_in (meaning_of c.args.rate l)) line in
    let pushed : texts_of c.push.new.self.items ≡ texts_of c.loop-rest.notes.items ++ c.in-Some.note.now ∷ [] =
    ap texts_of c.in_ok-push.ensures.items
    ∙ map_push (λ (text : Bor (List ℕ)). text.now) c.loop-rest.notes.items c.in-Some.note in
    let more =
    notes_more c.args.rate c.loop-rest.rest.now _ _ (Some c.in-Some.note.now)
    (sym c.is_empty.ensures ∙ c.loop-rest-test.true) c.loop-rest.invariant
    (rw (← line, ← c.begins_event.ensures) c.if-begins_event.false) note in
    rw (pushed, c.split_line.ensures.rest) more

pub loop-rest-preserved : goal.loop-rest-preserved
loop-rest-preserved c =
    let line : c.line_text-line.result.now ≡ line_text (before_first is_line_end c.loop-rest.rest.now) =
    c.line_text-line.ensures ∙ ap line_text c.split_line.ensures.line in
    let note = c.in_default.ensures ∙ ap (λ (l : List ℕ). note_in (meaning_of c.args.rate l)) line in
    let more =
    notes_more c.args.rate c.loop-rest.rest.now _ _ None (sym c.is_empty.ensures ∙ c.loop-rest-test.true)
    c.loop-rest.invariant (rw (← line, ← c.begins_event.ensures) c.if-begins_event.false) note in
    rw (← append-nil (texts_of c.loop-rest.notes.items), c.split_line.ensures.rest) more

pub returns : goal.returns
returns c =
    notes_last c.args.rate c.loop-rest.rest.now _ _ (sym c.is_empty.ensures ∙ c.loop-rest-test.false)
    c.loop-rest.invariant
