-- Notes, line by line.
use Rattle.std.proofs.Common.{◌≡◌, ℕ, true, false, List, [], ◌∷◌, ◌++◌, length, Option, Some, None, refl, sym, ap, ◌∙◌}
use Rattle.std.proofs.Common.{arith}
use Rattle.std.specs.Prelude.{◌==◌}
use Rattle.std.specs.List.{cons_option, before_first, after_first}
use Rattle.std.specs.Option.{option_to_list}
use Rattle.std.proofs.lemmas.Bool.{eqb-true}
use Rattle.std.proofs.lemmas.List.{append_assoc, append-nil}
use Rattle.timecode.specs.declared.rates.Rate.{Rate}
use Rattle.edl.specs.Text.{begins_event, is_line_end, line_text, line_texts}
use Rattle.edl.specs.Meaning.{meaning_of}
use Rattle.edl.specs.Notes.{note_in, notes_until_event}
use Rattle.edl.proofs.TextLemmas.{above_zero, line_texts-nil, line_texts-step}

pub notes-nil : (rate : Rate) → notes_until_event rate [] ≡ []
unfolding notes_until_event
notes-nil rate = refl

pub notes-event : (rate : Rate) (line : List ℕ) (lines : List (List ℕ)) → begins_event line ≡ true
    → notes_until_event rate (line ∷ lines) ≡ []
unfolding notes_until_event
notes-event rate line lines e = rw e refl

pub notes-other : (rate : Rate) (line : List ℕ) (lines : List (List ℕ)) → begins_event line ≡ false
    → notes_until_event rate (line ∷ lines)
    ≡ cons_option (note_in (meaning_of rate line)) (notes_until_event rate lines)
unfolding notes_until_event
notes-other rate line lines e = rw e refl

-- the line of an event ends the notes
pub notes_end : (rate : Rate) (rest : List ℕ) (so_far all : List (List ℕ)) → (length rest == 0) ≡ false
    → so_far ++ notes_until_event rate (line_texts rest) ≡ all
    → begins_event (line_text (before_first is_line_end rest)) ≡ true
    → so_far ≡ all
notes_end rate rest so_far all some h e =
    let lines = line_texts-step rest (above_zero rest some) in
    sym (append-nil so_far)
    ∙ ap (λ (more : List (List ℕ)). so_far ++ more)
    (sym (ap (notes_until_event rate) lines ∙ notes-event rate _ _ e)) ∙ h

-- another line may be one more note
pub notes_more : (rate : Rate) (rest : List ℕ) (so_far all : List (List ℕ)) (note : Option (List ℕ))
    → (length rest == 0) ≡ false
    → so_far ++ notes_until_event rate (line_texts rest) ≡ all
    → begins_event (line_text (before_first is_line_end rest)) ≡ false
    → note ≡ note_in (meaning_of rate (line_text (before_first is_line_end rest)))
    → (so_far ++ option_to_list note) ++ notes_until_event rate (line_texts (after_first is_line_end rest)) ≡ all
notes_more rate rest so_far all note some h e n =
    let lines = line_texts-step rest (above_zero rest some) in
    let step = ap (notes_until_event rate) lines ∙ notes-other rate _ _ e in
    append_assoc so_far (option_to_list note) _
    ∙ ap (λ (more : List (List ℕ)). so_far ++ more)
    (joined note (notes_until_event rate (line_texts (after_first is_line_end rest))) ∙ rw n (sym step)) ∙ h
  where
    joined : (o : Option (List ℕ)) (more : List (List ℕ)) → option_to_list o ++ more ≡ cons_option o more
    joined None more = refl
    joined (Some x) more = refl

-- no line is left
pub notes_last : (rate : Rate) (rest : List ℕ) (so_far all : List (List ℕ)) → (length rest == 0) ≡ true
    → so_far ++ notes_until_event rate (line_texts rest) ≡ all → so_far ≡ all
notes_last rate [] so_far all none h =
    sym (append-nil so_far)
    ∙ ap (λ (more : List (List ℕ)). so_far ++ more)
    (sym (ap (notes_until_event rate) line_texts-nil ∙ notes-nil rate)) ∙ h
notes_last rate (b ∷ bs) so_far all none h = absurd (omega (arith, eqb-true (length (b ∷ bs)) 0 none))
