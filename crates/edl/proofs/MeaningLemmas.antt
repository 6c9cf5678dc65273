-- What the meaning of a line says of the line.
use Rattle.std.proofs.Common.{◌≡◌, ℕ, Bool, true, false, cond, List, length, drop, Option, Some, None, Result, Ok, Err}
use Rattle.std.proofs.Common.{refl, sym, ◌∙◌}
use Rattle.std.specs.Prelude.{◌==◌, codes, nat_eq}
use Rattle.std.specs.List.{starts_with}
use Rattle.timecode.specs.declared.rates.Rate.{Rate}
use Rattle.channel_plan.specs.declared.fault.LineFault.{LineFault}
use Rattle.channel_plan.specs.declared.fault.LineFault.TheVariants.{NotText, FrameMode}
use Rattle.edl.specs.declared.meaning.FrameCodeMode.{FrameCodeMode}
use Rattle.std.specs.Str.{is_utf8}
use Rattle.edl.specs.Text.{after_blanks, begins_event}
use Rattle.edl.specs.Line.{EventLine, and_then, event_of}
use Rattle.edl.specs.Meaning.{LineMeaning, Nothing, Titled, Moded, Edited, Noted, fits_rate, meaning_of, mode_of}
use Rattle.edl.specs.Meaning.{mode_or_note, rest_after, text_meaning, titled_or}

-- a line's meaning from the answers to the questions about it
abbrev pub meaning_from : Bool → Bool → Option (List ℕ) → Bool → Result EventLine LineFault
    → Result LineMeaning LineFault → Result LineMeaning LineFault
meaning_from utf8 empty title begins event other =
    cond utf8 (cond empty (Ok Nothing) (titled_or title (cond begins (and_then event (λ e. Ok (Edited e))) other)))
    (Err NotText)

pub meaning_of-is : (rate : Rate) (line : List ℕ)
    → meaning_of rate line
    ≡ meaning_from (is_utf8 line) (length line == 0) (rest_after (codes "TITLE:") line) (begins_event line)
    (event_of rate line) (mode_or_note rate line (mode_of line))
unfolding meaning_of text_meaning
meaning_of-is rate line = refl

other-not_edited : (rate : Rate) (line : List ℕ) (mode : Option FrameCodeMode) (e : EventLine)
    → mode_or_note rate line mode ≡ Ok (Edited e) → ⊥
other-not_edited rate line None e h = cc h
other-not_edited rate line (Some mode) e h = at (fits_rate rate mode) h
  where
    at : (v : Bool) → cond v (Ok Moded) (Err FrameMode) ≡ Ok (Edited e) → ⊥
    at true h = cc h
    at false h = cc h

edited : (utf8 empty : Bool) (title : Option (List ℕ)) (begins : Bool) (event : Result EventLine LineFault)
    (other : Result LineMeaning LineFault) (e : EventLine)
    → (other ≡ Ok (Edited e) → ⊥) → meaning_from utf8 empty title begins event other ≡ Ok (Edited e)
    → (begins ≡ true) × (event ≡ Ok e)
edited false empty title begins event other e none h = cc h
edited true true title begins event other e none h = cc h
edited true false (Some title) begins event other e none h = cc h
edited true false None true (Ok event) other e none h = (refl, cc h)
edited true false None true (Err fault) other e none h = cc h
edited true false None false event other e none h = absurd (none h)

-- a line that means an event begins with a digit, and its fields say the event
pub meaning-edited : (rate : Rate) (line : List ℕ) (e : EventLine) → meaning_of rate line ≡ Ok (Edited e)
    → (begins_event line ≡ true) × (event_of rate line ≡ Ok e)
meaning-edited rate line e h =
    edited (is_utf8 line) (length line == 0) (rest_after (codes "TITLE:") line) (begins_event line) (event_of rate line)
    (mode_or_note rate line (mode_of line)) e
    (other-not_edited rate line (mode_of line) e) (sym (meaning_of-is rate line) ∙ h)

other-noted : (rate : Rate) (line : List ℕ) (mode : Option FrameCodeMode) (text : List ℕ)
    → mode_or_note rate line mode ≡ Ok (Noted text) → line ≡ text
other-noted rate line None text h = cc h
other-noted rate line (Some mode) text h = at (fits_rate rate mode) h
  where
    at : (v : Bool) → cond v (Ok Moded) (Err FrameMode) ≡ Ok (Noted text) → line ≡ text
    at true h = cc h
    at false h = cc h

noted : (utf8 empty : Bool) (title : Option (List ℕ)) (begins : Bool) (event : Result EventLine LineFault)
    (other : Result LineMeaning LineFault) (line text : List ℕ)
    → (other ≡ Ok (Noted text) → line ≡ text) → meaning_from utf8 empty title begins event other ≡ Ok (Noted text)
    → line ≡ text
noted false empty title begins event other line text is h = cc h
noted true true title begins event other line text is h = cc h
noted true false (Some title) begins event other line text is h = cc h
noted true false None true (Ok event) other line text is h = cc h
noted true false None true (Err fault) other line text is h = cc h
noted true false None false event other line text is h = is h

-- a note is the whole line
pub meaning-noted : (rate : Rate) (line text : List ℕ) → meaning_of rate line ≡ Ok (Noted text) → line ≡ text
meaning-noted rate line text h =
    noted (is_utf8 line) (length line == 0) (rest_after (codes "TITLE:") line) (begins_event line) (event_of rate line)
    (mode_or_note rate line (mode_of line)) line text
    (other-noted rate line (mode_of line) text) (sym (meaning_of-is rate line) ∙ h)

other-not_titled : (rate : Rate) (line : List ℕ) (mode : Option FrameCodeMode) (text : List ℕ)
    → mode_or_note rate line mode ≡ Ok (Titled text) → ⊥
other-not_titled rate line None text h = cc h
other-not_titled rate line (Some mode) text h = at (fits_rate rate mode) h
  where
    at : (v : Bool) → cond v (Ok Moded) (Err FrameMode) ≡ Ok (Titled text) → ⊥
    at true h = cc h
    at false h = cc h

titled : (utf8 empty : Bool) (title : Option (List ℕ)) (begins : Bool) (event : Result EventLine LineFault)
    (other : Result LineMeaning LineFault) (text : List ℕ)
    → (other ≡ Ok (Titled text) → ⊥) → meaning_from utf8 empty title begins event other ≡ Ok (Titled text)
    → title ≡ Some text
titled false empty title begins event other text none h = cc h
titled true true title begins event other text none h = cc h
titled true false (Some title) begins event other text none h = cc h
titled true false None true (Ok event) other text none h = cc h
titled true false None true (Err fault) other text none h = cc h
titled true false None false event other text none h = absurd (none h)

-- a title is what stands behind its word
pub meaning-titled : (rate : Rate) (line text : List ℕ) → meaning_of rate line ≡ Ok (Titled text)
    → after_blanks (drop 6 line) ≡ text
meaning-titled rate line text h =
    named (starts_with nat_eq line (codes "TITLE:"))
    (titled (is_utf8 line) (length line == 0) (rest_after (codes "TITLE:") line) (begins_event line)
    (event_of rate line) (mode_or_note rate line (mode_of line)) text
    (other-not_titled rate line (mode_of line) text) (sym (meaning_of-is rate line) ∙ h))
  where
    named : (v : Bool) → cond v (Some (after_blanks (drop 6 line))) None ≡ Some text → after_blanks (drop 6 line) ≡ text
    named true h = cc h
    named false h = cc h
