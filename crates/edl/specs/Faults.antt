-- The first fault of a list.
use Rattle.std.specs.Prelude.{ℕ, ◌+◌, Bool, not, false, ◌&&◌, nat_le, if◌then◌else◌, List, [], ◌∷◌, ◌++◌, length}
use Rattle.std.specs.Prelude.{count_by, Option, Some, None, option_map, Result, Ok, Err}
use Rattle.std.specs.Option.{option_or}
use Rattle.timecode.specs.declared.rates.Rate.{Rate}
use Rattle.channel_plan.specs.declared.fault.LineFault.{LineFault}
use Rattle.channel_plan.specs.declared.fault.LineFault.TheVariants.{DurationMismatch, TooManyEvents}
use Rattle.channel_plan.specs.declared.fault.ListFault.{ListFault}
use Rattle.channel_plan.specs.declared.fault.ListFault.TheVariants.{InLine}
use Rattle.edl.specs.Limits.{most_events}
use Rattle.edl.specs.Text.{lines_of}
use Rattle.edl.specs.Line.{EventLine}
use Rattle.edl.specs.Meaning.{LineMeaning, Edited, meaning_of}
use Rattle.edl.specs.Notes.{notes_until_event, has_speed_note, is_mismatched, is_zero}

-- the fault of line n
abbrev pub fault_at : ℕ → LineFault → ListFault
fault_at n fault = InLine n fault

-- an event counts unless both its durations, as its own labels give them, are zero
abbrev pub counts : Result LineMeaning LineFault → Bool
counts (Ok (Edited event)) = not (is_zero event)
counts _ = false

abbrev pub counted_in : Rate → List (List ℕ) → ℕ
counted_in rate lines = count_by (λ line. counts (meaning_of rate line)) lines

-- A mismatch has to be meant or ignored, and a list has at most most_events events that count.
abbrev pub event_fault : Bool → ℕ → EventLine → List (List ℕ) → Option LineFault
event_fault ignore counted event notes =
    if is_mismatched event && not (has_speed_note notes) && not ignore then Some DurationMismatch
    else if not (is_zero event) && nat_le most_events counted then Some TooManyEvents
    else None

-- the fault of a line, behind so many events that count and before these notes
abbrev pub fault_in : Bool → ℕ → Result LineMeaning LineFault → List (List ℕ) → Option LineFault
fault_in ignore counted (Err fault) notes = Some fault
fault_in ignore counted (Ok (Edited event)) notes = event_fault ignore counted event notes
fault_in ignore counted _ notes = None

-- the first fault on these lines, behind the lines before
unfoldable pub first_fault_from : Rate → Bool → List (List ℕ) → List (List ℕ) → Option ListFault
first_fault_from rate ignore before [] = None
first_fault_from rate ignore before (line ∷ lines) =
    option_or
    (option_map (fault_at (length before + 1))
    (fault_in ignore (counted_in rate before) (meaning_of rate line) (notes_until_event rate lines)))
    (first_fault_from rate ignore (before ++ line ∷ []) lines)

-- the first fault of a text
abbrev pub first_fault : Rate → Bool → List ℕ → Option ListFault
first_fault rate ignore text = first_fault_from rate ignore [] (lines_of text)
