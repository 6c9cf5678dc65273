-- What one line of a list means.
use Rattle.std.specs.Prelude.{ℕ, Bool, not, ◌||◌, ◌==◌, nat_eq, if◌then◌else◌, List, length, drop, Option, Some, None}
use Rattle.std.specs.Prelude.{Result, Ok, Err, codes, option_and_then}
use Rattle.std.specs.List.{starts_with}
use Rattle.std.specs.Str.{bytes_eq, is_utf8}
use Rattle.timecode.specs.declared.rates.Rate.{Rate}
use Rattle.timecode.specs.Rate.{is_drop_frame}
use Rattle.channel_plan.specs.declared.fault.LineFault.{LineFault}
use Rattle.channel_plan.specs.declared.fault.LineFault.TheVariants.{NotText, FrameMode}
use Rattle.edl.specs.declared.meaning.FrameCodeMode.{FrameCodeMode}
use Rattle.edl.specs.declared.meaning.FrameCodeMode.TheVariants.{DropFrame, NonDropFrame}
use Rattle.edl.specs.Text.{after_blanks, begins_event}
use Rattle.edl.specs.Line.{EventLine, and_then, event_of}

-- what a line means: nothing, a title, a frame mode that fits the rate, an event, or a note
pub data LineMeaning : Type 0 where
  Nothing : LineMeaning
  Titled : List ℕ → LineMeaning
  Moded : LineMeaning
  Edited : EventLine → LineMeaning
  Noted : List ℕ → LineMeaning

-- the frame mode that a line sets; behind `FCM:` any other text is no frame mode
abbrev pub mode_named : List ℕ → Option FrameCodeMode
mode_named text =
    if bytes_eq text (codes "DROP FRAME") then Some DropFrame
    else if bytes_eq text (codes "NON-DROP FRAME") || bytes_eq text (codes "NON DROP FRAME") then Some NonDropFrame
    else None

-- what stands behind the word that a line begins with
abbrev pub rest_after : List ℕ → List ℕ → Option (List ℕ)
rest_after word line = if starts_with nat_eq line word then Some (after_blanks (drop (length word) line)) else None

abbrev pub mode_of : List ℕ → Option FrameCodeMode
mode_of line = option_and_then mode_named (rest_after (codes "FCM:") line)

-- drop-frame fits the rate that drops labels, and no other
abbrev pub fits_rate : Rate → FrameCodeMode → Bool
fits_rate rate DropFrame = is_drop_frame rate
fits_rate rate NonDropFrame = not (is_drop_frame rate)

abbrev pub mode_or_note : Rate → List ℕ → Option FrameCodeMode → Result LineMeaning LineFault
mode_or_note rate line None = Ok (Noted line)
mode_or_note rate line (Some mode) = if fits_rate rate mode then Ok Moded else Err FrameMode

abbrev pub titled_or : Option (List ℕ) → Result LineMeaning LineFault → Result LineMeaning LineFault
titled_or (Some title) other = Ok (Titled title)
titled_or None other = other

-- The meaning of a line of text without blanks at its ends, or its first fault.
unfoldable pub text_meaning : Rate → List ℕ → Result LineMeaning LineFault
text_meaning rate line =
    if length line == 0 then Ok Nothing
    else titled_or (rest_after (codes "TITLE:") line) (
    if begins_event line then and_then (event_of rate line) (λ event. Ok (Edited event))
    else mode_or_note rate line (mode_of line))

-- a line that is no UTF-8 has no other meaning
unfoldable pub meaning_of : Rate → List ℕ → Result LineMeaning LineFault
meaning_of rate line = if is_utf8 line then text_meaning rate line else Err NotText
