-- Lines of labels and of frame numbers, and what is answered to them.
use Rattle.std.specs.Prelude.{ℕ, ◌+◌, List, [], ◌∷◌, ◌++◌, decimal, Option, Some, None, Result, Ok, Err}
use Rattle.std.specs.List.{flat_map}
use Rattle.std.specs.Option.{option_or}
use Rattle.timecode.specs.declared.rates.Rate.{Rate}
use Rattle.timecode.specs.declared.labels.Label.{Label}
use Rattle.timecode.specs.declared.faults.TcFault.{TcFault}
use Rattle.timecode.specs.Decimal.{decimal_number}
use Rattle.timecode.specs.Fault.{fault_text}
use Rattle.timecode.specs.Label.{label_of_frame, label_text}
use Rattle.timecode.specs.LabelReading.{reading_of_text}
use Rattle.channel_plan.specs.declared.fault.ListFault.{ListFault}
use Rattle.channel_plan.specs.declared.fault.ListFault.TheVariants.{InLine}
use Rattle.channel_plan.specs.declared.fault.LineFault.TheVariants.{BadLabel}
use Rattle.edl.specs.Text.{raw_lines, without_cr}

-- the text of a frame's label, and of a label's frame
abbrev pub label_said : Result Label TcFault → Result (List ℕ) TcFault
label_said (Ok label) = Ok (label_text label)
label_said (Err fault) = Err fault

abbrev pub frame_said : Result ℕ TcFault → Result (List ℕ) TcFault
frame_said (Ok frame) = Ok (decimal frame)
frame_said (Err fault) = Err fault

-- what is said to a line: to the number of a frame, of one to ten digits, its label; to a label its frame
abbrev pub said_to : Rate → Option ℕ → List ℕ → Result (List ℕ) TcFault
said_to rate (Some frame) line = label_said (label_of_frame rate frame)
said_to rate None line = frame_said (reading_of_text rate line)

unfoldable pub answer : Rate → List ℕ → Result (List ℕ) TcFault
answer rate line = said_to rate (decimal_number 10 line) line

-- the line that is written for it: the text, or the fault's number and name
abbrev pub line_written : Result (List ℕ) TcFault → List ℕ
line_written (Ok text) = text ++ (10 ∷ [])
line_written (Err fault) = fault_text fault ++ (10 ∷ [])

-- to the lines of a text, each without a CR at its end
unfoldable pub lines_written : Rate → List (List ℕ) → List ℕ
lines_written rate lines = flat_map (λ line. line_written (answer rate (without_cr line))) lines

abbrev pub fault_of : Result (List ℕ) TcFault → Option TcFault
fault_of (Ok text) = None
fault_of (Err fault) = Some fault

abbrev pub fault_at : ℕ → Option TcFault → Option ListFault
fault_at n (Some fault) = Some (InLine n (BadLabel fault))
fault_at n None = None

-- the first fault of these lines, of which the first is line n

unfoldable pub fault_from : Rate → ℕ → List (List ℕ) → Option ListFault
fault_from rate n [] = None
fault_from rate n (line ∷ lines) =
    option_or (fault_at n (fault_of (answer rate (without_cr line)))) (fault_from rate (n + 1) lines)

-- what is answered to a text, and its first fault
abbrev pub answered : Rate → List ℕ → List ℕ
answered rate text = lines_written rate (raw_lines text)

abbrev pub first_fault : Rate → List ℕ → Option ListFault
first_fault rate text = fault_from rate 1 (raw_lines text)
