-- What is refused: the number and the name of each fault, and its text.
use Rattle.std.specs.Prelude.{ℕ, List, ◌++◌, codes, decimal, Option, Some, None}
use Rattle.timecode.specs.declared.faults.TcFault.{TcFault}
use Rattle.timecode.specs.Fault.{fault_text as label_fault_text}
use Rattle.channel_plan.specs.declared.fault.LineFault.{LineFault}
use Rattle.channel_plan.specs.declared.fault.LineFault.TheVariants.{NotText, FieldCount, EventNumber, EditKind}
use Rattle.channel_plan.specs.declared.fault.LineFault.TheVariants.{BadLabel}
use Rattle.channel_plan.specs.declared.fault.LineFault.TheVariants.{FrameMode, SourceBackwards, DurationMismatch}
use Rattle.channel_plan.specs.declared.fault.LineFault.TheVariants.{TooManyEvents}
use Rattle.channel_plan.specs.declared.fault.ListFault.{ListFault}
use Rattle.channel_plan.specs.declared.fault.ListFault.TheVariants.{InLine, Unavailable}

abbrev pub fault_number : LineFault → ℕ
fault_number NotText = 21
fault_number FieldCount = 22
fault_number EventNumber = 23
fault_number EditKind = 24
fault_number (BadLabel fault) = 25
fault_number FrameMode = 26
fault_number SourceBackwards = 27
fault_number DurationMismatch = 28
fault_number TooManyEvents = 30

abbrev pub fault_name : LineFault → List ℕ
fault_name NotText = codes "NotText"
fault_name FieldCount = codes "FieldCount"
fault_name EventNumber = codes "EventNumber"
fault_name EditKind = codes "EditKind"
fault_name (BadLabel fault) = codes "BadLabel"
fault_name FrameMode = codes "FrameMode"
fault_name SourceBackwards = codes "SourceBackwards"
fault_name DurationMismatch = codes "DurationMismatch"
fault_name TooManyEvents = codes "TooManyEvents"

abbrev pub numbered_name : LineFault → List ℕ
numbered_name fault = decimal (fault_number fault) ++ codes " " ++ fault_name fault

-- as `22 FieldCount`, or with the label's own fault as `25 BadLabel 2 LabelRange`
abbrev pub fault_text : LineFault → List ℕ
fault_text (BadLabel fault) = numbered_name (BadLabel fault) ++ codes " " ++ label_fault_text fault
fault_text fault = numbered_name fault

-- as `line 7: 22 FieldCount`
abbrev pub list_fault_text : ListFault → List ℕ
list_fault_text (InLine line fault) = codes "line " ++ decimal line ++ codes ": " ++ fault_text fault
list_fault_text Unavailable = codes "100 Unavailable"

-- the line, the number, and the fault of a label: want of memory has line 0 and number 100
abbrev pub line_of : ListFault → ℕ
line_of (InLine line fault) = line
line_of Unavailable = 0

abbrev pub code_of : ListFault → ℕ
code_of (InLine line fault) = fault_number fault
code_of Unavailable = 100

abbrev pub label_of : ListFault → Option TcFault
label_of (InLine line (BadLabel fault)) = Some fault
label_of fault = None
