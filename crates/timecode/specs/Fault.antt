-- What is refused: the number and the name of each fault.
use Rattle.std.specs.Prelude.{ℕ, List, ◌∷◌, ◌++◌, codes, decimal}
use Rattle.timecode.specs.declared.faults.TcFault.{TcFault}
use Rattle.timecode.specs.declared.faults.TcFault.TheVariants.{LabelForm, LabelRange, DropMark, DroppedLabel}
use Rattle.timecode.specs.declared.faults.TcFault.TheVariants.{FrameRange}
use Rattle.timecode.specs.declared.faults.Unavailable.{Unavailable}

abbrev pub fault_number : TcFault → ℕ
fault_number LabelForm = 1
fault_number LabelRange = 2
fault_number DropMark = 3
fault_number DroppedLabel = 4
fault_number FrameRange = 5

abbrev pub fault_name : TcFault → List ℕ
fault_name LabelForm = codes "LabelForm"
fault_name LabelRange = codes "LabelRange"
fault_name DropMark = codes "DropMark"
fault_name DroppedLabel = codes "DroppedLabel"
fault_name FrameRange = codes "FrameRange"

-- as `4 DroppedLabel`
abbrev pub fault_text : TcFault → List ℕ
fault_text fault = decimal (fault_number fault) ++ 32 ∷ fault_name fault

-- the one value of `Unavailable`
abbrev pub unavailable : Unavailable
unavailable = record {}
