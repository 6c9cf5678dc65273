-- The frame of a label is printed.
use Rattle.std.specs.Prelude.{◌≡◌, ℕ, Result, Err}
use Rattle.timecode.specs.declared.faults.TcFault.{TcFault}
use Rattle.playout_lists.specs.declared.fault.Fault.{Fault}
use Rattle.playout_lists.specs.declared.fault.Fault.TheVariants.{Label, List as OfList, Refused, NoChannel, Open}
use Rattle.playout_lists.specs.declared.fault.Fault.TheVariants.{Listen, Stream}
use Rattle.playout_lists.specs.declared.streams.StreamFault.{StreamFault}
use Rattle.playout_lists.specs.declared.streams.StreamFault.TheVariants.{Input, Write}

abbrev pub IsOutputFault : StreamFault → Type 0
IsOutputFault (Input fault) = ⊥
IsOutputFault Write = Unit {0}

-- why a label's frame isn't printed: the label's own fault, which is what its reading gives, or one of the output
abbrev pub PrintHas : Result ℕ TcFault → Fault → Type 0
PrintHas reading (Label fault) = reading ≡ Err fault
PrintHas reading (Stream fault) = IsOutputFault fault
PrintHas reading (OfList fault) = ⊥
PrintHas reading (Refused refusal) = ⊥
PrintHas reading Open = ⊥
PrintHas reading Listen = ⊥
PrintHas reading NoChannel = ⊥
