-- The faults that end the program, as the line that it prints.
use Rattle.std.specs.Prelude.{List, ℕ, [], ◌∷◌, ◌++◌, codes}
use Rattle.timecode.specs.Fault.{fault_text}
use Rattle.channel_plan.specs.Fault.{list_fault_text}
use Rattle.channel_plan.specs.Refusal.{refusal_text}
use Rattle.playout_lists.specs.declared.fault.Fault.{Fault}
use Rattle.playout_lists.specs.declared.fault.Fault.TheVariants.{Label, List as OfList, Refused, NoChannel, Open}
use Rattle.playout_lists.specs.declared.fault.Fault.TheVariants.{Listen, Stream}
use Rattle.playout_lists.specs.declared.streams.InputFault.{InputFault}
use Rattle.playout_lists.specs.declared.streams.InputFault.TheVariants as input
use Rattle.playout_lists.specs.declared.streams.StreamFault.{StreamFault}
use Rattle.playout_lists.specs.declared.streams.StreamFault.TheVariants.{Input, Write}

abbrev pub input_fault_text : InputFault → List ℕ
input_fault_text input.Read = codes "read fault"
input_fault_text input.TooLarge = codes "413 TooLarge"
input_fault_text input.Unavailable = codes "100 Unavailable"

abbrev pub stream_fault_text : StreamFault → List ℕ
stream_fault_text (Input fault) = input_fault_text fault
stream_fault_text Write = codes "write fault"

abbrev pub text_of : Fault → List ℕ
text_of (Label fault) = fault_text fault
text_of (OfList fault) = list_fault_text fault
text_of (Refused refusal) = refusal_text refusal
text_of NoChannel = codes "404 NotFound"
text_of Open = codes "open fault"
text_of Listen = codes "listen fault"
text_of (Stream fault) = stream_fault_text fault

-- and its end
abbrev pub line_of : Fault → List ℕ
line_of fault = text_of fault ++ 10 ∷ []
