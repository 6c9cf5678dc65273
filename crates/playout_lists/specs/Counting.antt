-- Lines of labels and frame numbers are answered.
use Rattle.std.specs.Prelude.{◌≡◌, ℕ, List, Option, Some}
use Rattle.std.specs.Io.KnownBytes.{Appends, Keeps}
use Rattle.report_texts.specs.Output.{AppendsPart}
use Rattle.timecode.specs.declared.rates.Rate.{Rate}
use Rattle.channel_plan.specs.declared.fault.ListFault.{ListFault}
use Rattle.timecode_lines.specs.Lines.{answered, first_fault}
use Rattle.playout_lists.specs.Streams.{ReadsAll, InputHas}
use Rattle.playout_lists.specs.declared.fault.Fault.{Fault}
use Rattle.playout_lists.specs.declared.fault.Fault.TheVariants.{Label, List as OfList, Refused, NoChannel, Open}
use Rattle.playout_lists.specs.declared.fault.Fault.TheVariants.{Listen, Stream}
use Rattle.playout_lists.specs.declared.streams.StreamFault.TheVariants.{Input, Write}

-- the most bytes of lines
abbrev pub lines_limit : ℕ
lines_limit = 1_000_000_000

-- all of the input was read, this is what is answered to its lines, and this is their first fault
abbrev pub CountsInput : Rate → List ℕ → Option ListFault → Option (List ℕ) → Option (List ℕ) → Type 0
CountsInput rate text fault readable_old readable_new =
    (lines : List ℕ) × ReadsAll lines_limit readable_old readable_new lines
    × (text ≡ answered rate lines) × (fault ≡ first_fault rate lines)

-- Why lines aren't answered, or not without a fault: a line has one, and all were answered; the output failed, and has
-- a beginning of the answers; or the input did, and nothing was written.
abbrev pub CountHas : Rate → Option (List ℕ) → Option (List ℕ) → Option (List ℕ) → Option (List ℕ) → Fault → Type 0
CountHas rate readable_old readable_new written_old written_new (OfList fault) =
    (text : List ℕ) × CountsInput rate text (Some fault) readable_old readable_new
    × Appends written_old written_new text
CountHas rate readable_old readable_new written_old written_new (Stream Write) =
    (text : List ℕ) × (fault : Option ListFault) × CountsInput rate text fault readable_old readable_new
    × AppendsPart written_old written_new text
CountHas rate readable_old readable_new written_old written_new (Stream (Input fault)) =
    InputHas lines_limit readable_old readable_new fault × Keeps written_old written_new
CountHas rate readable_old readable_new written_old written_new (Label fault) = ⊥
CountHas rate readable_old readable_new written_old written_new (Refused refusal) = ⊥
CountHas rate readable_old readable_new written_old written_new Open = ⊥
CountHas rate readable_old readable_new written_old written_new Listen = ⊥
CountHas rate readable_old readable_new written_old written_new NoChannel = ⊥
