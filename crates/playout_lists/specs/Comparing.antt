-- The lists in two files, compared frame by frame.
use Rattle.std.specs.Prelude.{◌≡◌, ◌⊎◌, ℕ, false, List, Option, Some}
use Rattle.std.specs.Io.KnownBytes.{Appends, Keeps}
use Rattle.report_texts.specs.Output.{AppendsPart}
use Rattle.timecode.specs.declared.rates.Rate.{Rate}
use Rattle.edl.specs.Entry.{EventEntry}
use Rattle.channel_plan.specs.declared.fault.ListFault.{ListFault}
use Rattle.channel_plan.specs.declared.fault.ListFault.TheVariants.{Unavailable}
use Rattle.edl.specs.Faults.{first_fault}
use Rattle.edl.specs.ListOf.{IsListOf}
use Rattle.edl_diff.specs.Lines.{IsComparison}
use Rattle.playout_lists.specs.declared.comparing.CompareFault.{CompareFault}
use Rattle.playout_lists.specs.declared.comparing.CompareFault.TheVariants.{First, Second, Memory, Output}
use Rattle.playout_lists.specs.declared.fault.Fault.{Fault}
use Rattle.playout_lists.specs.declared.fault.Fault.TheVariants.{List as OfList, Stream}
use Rattle.playout_lists.specs.declared.streams.InputFault.TheVariants as input
use Rattle.playout_lists.specs.declared.streams.StreamFault.TheVariants.{Input as StreamInput, Write}
use Rattle.playout_lists.specs.Fault.{line_of}
use Rattle.playout_lists.specs.Named.{FileHas, FileHolds, Holds, TellsFile}
use Rattle.playout_lists.specs.Telling.{Told, Tells}

-- a text is a list of these events
abbrev pub IsListText : Rate → List ℕ → List EventEntry → Type 0
IsListText rate text events =
    (title : Option (List ℕ)) × (head : List (List ℕ)) × IsListOf rate false text title head events

-- it is none, and this is its first fault; or memory ended
abbrev pub IsFaultOf : Rate → List ℕ → Fault → Type 0
IsFaultOf rate text fault =
    (f : ListFault) × (fault ≡ OfList f) × ((f ≡ Unavailable) ⊎ (first_fault rate false text ≡ Some f))

-- a file holds such a list
abbrev pub FileLists : Holds → Rate → List ℕ → List EventEntry → Type 0
FileLists holds rate name events = (text : List ℕ) × FileHolds holds name text × IsListText rate text events

-- this text compares the lists in two files
abbrev pub ComparesFiles : Holds → Rate → List ℕ → List ℕ → List ℕ → Type 0
ComparesFiles holds rate one other text =
    (events : List EventEntry) × (others : List EventEntry) × FileLists holds rate one events
    × FileLists holds rate other others × IsComparison rate events others text

-- why there is no such text: the fault of one of the files, or memory ended
abbrev pub CompareHas : Holds → Rate → List ℕ → List ℕ → CompareFault → Type 0
CompareHas holds rate one other (First fault) = FileHas holds rate one fault
CompareHas holds rate one other (Second fault) = FileHas holds rate other fault
CompareHas holds rate one other Memory = Unit {0}
CompareHas holds rate one other Output = ⊥

-- and why it isn't written: nothing of it was, or the output failed, and has a beginning of it
abbrev pub WriteHas : Holds → Rate → List ℕ → List ℕ → Option (List ℕ) → Option (List ℕ) → CompareFault → Type 0
WriteHas holds rate one other written_old written_new (First fault) =
    CompareHas holds rate one other (First fault) × Keeps written_old written_new
WriteHas holds rate one other written_old written_new (Second fault) =
    CompareHas holds rate one other (Second fault) × Keeps written_old written_new
WriteHas holds rate one other written_old written_new Memory = Keeps written_old written_new
WriteHas holds rate one other written_old written_new Output =
    (text : List ℕ) × ComparesFiles holds rate one other text × AppendsPart written_old written_new text

-- what two texts say, if both are lists: a comparison of them
abbrev pub ComparesTexts : Rate → List ℕ → List ℕ → List ℕ → Type 0
ComparesTexts rate one other text =
    (events : List EventEntry) × (others : List EventEntry) × IsListText rate one events × IsListText rate other others
    × IsComparison rate events others text

-- the first fault of one of them
abbrev pub TextsHave : Rate → List ℕ → List ℕ → CompareFault → Type 0
TextsHave rate one other (First fault) = IsFaultOf rate one fault
TextsHave rate one other (Second fault) = IsFaultOf rate other fault
TextsHave rate one other Memory = Unit {0}
TextsHave rate one other Output = ⊥

-- how it is told: a fault of a file behind its name
abbrev pub TellsComparing : Told → Told → List ℕ → List ℕ → CompareFault → Type 0
TellsComparing told_old told_new one other (First fault) = TellsFile told_old told_new one fault
TellsComparing told_old told_new one other (Second fault) = TellsFile told_old told_new other fault
TellsComparing told_old told_new one other Memory =
    Tells told_old told_new (line_of (Stream (StreamInput input.Unavailable)))
TellsComparing told_old told_new one other Output = Tells told_old told_new (line_of (Stream Write))
