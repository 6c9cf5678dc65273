-- The lists in files that words name, each checked.
use Rattle.std.specs.Prelude.{◌≡◌, ◌⊎◌, ℕ, Bool, true, false, ◌&&◌, if◌then◌else◌, List, [], ◌∷◌, ◌++◌, take, drop}
use Rattle.std.specs.Prelude.{codes}
use Rattle.std.specs.Prelude.{Option, Some, Result, Ok, Err}
use Rattle.std.specs.Io.KnownBytes.{Appends}
use Rattle.report_texts.specs.Output.{AppendsPart}
use Rattle.timecode.specs.declared.rates.Rate.{Rate}
use Rattle.channel_plan.specs.declared.fault.ListFault.TheVariants as of_list
use Rattle.edl.specs.Entry.{EventEntry}
use Rattle.edl.specs.Faults.{first_fault}
use Rattle.edl.specs.ListOf.{IsListOf}
use Rattle.playout_lists.specs.declared.fault.Fault.{Fault}
use Rattle.playout_lists.specs.declared.fault.Fault.TheVariants.{Label, List as OfList, Refused, NoChannel, Open}
use Rattle.playout_lists.specs.declared.fault.Fault.TheVariants.{Listen, Stream}
use Rattle.playout_lists.specs.declared.streams.InputFault.TheVariants as input
use Rattle.playout_lists.specs.declared.streams.StreamFault.TheVariants.{Input, Write}
use Rattle.playout_lists.specs.declared.checking.Counts.{Counts}
use Rattle.playout_lists.specs.Checking.{ListTells, list_limit}
use Rattle.playout_lists.specs.Counts.{text_of_counts}
use Rattle.playout_lists.specs.Fault.{line_of}
use Rattle.playout_lists.specs.Streams.{InputHas, ReadsAll}
use Rattle.playout_lists.specs.Telling.{Told, Tells, TellsAll}

-- As the file of a name was opened, its reader had these bytes to give, as far as it tells.
abbrev pub Holds : Type 1
Holds = List ℕ → Option (List ℕ) → Type 0

-- the text of a file, all of it
abbrev pub FileHolds : Holds → List ℕ → List ℕ → Type 0
FileHolds holds name text =
    (old : Option (List ℕ)) × (new : Option (List ℕ)) × holds name old × ReadsAll list_limit old new text

-- the faults of a file: it can't be opened or read to its end, it is too large, or it is no list, as its first fault
-- says
abbrev pub FileHas : Holds → Rate → List ℕ → Fault → Type 0
FileHas holds rate name Open = Unit {0}
FileHas holds rate name (Stream (Input fault)) =
    (old : Option (List ℕ)) × (new : Option (List ℕ)) × holds name old × InputHas list_limit old new fault
FileHas holds rate name (OfList of_list.Unavailable) = Unit {0}
FileHas holds rate name (OfList (of_list.InLine line fault)) =
    (text : List ℕ) × FileHolds holds name text × (first_fault rate false text ≡ Some (of_list.InLine line fault))
FileHas holds rate name (Stream Write) = ⊥
FileHas holds rate name (Label fault) = ⊥
FileHas holds rate name (Refused refusal) = ⊥
FileHas holds rate name Listen = ⊥
FileHas holds rate name NoChannel = ⊥

-- what is said of a file: what its list holds, as a line without its end, or its fault
abbrev pub FileIs : Holds → Rate → List ℕ → Result (List ℕ) Fault → Type 0
FileIs holds rate name (Ok line) =
    (text : List ℕ) × FileHolds holds name text × ListTells rate text (line ++ 10 ∷ [])
FileIs holds rate name (Err fault) = FileHas holds rate name fault

-- and of each of these
abbrev pub FilesAre : Holds → Rate → List (List ℕ) → List (Result (List ℕ) Fault) → Type 0
FilesAre holds rate [] [] = Unit {0}
FilesAre holds rate [] (said ∷ more) = ⊥
FilesAre holds rate (name ∷ names) [] = ⊥
FilesAre holds rate (name ∷ names) (said ∷ more) = FileIs holds rate name said × FilesAre holds rate names more

-- a text behind the name of its file
unfoldable pub named_line : List ℕ → List ℕ → List ℕ
named_line name line = name ++ (codes ": " ++ line)

-- what is written of a file, and what goes to standard error
abbrev pub file_written : List ℕ → Result (List ℕ) Fault → List ℕ
file_written name (Ok line) = named_line name line ++ 10 ∷ []
file_written name (Err fault) = []

abbrev pub file_told : List ℕ → Result (List ℕ) Fault → List ℕ
file_told name (Ok line) = []
file_told name (Err fault) = named_line name (line_of fault)

-- and of each, in their order
abbrev pub of_files : (List ℕ → Result (List ℕ) Fault → List ℕ) → List (List ℕ) → List (Result (List ℕ) Fault) → List ℕ
of_files text [] said = []
of_files text (name ∷ names) [] = []
of_files text (name ∷ names) (said ∷ more) = text name said ++ of_files text names more

abbrev pub is_list : Result (List ℕ) Fault → Bool
is_list (Ok line) = true
is_list (Err fault) = false

abbrev pub are_lists : List (Result (List ℕ) Fault) → Bool
are_lists [] = true
are_lists (said ∷ more) = is_list said && are_lists more

-- what is said of counts, or of a fault
abbrev pub said_of : Result Counts Fault → Result (List ℕ) Fault
said_of (Ok counts) = Ok (text_of_counts counts)
said_of (Err fault) = Err fault

-- What is said of a file was written, or told, and whether it holds a list. Of one that does nothing is told.
abbrev pub SaysFile : List ℕ → Result (List ℕ) Fault → Option (List ℕ) → Option (List ℕ) → Told → Told → Bool → Type 0
SaysFile name said written_old written_new told_old told_new fine =
    Appends written_old written_new (file_written name said) × TellsAll told_old told_new (file_told name said)
    × (fine ≡ is_list said) × (fine ≡ true → told_new ≡ told_old)

-- the output failed, or memory ended: at most a beginning was written, and nothing told
abbrev pub StopsSaying : List ℕ → Result (List ℕ) Fault → Option (List ℕ) → Option (List ℕ) → Told → Told → Fault
    → Type 0
StopsSaying name said written_old written_new told_old told_new fault =
    ((fault ≡ Stream Write) ⊎ (fault ≡ Stream (Input input.Unavailable)))
    × AppendsPart written_old written_new (file_written name said) × (told_new ≡ told_old)

-- the same of a file that was checked
abbrev pub TakesFile : Holds → Rate → List ℕ → Option (List ℕ) → Option (List ℕ) → Told → Told → Bool → Type 0
TakesFile holds rate name written_old written_new told_old told_new fine =
    (said : Result (List ℕ) Fault) × FileIs holds rate name said
    × SaysFile name said written_old written_new told_old told_new fine

abbrev pub StopsTaking : Holds → Rate → List ℕ → Option (List ℕ) → Option (List ℕ) → Told → Told → Fault → Type 0
StopsTaking holds rate name written_old written_new told_old told_new fault =
    (said : Result (List ℕ) Fault) × FileIs holds rate name said
    × StopsSaying name said written_old written_new told_old told_new fault

-- Each file was checked: what holds of its list was written, its fault was told.
abbrev pub ChecksFiles : Holds → Rate → List (List ℕ) → Option (List ℕ) → Option (List ℕ) → Told → Told → Bool → Type 0
ChecksFiles holds rate names written_old written_new told_old told_new quiet =
    (said : List (Result (List ℕ) Fault)) × FilesAre holds rate names said
    × Appends written_old written_new (of_files file_written names said)
    × TellsAll told_old told_new (of_files file_told names said) × (quiet ≡ are_lists said)

-- what is to be written of the first of these
abbrev pub IsNextWritten : Holds → Rate → List (List ℕ) → List ℕ → Type 0
IsNextWritten holds rate [] written = ⊥
IsNextWritten holds rate (name ∷ names) written =
    (said : Result (List ℕ) Fault) × FileIs holds rate name said × (written ≡ file_written name said)

-- The output failed, or memory ended, at one of the files: of those before it all was written and told, and of that one
-- at most a beginning was written.
abbrev pub StopsAtFile : Holds → Rate → List (List ℕ) → Option (List ℕ) → Option (List ℕ) → Told → Told → Fault → Type 0
StopsAtFile holds rate names written_old written_new told_old told_new fault =
    ((fault ≡ Stream Write) ⊎ (fault ≡ Stream (Input input.Unavailable)))
    × ((n : ℕ) × (said : List (Result (List ℕ) Fault)) × (last : List ℕ)
    × FilesAre holds rate (take n names) said × IsNextWritten holds rate (drop n names) last
    × AppendsPart written_old written_new (of_files file_written (take n names) said ++ last)
    × TellsAll told_old told_new (of_files file_told (take n names) said))

-- A fault is told behind the name of its file; or memory ran out for that, which is told.
abbrev pub TellsFile : Told → Told → List ℕ → Fault → Type 0
TellsFile told_old told_new name fault =
    Tells told_old told_new (named_line name (line_of fault))
    ⊎ Tells told_old told_new (line_of (Stream (Input input.Unavailable)))
