-- What the words ask for without a database, done. Which bytes the files hold that they name, `holds` says.
use Rattle.std.specs.Prelude.{◌≡◌, ◌≢◌, ◌⊎◌, ℕ, List, [], ◌∷◌, ◌++◌, decimal, string_bytes, Option, None, Result, Ok}
use Rattle.std.specs.Prelude.{Err}
use Rattle.std.specs.Prelude.{Bool, true, false, bytes_eq, codes, if◌then◌else◌}
use Rattle.std.specs.Io.KnownBytes.{Appends, Keeps}
use Rattle.std.specs.declared.io.traits.Write.{Ghosts as WriteGhosts}
use Rattle.report_texts.specs.Output.{AppendsPart}
use Rattle.edl.specs.Texts.{texts_of}
use Rattle.timecode.specs.declared.rates.Rate.{Rate}
use Rattle.timecode.specs.LabelReading.{reading_of_text}
use Rattle.http_office.specs.declared.serving.End.{End}
use Rattle.playout_lists.specs.declared.fault.Fault.{Fault}
use Rattle.playout_lists.specs.declared.fault.Fault.TheVariants.{Refused, Stream}
use Rattle.playout_lists.specs.declared.streams.StreamFault.TheVariants.{Write}
use Rattle.channel_plan.specs.declared.refusal.Code.TheVariants as code
use Rattle.channel_plan.specs.Refusal.{refused}
use Rattle.playout_lists.specs.Fault.{line_of}
use Rattle.playout_lists.specs.Telling.{Told, Tells, has_told}
use Rattle.playout_lists.specs.declared.fault_writer.FaultLines.{FaultLines}
use Rattle.playout_lists.specs.declared.fault_writer.FaultWriter.{Ghosts}
use Rattle.playout_actions.specs.Answering.{ServesPlan, AnswerHas}
use Rattle.playout_lists.specs.Checking.{ChecksInput, CheckHas}
use Rattle.playout_lists.specs.Printing.{PrintHas}
use Rattle.playout_lists.specs.Counting.{CountsInput, CountHas}
use Rattle.playout_lists.specs.Listing.{ListsInput}
use Rattle.playout_lists.specs.Named.{ChecksFiles, Holds, StopsAtFile}
use Rattle.playout_lists.specs.Comparing.{ComparesFiles, TellsComparing, WriteHas}
use Rattle.playout_lists.specs.declared.comparing.CompareFault.{CompareFault}
use Rattle.playout_args.specs.declared.words.EventForm.{EventForm}
use Rattle.playout_args.specs.Words.{AreRead}
use Rattle.playout_args.specs.declared.words.Action.{Action}
use Rattle.playout_args.specs.declared.words.Action.TheVariants as asks
use Rattle.playout_args.specs.declared.words.NoAction.{NoAction}
use Rattle.playout_args.specs.declared.words.NoAction.TheVariants as said

-- what the streams hold before and after: the input, the output and standard error; and the exit status
pub record Office : Type 0 where
  pub readable_old : Option (List ℕ)
  pub readable_new : Option (List ℕ)
  pub written_old : Option (List ℕ)
  pub written_new : Option (List ℕ)
  pub told_old : Told
  pub told_new : Told
  pub status : ℕ

-- of this reader and these writers
abbrev pub office_of : {R W E : Type 0} → {g : Ghosts E} → {w : WriteGhosts E} → (R → Option (List ℕ))
    → (W → Option (List ℕ)) → (E → Option (List ℕ)) → R → R → W → W → FaultLines E g w → FaultLines E g w → ℕ → Office
office_of remaining written told input_old input_new output_old output_new faults_old faults_new status = record {
  readable_old = remaining input_old;
  readable_new = remaining input_new;
  written_old = written output_old;
  written_new = written output_new;
  told_old = has_told told faults_old;
  told_new = has_told told faults_new;
  status = status;
}

-- It was done, which status 0 says and nothing on standard error; or it has a fault, which status 1 and one line say,
-- or a beginning of the line where standard error has failed.
abbrev pub Concludes : Office → Type 0 → (Fault → Type 0) → Type 0
Concludes o Done Has =
    (Done × (o.status ≡ 0) × (o.told_new ≡ o.told_old))
    ⊎ ((fault : Fault) × Has fault × (o.status ≡ 1) × Tells o.told_old o.told_new (line_of fault))

-- What a fault says of the output: only one of the output itself has written something, a beginning of the line that
-- was to be written.
pub record IsUnwritten (o : Office) (Line : List ℕ → Type 0) (fault : Fault) : Type 0 where
  pub kept : fault ≢ Stream Write → Keeps o.written_old o.written_new
  pub part : fault ≡ Stream Write → (line : List ℕ) × Line line × AppendsPart o.written_old o.written_new line

-- the line that counts what the list holds
abbrev pub Checks : Office → Rate → List ℕ → Type 0
Checks o rate line = ChecksInput rate line o.readable_old o.readable_new

-- the events of the list
abbrev pub Lists : Office → Rate → EventForm → List ℕ → Type 0
Lists o rate form text = ListsInput rate form text o.readable_old o.readable_new

-- the line of the label's frame
abbrev pub Counts : Rate → List ℕ → List ℕ → Type 0
Counts rate label line = (n : ℕ) × (reading_of_text rate label ≡ Ok n) × (line ≡ decimal n ++ 10 ∷ [])

-- Of a label its frame was printed, and nothing was read; of `-` the lines of the input were answered.
abbrev pub DoesLabel : Bool → Office → Rate → List ℕ → Type 0
DoesLabel false o rate label =
    Keeps o.readable_old o.readable_new
    × Concludes o ((line : List ℕ) × Counts rate label line × Appends o.written_old o.written_new line)
    (λ fault. PrintHas (reading_of_text rate label) fault × IsUnwritten o (Counts rate label) fault)
DoesLabel true o rate label =
    Concludes o ((text : List ℕ) × CountsInput rate text None o.readable_old o.readable_new
    × Appends o.written_old o.written_new text)
    (CountHas rate o.readable_old o.readable_new o.written_old o.written_new)

-- Each file was checked, and the exit status says whether all hold lists, with nothing on standard error; or the output
-- failed, or memory ended, at one of them, and that was said.
abbrev pub DoesFiles : Holds → Office → Rate → List (List ℕ) → Type 0
DoesFiles holds o rate names =
    ((quiet : Bool) × ChecksFiles holds rate names o.written_old o.written_new o.told_old o.told_new quiet
    × (o.status ≡ (if quiet then 0 else 1)) × (quiet ≡ true → o.told_new ≡ o.told_old))
    ⊎ ((fault : Fault) × (told : Told) × StopsAtFile holds rate names o.written_old o.written_new o.told_old told fault
    × (o.status ≡ 1) × Tells told o.told_new (line_of fault))

-- Two files were compared, which status 0 says and nothing on standard error; or that has a fault, which was said.
abbrev pub DoesCompare : Holds → Office → Rate → List ℕ → List ℕ → Type 0
DoesCompare holds o rate one other =
    ((text : List ℕ) × ComparesFiles holds rate one other text × Appends o.written_old o.written_new text
    × (o.status ≡ 0) × (o.told_new ≡ o.told_old))
    ⊎ ((fault : CompareFault) × WriteHas holds rate one other o.written_old o.written_new fault
    × (o.status ≡ 1) × TellsComparing o.told_old o.told_new one other fault)

-- nothing was read, written or said
abbrev pub LeavesAll : Office → Type 0
LeavesAll o =
    Keeps o.readable_old o.readable_new × Keeps o.written_old o.written_new × (o.told_new ≡ o.told_old)

-- What was done of an action: messages were answered over the plan of its rows, a list was counted, or its events
-- printed, the lists in files were checked, or compared, the frame of a label was printed, or those of lines. What goes
-- over a database is left alone, with status 2.
abbrev pub DoesAction : Holds → Office → Action → Type 0
DoesAction holds o (asks.Answer rows) =
    Concludes o ((end : End)
    × ServesPlan (texts_of rows.items) o.readable_old o.readable_new o.written_old o.written_new (Ok end))
    (AnswerHas (texts_of rows.items) o.readable_old o.readable_new o.written_old o.written_new)
DoesAction holds o (asks.Check rate) =
    Concludes o ((line : List ℕ) × Checks o rate line × Appends o.written_old o.written_new line)
    (λ fault. CheckHas rate o.readable_old o.readable_new fault × IsUnwritten o (Checks o rate) fault)
DoesAction holds o (asks.CheckFiles rate files) =
    Keeps o.readable_old o.readable_new × DoesFiles holds o rate (texts_of files.items)
DoesAction holds o (asks.Compare rate one other) =
    Keeps o.readable_old o.readable_new × DoesCompare holds o rate one.now other.now
DoesAction holds o (asks.Events rate form) =
    Concludes o ((text : List ℕ) × Lists o rate form text × Appends o.written_old o.written_new text)
    (λ fault. CheckHas rate o.readable_old o.readable_new fault × IsUnwritten o (Lists o rate form) fault)
DoesAction holds o (asks.Timecode rate label) = DoesLabel (bytes_eq label.now (codes "-")) o rate label.now
DoesAction holds o (asks.AnswerFile file rows) = LeavesAll o × (o.status ≡ 2)
DoesAction holds o (asks.Serve file port peers turns idle) = LeavesAll o × (o.status ≡ 2)
DoesAction holds o (asks.Table file channel table) = LeavesAll o × (o.status ≡ 2)

-- Of words that ask for nothing, nothing is read: help goes to the output; what the words should be goes to standard
-- error, or a beginning of it where that has failed, with status 2; want of memory is a fault.
abbrev pub Explains : Office → NoAction → Type 0
Explains o (said.Help text) =
    Keeps o.readable_old o.readable_new
    × Concludes o (Appends o.written_old o.written_new (string_bytes text))
    (λ fault. (fault ≡ Stream Write) × AppendsPart o.written_old o.written_new (string_bytes text))
Explains o (said.Usage text) =
    Keeps o.readable_old o.readable_new × Keeps o.written_old o.written_new
    × Tells o.told_old o.told_new (string_bytes text) × (o.status ≡ 2)
Explains o said.Unavailable =
    Keeps o.readable_old o.readable_new × Keeps o.written_old o.written_new
    × Concludes o ⊥ (λ fault. fault ≡ Refused (refused code.Unavailable))

-- what was done of the words, as they were read
unfoldable pub DoesAsked : Holds → Office → Result Action NoAction → Type 0
DoesAsked holds o (Ok action) = DoesAction holds o action
DoesAsked holds o (Err no_action) = Explains o no_action

-- What was done of the words: they were read as what they ask for, or as why they ask for nothing, and that was done.
abbrev pub DoesWords : Holds → Office → List (List ℕ) → Type 0
DoesWords holds o words = (asked : Result Action NoAction) × AreRead words asked × DoesAsked holds o asked
