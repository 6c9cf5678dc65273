-- What the words ask for over a database in a file, done.
use Rattle.std.specs.Prelude.{◌≡◌, ◌⊎◌, ℕ, List, [], ◌∷◌, Bool, true, Result, Ok, Err, Option, Some, None}
use Rattle.std.specs.Prelude.{if◌then◌else◌}
use Rattle.std.specs.Io.KnownBytes.{Keeps}
use Rattle.sqlite.specs.State.{State, HasCleanDisk}
use Rattle.edl.specs.Texts.{texts_of}
use Rattle.channel_plan.specs.declared.plan.PlanRow.{PlanRow}
use Rattle.channel_plan.specs.declared.refusal.Code.TheVariants as code
use Rattle.channel_plan.specs.declared.refusal.Refusal.{Refusal}
use Rattle.channel_plan.specs.Refusal.{refused}
use Rattle.channel_plan.specs.Plan.{is_plan}
use Rattle.channel_view_model.specs.Centre.{Centre}
use Rattle.http_office.specs.declared.serving.End.{End}
use Rattle.station_tables_statements.specs.Rows.{StandsFor}
use Rattle.station_tables_opening.specs.Left.{LeavesFound}
use Rattle.station_tables_writing.specs.Tables.{MayLeave}
use Rattle.playout_args.specs.Words.{AreRead}
use Rattle.playout_args.specs.declared.words.Action.{Action}
use Rattle.playout_args.specs.declared.words.Action.TheVariants as asks
use Rattle.playout_args.specs.declared.words.NoAction.{NoAction}
use Rattle.playout_actions.specs.Answering.{ArePlanTexts, RefusesPlan, ServesOn}
use Rattle.playout_lists.specs.Fault.{line_of}
use Rattle.playout_lists.specs.Named.{Holds as Gives}
use Rattle.playout_actions.specs.Office.{Office, Concludes, DoesAsked, LeavesAll}
use Rattle.playout_actions.specs.Tables.{PrintsTable, TableHas, table_of}
use Rattle.playout_lists.specs.Telling.{Tells}
use Rattle.playout_lists.specs.declared.fault.Fault.{Fault}
use Rattle.playout_lists.specs.declared.fault.Fault.TheVariants.{Refused}
use Rattle.playout_cli.specs.Kept.{BeginsWith}
use Rattle.playout_cli.specs.Refusing.{RefusesTables}
use Rattle.playout_cli.specs.Serving.{FindsNone, PrintHas, TablesHave, ServesOver, PortOverHas, SaysPort, most_of}

-- What is known of tables that were made for a plan, or with no row were there: with which rows they began, for which
-- they stand now, which a stop may leave, why they are refused, and whether what is committed is then what was, or what
-- was found.
pub record Known : Type 1 where
  pub begins : List PlanRow → Centre → Type 0
  pub stands : Centre → Type 0
  pub may_leave : Centre → Type 0
  pub refuses : List PlanRow → Refusal → Type 0
  pub left : Type 0

-- of a database, if the disk gives back what was written
abbrev pub known_of : State → State → Known
known_of old new = record {
  begins = λ plan rows. HasCleanDisk new × BeginsWith plan old rows;
  stands = StandsFor new;
  may_leave = MayLeave new;
  refuses = λ plan refusal. RefusesTables plan old new refusal;
  left = HasCleanDisk new → LeavesFound old new;
}

-- where the tables are refused
abbrev pub KeepsRefused : Known → Fault → Type 0
KeepsRefused k fault = (refusal : Refusal) → fault ≡ Refused refusal → k.left

-- connections were served, and the exit status says whether one had a fault; or none was, for a fault
abbrev pub ActsOnPort : Office → Known → Option ℕ → Result Bool Fault → Type 0
ActsOnPort o k turns (Ok quiet) =
    ServesOver (k.begins []) k.stands k.may_leave (most_of turns) o.told_old o.told_new quiet
    × (o.status ≡ (if quiet then 0 else 1))
ActsOnPort o k turns (Err fault) =
    PortOverHas (k.refuses []) (k.begins []) k.stands k.may_leave fault × KeepsRefused k fault
    × (o.status ≡ 1) × Tells o.told_old o.told_new (line_of fault)

-- What was done of an action over these tables: messages were answered over them, made for this plan or with no row as
-- they were; so many connections were served on this port; a table of this channel was printed, and the rows are as
-- they were.
abbrev pub ActsOn : Office → Known → List PlanRow → Action → Type 0
ActsOn o k plan (asks.AnswerFile file rows) =
    Concludes o
    ((end : End) × ServesOn (k.begins plan) k.stands k.may_leave
    o.readable_old o.readable_new o.written_old o.written_new (Ok end))
    (λ fault. TablesHave (k.refuses plan) (k.begins plan) k.stands k.may_leave
    o.readable_old o.readable_new o.written_old o.written_new fault × KeepsRefused k fault)
ActsOn o k plan (asks.Serve file port peers turns idle) =
    Keeps o.readable_old o.readable_new
    × ((served : Result Bool Fault) × SaysPort port o.written_old o.written_new served × ActsOnPort o k turns served)
ActsOn o k plan (asks.Table file channel table) =
    Keeps o.readable_old o.readable_new × Concludes o
    ((rows : Centre) → k.begins [] rows → PrintsTable rows channel (table_of table) o.written_old o.written_new)
    (λ fault. PrintHas fault
    × ((refusal : Refusal) → fault ≡ Refused refusal →
    k.refuses [] refusal ⊎ (refusal ≡ refused code.Unavailable))
    × ((rows : Centre) → k.begins [] rows →
    TableHas rows channel (table_of table) o.written_old o.written_new fault))
    × ((rows : Centre) → k.begins [] rows → k.stands rows ⊎ k.left)
ActsOn o k plan (asks.Answer rows) = LeavesAll o × (o.status ≡ 2)
ActsOn o k plan (asks.Check rate) = LeavesAll o × (o.status ≡ 2)
ActsOn o k plan (asks.CheckFiles rate files) = LeavesAll o × (o.status ≡ 2)
ActsOn o k plan (asks.Compare rate one other) = LeavesAll o × (o.status ≡ 2)
ActsOn o k plan (asks.Events rate form) = LeavesAll o × (o.status ≡ 2)
ActsOn o k plan (asks.Timecode rate label) = LeavesAll o × (o.status ≡ 2)

-- nothing was read or written, and this fault was said
abbrev pub FailsFirst : Office → (Fault → Type 0) → Type 0
FailsFirst o Has =
    Keeps o.readable_old o.readable_new × Keeps o.written_old o.written_new
    × ((fault : Fault) × Has fault × (o.status ≡ 1) × Tells o.told_old o.told_new (line_of fault))

-- In a file: it isn't opened; or its connection showed a database that it held, and over its tables it was done. What
-- then stands in the file is what the last call of the database's library left there.
abbrev pub ActsOnFile : {C : Type 0} → (C → State) → (State → Type 0) → Office → List PlanRow → Action → Type 0
ActsOnFile {C} shown Holds o plan action = FailsFirst o FindsNone
    ⊎ ((old : C) × (new : C) × Holds (shown old) × ActsOn o (known_of (shown old) (shown new)) plan action)

-- the plan rows that an action has for a file
abbrev pub rows_for : Action → List (List ℕ)
rows_for (asks.AnswerFile file rows) = texts_of rows.items
rows_for (asks.Serve file port peers turns idle) = []
rows_for (asks.Table file channel table) = []
rows_for (asks.Answer rows) = []
rows_for (asks.Check rate) = []
rows_for (asks.CheckFiles rate files) = []
rows_for (asks.Compare rate one other) = []
rows_for (asks.Events rate form) = []
rows_for (asks.Timecode rate label) = []

-- they are a plan
abbrev pub IsPlanFor : Action → List PlanRow → Type 0
IsPlanFor action plan = ArePlanTexts (rows_for action) plan × (is_plan plan ≡ true)

-- First its plan rows are read.
abbrev pub ActsOver : {C : Type 0} → (C → State) → (State → Type 0) → Office → Action → Type 0
ActsOver shown Holds o action =
    FailsFirst o (λ fault. (refusal : Refusal) × (fault ≡ Refused refusal) × RefusesPlan (rows_for action) refusal)
    ⊎ ((plan : List PlanRow) × IsPlanFor action plan × ActsOnFile shown Holds o plan action)

-- the file of the database that it goes over, if it goes over one
abbrev pub file_of : Action → Option (List ℕ)
file_of (asks.AnswerFile file rows) = Some file.now
file_of (asks.Serve file port peers turns idle) = Some file.now
file_of (asks.Table file channel table) = Some file.now
file_of (asks.Answer rows) = None
file_of (asks.Check rate) = None
file_of (asks.CheckFiles rate files) = None
file_of (asks.Compare rate one other) = None
file_of (asks.Events rate form) = None
file_of (asks.Timecode rate label) = None

-- What was done of what the words ask for, where the files of these names hold such databases, and give such lists.
abbrev pub DoesAll : {C : Type 0} → (C → State) → (List ℕ → State → Type 0) → Gives → Office → Result Action NoAction
    → Type 0
DoesAll shown Holds gives o (Ok (asks.AnswerFile file rows)) =
    ActsOver shown (Holds file.now) o (asks.AnswerFile file rows)
DoesAll shown Holds gives o (Ok (asks.Serve file port peers turns idle)) =
    ActsOver shown (Holds file.now) o (asks.Serve file port peers turns idle)
DoesAll shown Holds gives o (Ok (asks.Table file channel table)) =
    ActsOver shown (Holds file.now) o (asks.Table file channel table)
DoesAll shown Holds gives o (Ok (asks.Answer rows)) = DoesAsked gives o (Ok (asks.Answer rows))
DoesAll shown Holds gives o (Ok (asks.Check rate)) = DoesAsked gives o (Ok (asks.Check rate))
DoesAll shown Holds gives o (Ok (asks.CheckFiles rate files)) = DoesAsked gives o (Ok (asks.CheckFiles rate files))
DoesAll shown Holds gives o (Ok (asks.Compare rate one other)) = DoesAsked gives o (Ok (asks.Compare rate one other))
DoesAll shown Holds gives o (Ok (asks.Events rate form)) = DoesAsked gives o (Ok (asks.Events rate form))
DoesAll shown Holds gives o (Ok (asks.Timecode rate label)) = DoesAsked gives o (Ok (asks.Timecode rate label))
DoesAll shown Holds gives o (Err no_action) = DoesAsked gives o (Err no_action)

-- of the words
abbrev pub ActsOnWords : {C : Type 0} → (C → State) → (List ℕ → State → Type 0) → Gives → Office → List (List ℕ)
    → Type 0
ActsOnWords shown Holds gives o words =
    (asked : Result Action NoAction) × AreRead words asked × DoesAll shown Holds gives o asked
