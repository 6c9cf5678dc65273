-- What a fault over tables, of a file, and of a port, says.
use Rattle.std.specs.Prelude.{◌≡◌, ◌≢◌, ℕ, Bool, List, [], ◌∷◌, ◌++◌, codes, decimal, Option, Some, None}
use Rattle.std.specs.Prelude.{◌⊎◌, Result, Ok, Err}
use Rattle.std.specs.Io.KnownBytes.{Appends, Keeps}
use Rattle.channel_plan.specs.declared.refusal.Code.TheVariants as code
use Rattle.channel_plan.specs.declared.refusal.Refusal.{Refusal}
use Rattle.channel_plan.specs.Refusal.{refused}
use Rattle.channel_view_model.specs.Centre.{Centre}
use Rattle.http_office.specs.declared.serving.ServeFault.{ServeFault}
use Rattle.playout_lists.specs.declared.fault.Fault.{Fault}
use Rattle.playout_lists.specs.declared.fault.Fault.TheVariants.{Label, List as OfList, Refused, NoChannel, Open}
use Rattle.playout_lists.specs.declared.fault.Fault.TheVariants.{Listen, Stream}
use Rattle.playout_lists.specs.declared.streams.StreamFault.TheVariants.{Write}
use Rattle.playout_actions.specs.Answering.{ServesOn, stream_fault_of}
use Rattle.playout_lists.specs.Telling.{Told}
use Rattle.playout_peers.specs.Wire.{unknown}
use Rattle.playout_peers.specs.Peers.{Done, Ending, AreServed, asked_in, answers_in}
use Rattle.report_texts.specs.Output.{AppendsPart}
use Rattle.http_office.specs.Run.{AnswersAll, rows_left_by, stop_after_messages}
use Rattle.playout_cli.specs.Refusing.{IsOpenRefusal}

-- The tables were refused for this cause, and nothing was read or written, or the stream has a fault.
abbrev pub TablesHave : (Refusal → Type 0) → (Centre → Type 0) → (Centre → Type 0) → (Centre → Type 0)
    → Option (List ℕ) → Option (List ℕ) → Option (List ℕ) → Option (List ℕ) → Fault → Type 0
TablesHave Refuses Begins Leaves MayLeave readable_old readable_new written_old written_new (Refused refusal) =
    Refuses refusal × Keeps readable_old readable_new × Keeps written_old written_new
TablesHave Refuses Begins Leaves MayLeave readable_old readable_new written_old written_new (Stream fault) =
    (f : ServeFault) × (fault ≡ stream_fault_of f)
    × ServesOn Begins Leaves MayLeave readable_old readable_new written_old written_new (Err f)
TablesHave Refuses Begins Leaves MayLeave readable_old readable_new written_old written_new (Label fault) = ⊥
TablesHave Refuses Begins Leaves MayLeave readable_old readable_new written_old written_new (OfList fault) = ⊥
TablesHave Refuses Begins Leaves MayLeave readable_old readable_new written_old written_new Open = ⊥
TablesHave Refuses Begins Leaves MayLeave readable_old readable_new written_old written_new Listen = ⊥
TablesHave Refuses Begins Leaves MayLeave readable_old readable_new written_old written_new NoChannel = ⊥

-- Why a file isn't opened: it can't be, or memory ran out.
abbrev pub OpenHas : Fault → Type 0
OpenHas fault = (fault ≡ Open) ⊎ (fault ≡ Refused (refused code.Unavailable))

-- Why one that is to be there isn't: it can't be, memory ran out, or it isn't there.
abbrev pub FindsNone : Fault → Type 0
FindsNone fault = OpenHas fault ⊎ (fault ≡ Refused (refused code.NotOurs))

-- Why a port isn't served: it can't be listened on, or the line that says so wasn't written.
abbrev pub PortHas : Fault → Type 0
PortHas fault = (fault ≡ Listen) ⊎ (fault ≡ Stream Write)

-- Why a table isn't printed: the tables are refused, the channel isn't there, or the writer failed.
abbrev pub PrintHas : Fault → Type 0
PrintHas Open = ⊥
PrintHas (Refused refusal) = IsOpenRefusal refusal
PrintHas NoChannel = Unit {0}
PrintHas (Stream fault) = fault ≡ Write
PrintHas (Label fault) = ⊥
PrintHas (OfList fault) = ⊥
PrintHas Listen = ⊥

-- how many connections are served: without a number as many as can be counted
abbrev pub most_of : Option ℕ → ℕ
most_of None = 18446744073709551615
most_of (Some turns) = turns

-- So many connections at most were served over each set of rows that Begins says: what their messages asked was
-- answered over these, one message after another, and Leaves holds of the rows that they left. A stop now, which may
-- leave what MayLeave says, leaves these, or whole messages of those that were not acknowledged. Each fault was said.
pub record ServesOver (Begins Leaves MayLeave : Centre → Type 0) (most : ℕ) (told_old told_new : Told) (quiet : Bool)
    : Type 0 where
  pub done : List Done
  pub ends : List Ending
  pub are_served : AreServed done ends (λ n. unknown) (λ n. unknown) most told_old told_new quiet
  pub answered : (rows : Centre) → Begins rows → AnswersAll rows (asked_in done) (answers_in done)
  pub left : (rows : Centre) → Begins rows → Leaves (rows_left_by rows (asked_in done) (answers_in done))
  pub stop : (rows : Centre) → Begins rows → (found : Centre) → MayLeave found
      → stop_after_messages (λ begun. begun ≡ rows) rows (asked_in done) (answers_in done) found

-- the rows are as they were, and a stop leaves just these
abbrev pub AreKept : (Centre → Type 0) → (Centre → Type 0) → (Centre → Type 0) → Type 0
AreKept Begins Leaves MayLeave =
    (rows : Centre) → Begins rows → Leaves rows × ((found : Centre) → MayLeave found → found ≡ rows)

-- Why no connection is served over tables: they were refused for this cause, or the port isn't served, and the rows are
-- as they were.
abbrev pub PortOverHas : (Refusal → Type 0) → (Centre → Type 0) → (Centre → Type 0) → (Centre → Type 0) → Fault → Type 0
PortOverHas Refuses Begins Leaves MayLeave (Refused refusal) = Refuses refusal
PortOverHas Refuses Begins Leaves MayLeave Listen = AreKept Begins Leaves MayLeave
PortOverHas Refuses Begins Leaves MayLeave (Stream fault) = (fault ≡ Write) × AreKept Begins Leaves MayLeave
PortOverHas Refuses Begins Leaves MayLeave Open = ⊥
PortOverHas Refuses Begins Leaves MayLeave NoChannel = ⊥
PortOverHas Refuses Begins Leaves MayLeave (Label fault) = ⊥
PortOverHas Refuses Begins Leaves MayLeave (OfList fault) = ⊥

-- `serving 127.0.0.1:PORT`
abbrev pub text_of_serving : ℕ → List ℕ
text_of_serving port = codes "serving 127.0.0.1:" ++ decimal port

-- and the line's end
abbrev pub line_of_serving : ℕ → List ℕ
line_of_serving port = text_of_serving port ++ 10 ∷ []

-- the port that was asked for, or where that is 0 any
abbrev pub IsPort : ℕ → ℕ → Type 0
IsPort asked port = asked ≢ 0 → port ≡ asked

-- What is written of a port: its line, where it is served; a beginning of it, where the writer failed; else nothing.
abbrev pub SaysPort : ℕ → Option (List ℕ) → Option (List ℕ) → Result Bool Fault → Type 0
SaysPort asked old new (Ok quiet) = (port : ℕ) × IsPort asked port × Appends old new (line_of_serving port)
SaysPort asked old new (Err (Stream fault)) =
    (port : ℕ) × IsPort asked port × AppendsPart old new (line_of_serving port)
SaysPort asked old new (Err (Refused refusal)) = Keeps old new
SaysPort asked old new (Err Listen) = Keeps old new
SaysPort asked old new (Err Open) = Keeps old new
SaysPort asked old new (Err NoChannel) = Keeps old new
SaysPort asked old new (Err (Label fault)) = Keeps old new
SaysPort asked old new (Err (OfList fault)) = Keeps old new
