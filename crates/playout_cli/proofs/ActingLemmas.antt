-- What was done over tables, and how it was told.
use Rattle.std.proofs.Common.{◌≡◌, ℕ, List, [], ◌∷◌, Bool, inl, inr, sym, subst}
use Rattle.std.specs.Prelude.{◌⊎◌, Option, Some, None, Result, Ok, Err, OnOk, OnErr, IfOk, IfErr, MatchResult}
use Rattle.std.specs.Prelude.{if◌then◌else◌}
use Rattle.sqlite.specs.State.{State, HasCleanDisk}
use Rattle.channel_plan.specs.declared.refusal.Code.TheVariants as code
use Rattle.channel_plan.specs.declared.refusal.Refusal.{Refusal}
use Rattle.channel_plan.specs.Refusal.{refused}
use Rattle.channel_view_model.specs.Centre.{Centre}
use Rattle.channel_view_model.specs.declared.table.Table.{Table}
use Rattle.station_tables_statements.specs.Rows.{StandsFor}
use Rattle.station_tables_opening.specs.Left.{LeavesFound}
use Rattle.playout_args.specs.declared.words.Action.{Action}
use Rattle.playout_args.specs.declared.words.Action.TheVariants as asks
use Rattle.playout_args.specs.declared.words.NoAction.{NoAction}
use Rattle.playout_lists.specs.Fault.{line_of}
use Rattle.playout_lists.specs.Named.{Holds as Gives}
use Rattle.playout_actions.specs.Office.{Office, Concludes, DoesAsked}
use Rattle.playout_actions.specs.Tables.{PrintsTable, TableHas}
use Rattle.playout_lists.specs.Telling.{Told, Tells}
use Rattle.playout_lists.specs.declared.fault.Fault.{Fault}
use Rattle.playout_lists.specs.declared.fault.Fault.TheVariants.{Label, List as OfList, Refused, NoChannel, Open}
use Rattle.playout_lists.specs.declared.fault.Fault.TheVariants.{Listen, Stream}
use Rattle.playout_cli.specs.Acting.{Known, known_of, ActsOnPort, ActsOver, DoesAll, file_of}
use Rattle.playout_cli.specs.Kept.{BeginsWith}
use Rattle.station_tables_opening.specs.Opens.{RefusesToOpen}
use Rattle.playout_cli.specs.Serving.{ServesOver, PortOverHas, PrintHas, most_of}

-- it was done, or a fault was told
pub concludes : {T : Type 0} (o : Office) (Done : Type 0) (Has : Fault → Type 0) (r : Result T Fault) → OnOk r Done
    → IfErr r Has
    → MatchResult r (λ _. (o.status ≡ 0) × (o.told_new ≡ o.told_old))
    (λ fault. (o.status ≡ 1) × Tells o.told_old o.told_new (line_of fault)) → Concludes o Done Has
concludes o Done Has (Ok v) done has told = inl (done, told.0, told.1)
concludes o Done Has (Err e) done has told = inr (e, has, told.0, told.1)

-- what two clauses say of a fault
pub both : {T E : Type 0} (P Q : E → Type 0) (r : Result T E) → IfErr r P → IfErr r Q → IfErr r (λ e. P e × Q e)
both P Q (Ok v) p q = tt
both P Q (Err e) p q = (p, q)

-- what is said of one refusal, of the fault that it is
pub where_refused : {T : Type 0} (P : Refusal → Type 0) (r : Result T Fault)
    → ((refusal : Refusal) → r ≡ Err (Refused refusal) → P refusal)
    → IfErr r (λ fault. (refusal : Refusal) → fault ≡ Refused refusal → P refusal)
where_refused P (Ok v) h = tt
where_refused P (Err e) h = λ refusal is. h refusal cc

pub acts_on_port : (o : Office) (k : Known) (turns : Option ℕ) (mid : Told) (r : Result Bool Fault)
    → IfOk r (ServesOver (k.begins []) k.stands k.may_leave (most_of turns) o.told_old mid)
    → IfErr r (PortOverHas (k.refuses []) (k.begins []) k.stands k.may_leave)
    → ((refusal : Refusal) → r ≡ Err (Refused refusal) → k.left)
    → OnErr r (mid ≡ o.told_old) → OnOk r (o.told_new ≡ mid) → IfOk r (λ quiet. o.status ≡ (if quiet then 0 else 1))
    → IfErr r (λ fault. (o.status ≡ 1) × Tells mid o.told_new (line_of fault)) → ActsOnPort o k turns r
acts_on_port o k turns mid (Ok quiet) over has refused untold kept status told = (
  subst (λ heard. ServesOver (k.begins []) k.stands k.may_leave (most_of turns) o.told_old heard quiet) (sym kept)
      over,
  status,
)
acts_on_port o k turns mid (Err e) over has refused untold kept status told = (
  has,
  where_refused (λ _. k.left) (Err e) refused,
  told.0,
  subst (λ heard. Tells heard o.told_new (line_of e)) untold told.1,
)

-- a table was printed, or not
on_begun : {T : Type 0} (old new : State) (P : Centre → Type 0) (r : Result T Fault)
    → OnOk r (HasCleanDisk new → (rows : Centre) → BeginsWith [] old rows → P rows)
    → OnOk r ((rows : Centre) → (known_of old new).begins [] rows → P rows)
on_begun old new P (Ok v) h = λ rows begins. h begins.0 rows begins.1
on_begun old new P (Err e) h = tt

-- why it wasn't
abbrev Refuses : State → State → Refusal → Type 0
Refuses old new refusal = RefusesToOpen old new refusal ⊎ (refusal ≡ refused code.Unavailable)

unprinted : {T : Type 0} (old new : State) (Has : Centre → Fault → Type 0) (r : Result T Fault) → IfErr r PrintHas
    → ((refusal : Refusal) → r ≡ Err (Refused refusal) → Refuses old new refusal)
    → IfErr r (λ fault. HasCleanDisk new → (rows : Centre) → BeginsWith [] old rows → Has rows fault)
    → IfErr r (λ fault. PrintHas fault × ((refusal : Refusal) → fault ≡ Refused refusal → Refuses old new refusal)
    × ((rows : Centre) → (known_of old new).begins [] rows → Has rows fault))
unprinted old new Has (Ok v) one cause h = tt
unprinted old new Has (Err e) one cause h =
    (one, where_refused (Refuses old new) (Err e) cause, λ rows begins. h begins.0 rows begins.1)

pub prints_table : (o : Office) (old new : State) (channel : ℕ) (asked said : Table) (r : Result (Unit {0}) Fault)
    → said ≡ asked
    → OnOk r
    (HasCleanDisk new → (rows : Centre) → BeginsWith [] old rows
    → PrintsTable rows channel said o.written_old o.written_new)
    → IfErr r
    (λ fault. HasCleanDisk new → (rows : Centre) → BeginsWith [] old rows
    → TableHas rows channel said o.written_old o.written_new fault)
    → IfErr r PrintHas → ((refusal : Refusal) → r ≡ Err (Refused refusal) → Refuses old new refusal)
    → MatchResult r (λ _. (o.status ≡ 0) × (o.told_new ≡ o.told_old))
    (λ fault. (o.status ≡ 1) × Tells o.told_old o.told_new (line_of fault))
    → Concludes o
    ((rows : Centre) → (known_of old new).begins [] rows → PrintsTable rows channel asked o.written_old o.written_new)
    (λ fault. PrintHas fault × ((refusal : Refusal) → fault ≡ Refused refusal → Refuses old new refusal)
    × ((rows : Centre) → (known_of old new).begins [] rows
    → TableHas rows channel asked o.written_old o.written_new fault))
prints_table o old new channel asked said r is printed has one cause told =
    let P : Centre → Type 0 = λ rows. PrintsTable rows channel asked o.written_old o.written_new in
    let Has : Centre → Fault → Type 0 = λ rows fault. TableHas rows channel asked o.written_old o.written_new fault in
    concludes o ((rows : Centre) → (known_of old new).begins [] rows → P rows)
    (λ fault. PrintHas fault × ((refusal : Refusal) → fault ≡ Refused refusal → Refuses old new refusal)
    × ((rows : Centre) → (known_of old new).begins [] rows → Has rows fault)) r
    (on_begun old new P r
    (subst
    (λ t. OnOk r
    (HasCleanDisk new → (rows : Centre) → BeginsWith [] old rows
    → PrintsTable rows channel t o.written_old o.written_new)) is printed))
    (unprinted old new Has r one cause
    (subst
    (λ t. IfErr r
    (λ fault. HasCleanDisk new → (rows : Centre) → BeginsWith [] old rows
    → TableHas rows channel t o.written_old o.written_new fault)) is has))
    told

-- the rows are as they were
pub stays : (old new : State)
    → (HasCleanDisk new → (rows : Centre) → BeginsWith [] old rows → StandsFor new rows ⊎ LeavesFound old new)
    → (rows : Centre) → (known_of old new).begins [] rows → (known_of old new).stands rows ⊎ (known_of old new).left
stays old new same rows begins =
    elim (same begins.0 rows begins.1) [ inl stands ↦ inl stands | inr left ↦ inr (λ clean. left) ]

-- what was done is what the words ask for
pub does_over : {C : Type 0} (shown : C → State) (Holds : List ℕ → State → Type 0) (gives : Gives) (o : Office)
    (action : Action) (file : List ℕ) → file_of action ≡ Some file → ActsOver shown (Holds file) o action
    → DoesAll shown Holds gives o (Ok action)
does_over shown Holds gives o (asks.AnswerFile f rows) file is h =
    let same : f.now ≡ file = cc in subst (λ t. ActsOver shown (Holds t) o (asks.AnswerFile f rows)) (sym same) h
does_over shown Holds gives o (asks.Serve f port peers turns idle) file is h =
    let same : f.now ≡ file = cc in
    subst (λ t. ActsOver shown (Holds t) o (asks.Serve f port peers turns idle)) (sym same) h
does_over shown Holds gives o (asks.Table f channel table) file is h =
    let same : f.now ≡ file = cc in subst (λ t. ActsOver shown (Holds t) o (asks.Table f channel table)) (sym same) h
does_over shown Holds gives o (asks.Answer rows) file is h = absurd (let no : None ≡ Some file = is in cc)
does_over shown Holds gives o (asks.Check rate) file is h = absurd (let no : None ≡ Some file = is in cc)
does_over shown Holds gives o (asks.CheckFiles rate files) file is h = absurd (let no : None ≡ Some file = is in cc)
does_over shown Holds gives o (asks.Compare rate one other) file is h = absurd (let no : None ≡ Some file = is in cc)
does_over shown Holds gives o (asks.Events rate form) file is h = absurd (let no : None ≡ Some file = is in cc)
does_over shown Holds gives o (asks.Timecode rate label) file is h = absurd (let no : None ≡ Some file = is in cc)

pub does_without : {C : Type 0} (shown : C → State) (Holds : List ℕ → State → Type 0) (gives : Gives) (o : Office)
    (action : Action) → file_of action ≡ None → DoesAsked gives o (Ok action) → DoesAll shown Holds gives o (Ok action)
does_without shown Holds gives o (asks.AnswerFile f rows) is h = absurd (let no : Some f.now ≡ None = is in cc)
does_without shown Holds gives o (asks.Serve f port peers turns idle) is h =
    absurd (let no : Some f.now ≡ None = is in cc)
does_without shown Holds gives o (asks.Table f channel table) is h = absurd (let no : Some f.now ≡ None = is in cc)
does_without shown Holds gives o (asks.Answer rows) is h = h
does_without shown Holds gives o (asks.Check rate) is h = h
does_without shown Holds gives o (asks.CheckFiles rate files) is h = h
does_without shown Holds gives o (asks.Compare rate one other) is h = h
does_without shown Holds gives o (asks.Events rate form) is h = h
does_without shown Holds gives o (asks.Timecode rate label) is h = h

pub does_none : {C : Type 0} (shown : C → State) (Holds : List ℕ → State → Type 0) (gives : Gives) (o : Office)
    (asked : Result Action NoAction) (none : NoAction) → asked ≡ Err none → DoesAsked gives o asked
    → DoesAll shown Holds gives o asked
does_none shown Holds gives o asked none is h =
    subst (DoesAll shown Holds gives o) (sym is) (subst (DoesAsked gives o) is h)
