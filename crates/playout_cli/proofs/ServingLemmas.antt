-- A stream that was served over a store, as one over the rows that the store was made with.
use Rattle.std.specs.Prelude.{◌==◌, map, Option, Result, Ok, Err, OnOk, OnErr, IfErr}
use Rattle.std.specs.Io.KnownBytes.{Appends}
use Rattle.std.proofs.lemmas.Bool.{eqb-true}
use Rattle.std.proofs.Common.{◌≡◌, length, List, [], ◌∷◌, ℕ, Bool, true, false, true≢false, inl, inr, refl, sym, ap}
use Rattle.std.proofs.Common.{◌∙◌, subst, arith}
use Rattle.sqlite.specs.State.{State}
use Rattle.channel_plan.specs.declared.plan.PlanRow.{PlanRow}
use Rattle.channel_plan.specs.declared.refusal.Code.TheVariants as code
use Rattle.channel_plan.specs.declared.refusal.Refusal.{Refusal}
use Rattle.channel_plan.specs.Refusal.{refused}
use Rattle.channel_view_model.specs.Centre.{Centre}
use Rattle.report_texts.specs.Output.{AppendsPart}
use Rattle.http_office_requests.specs.Request.{request_of}
use Rattle.http_office.specs.Run.{rows_left_by}
use Rattle.http_office.specs.Serving.{Serves}
use Rattle.http_office.proofs.RunLemmas.{stop_within}
use Rattle.http_office.specs.declared.serving.End.{End}
use Rattle.http_office.specs.declared.serving.ServeFault.{ServeFault}
use Rattle.playout_actions.specs.Answering.{ServesOn}
use Rattle.playout_actions.specs.Tables.{IsTableFault}
use Rattle.playout_lists.specs.Telling.{Told}
use Rattle.playout_peers.specs.Wire.{unknown}
use Rattle.playout_peers.specs.Peers.{ServesPeers, asked_in, answers_in}
use Rattle.playout_lists.specs.declared.fault.Fault.{Fault}
use Rattle.playout_lists.specs.declared.fault.Fault.TheVariants.{Label, List as OfList, Refused, NoChannel, Open}
use Rattle.playout_lists.specs.declared.fault.Fault.TheVariants.{Listen, Stream}
use Rattle.playout_lists.specs.declared.streams.StreamFault.TheVariants.{Write}
use Rattle.station_tables_opening.specs.Opens.{RefusesToOpen, RefusesToCreate}
use Rattle.playout_cli.specs.Refusing.{RefusesTables}
use Rattle.playout_cli.specs.Serving.{AreKept, PortHas, PortOverHas, ServesOver, PrintHas, IsPort, SaysPort}
use Rattle.playout_cli.specs.Serving.{line_of_serving}

pub serves_on : {S : Type 0} (is_clean : S → Type 0) (stands_for may_leave : S → Centre → Type 0)
    (leaves_sets : S → Type 0) (old new : S)
    (Begins Leaves MayLeave : Centre → Type 0) (readable_old readable_new written_old written_new : Option (List ℕ))
    (result : Result End ServeFault)
    → ((rows : Centre) → Begins rows → is_clean new)
    → ((rows : Centre) → is_clean old → Begins rows → stands_for old rows)
    → ((rows left : Centre) → Begins rows → stands_for new left → Leaves left)
    → ((rows found : Centre) → is_clean old → Begins rows → may_leave old found → found ≡ rows)
    → ((found : Centre) → MayLeave found → may_leave new found)
    → Serves is_clean stands_for may_leave leaves_sets old new readable_old readable_new written_old written_new result
    → ServesOn Begins Leaves MayLeave readable_old readable_new written_old written_new result
serves_on is_clean stands_for may_leave leaves_sets old new Begins Leaves MayLeave readable_old readable_new written_old
    written_new result clean stood stands alone may serves = record {
      pieces = serves.pieces;
      answers = serves.answers;
      served = serves.served;
      answered = λ rows begins.
          let now = clean rows begins in
          serves.did.answered now rows (stood rows (serves.did.clean now) begins);
      left = λ rows begins.
          let now = clean rows begins in
          stands rows (rows_left_by rows (map request_of serves.pieces) serves.answers) begins
          (serves.did.rows now rows (stood rows (serves.did.clean now) begins));
      stop = λ rows begins found left.
          let now = clean rows begins in
          let was = serves.did.clean now in
          stop_within (may_leave old) (λ begun. begun ≡ rows) (λ l. alone rows l was begins) rows
          (map request_of serves.pieces) serves.answers found
          (serves.did.stop now rows (stood rows was begins) found (may found left));
    }

-- with no plan row they are opened, with some they are made
pub opened_refused : (plan : List PlanRow) (old new : State) (refusal : Refusal) → (length plan == 0) ≡ true
    → RefusesToOpen old new refusal → RefusesTables plan old new refusal
opened_refused [] old new refusal empty h = h
opened_refused (row ∷ plan) old new refusal empty h = absurd (omega (arith, eqb-true (length (row ∷ plan)) 0 empty))

pub made_refused : (plan : List PlanRow) (old new : State) (refusal : Refusal) → (length plan == 0) ≡ false
    → RefusesToCreate plan old new refusal → RefusesTables plan old new refusal
made_refused [] old new refusal full h = absurd (true≢false full)
made_refused (row ∷ plan) old new refusal full h = h

-- what two clauses say of an error
pub err_where_on : {T E A : Type 0} {P X : E → Type 0} → (A → (e : E) → P e → X e) → (r : Result T E) → OnErr r A
    → IfErr r P → IfErr r X
err_where_on follows (Ok v) a p = tt
err_where_on follows (Err e) a p = follows a e p

-- ---- connections

pub serves_over : {S : Type 0} (is_clean : S → Type 0) (stands_for may_leave : S → Centre → Type 0)
    (leaves_sets : S → Type 0) (old new : S) (Begins Leaves MayLeave : Centre → Type 0)
    (most : ℕ) (told_old told_new : Told) (quiet : Bool)
    → ((rows : Centre) → Begins rows → is_clean new)
    → ((rows : Centre) → is_clean old → Begins rows → stands_for old rows)
    → ((left : Centre) → stands_for new left → Leaves left)
    → ((rows found : Centre) → is_clean old → Begins rows → may_leave old found → found ≡ rows)
    → ((found : Centre) → MayLeave found → may_leave new found)
    → ServesPeers is_clean stands_for may_leave leaves_sets old new (λ n. unknown) (λ n. unknown) most told_old told_new
    quiet → ServesOver Begins Leaves MayLeave most told_old told_new quiet
serves_over is_clean stands_for may_leave leaves_sets old new Begins Leaves MayLeave most told_old told_new quiet clean
    stood stands alone may s = record {
      done = s.done;
      ends = s.ends;
      are_served = s.are_served;
      answered = λ rows begins.
          let now = clean rows begins in
          s.did.answered now rows (stood rows (s.did.clean now) begins);
      left = λ rows begins.
          let now = clean rows begins in
          stands (rows_left_by rows (asked_in s.done) (answers_in s.done))
          (s.did.rows now rows (stood rows (s.did.clean now) begins));
      stop = λ rows begins found left.
          let now = clean rows begins in
          let was = s.did.clean now in
          stop_within (may_leave old) (λ begun. begun ≡ rows) (λ l. alone rows l was begins) rows (asked_in s.done)
          (answers_in s.done) found
          (s.did.stop now rows (stood rows was begins) found (may found left));
    }

-- a port over tables
pub port_over : (Refuses : Refusal → Type 0) (Begins Leaves MayLeave : Centre → Type 0) → AreKept Begins Leaves MayLeave
    → (e : Fault) → PortHas e → PortOverHas Refuses Begins Leaves MayLeave e
port_over Refuses Begins Leaves MayLeave kept e (inl is) =
    subst (PortOverHas Refuses Begins Leaves MayLeave) (sym is) kept
port_over Refuses Begins Leaves MayLeave kept e (inr is) =
    subst (PortOverHas Refuses Begins Leaves MayLeave) (sym is) (refl, kept)

-- what is written of a port, where its line is
pub says_line : (asked port : ℕ) (old new : Option (List ℕ)) (r : Result Bool Fault) → IsPort asked port
    → OnOk r (Appends old new (line_of_serving port)) → OnErr r (AppendsPart old new (line_of_serving port))
    → IfErr r (λ fault. fault ≡ Stream Write) → SaysPort asked old new r
says_line asked port old new (Ok quiet) is whole part fault = (port, is, whole)
says_line asked port old new (Err e) is whole part fault =
    subst (λ e. SaysPort asked old new (Err e)) (sym fault) (port, is, part)

-- a table's faults
pub table_has : (e : Fault) → IsTableFault e → PrintHas e
table_has NoChannel is = tt
table_has (Refused refusal) is = inr (inr is)
table_has (Stream fault) is = is
table_has (Label fault) is = absurd is
table_has (OfList fault) is = absurd is
table_has Open is = absurd is
table_has Listen is = absurd is

-- what is known once its premises are
pub ok_where : {T E C X : Type 0} (B P : X → Type 0) (r : Result T E) → (C → (x : X) → B x → OnOk r (P x))
    → OnOk r (C → (x : X) → B x → P x)
ok_where B P (Ok v) h = h
ok_where B P (Err e) h = tt

pub err_where : {T E C X : Type 0} (B : X → Type 0) (P : X → E → Type 0) (r : Result T E)
    → (C → (x : X) → B x → IfErr r (P x)) → IfErr r (λ e. C → (x : X) → B x → P x e)
err_where B P (Ok v) h = tt
err_where B P (Err e) h = h
