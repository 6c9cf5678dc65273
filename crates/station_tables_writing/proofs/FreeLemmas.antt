-- Why the table of windows isn't made beside those of version 1: never for its name.
use Rattle.std.proofs.Common.{◌≡◌, ◌⊎◌, inl, inr, ℕ, true, false, true≢false, [], Option, None, Some, Result, Ok, Err}
use Rattle.std.proofs.Common.{IsTrue, refl, sym, ap, ◌∙◌, subst}
use Rattle.sqlite_trees.specs.declared.error.StoreError.{StoreError}
use Rattle.sqlite_trees.specs.declared.error.StoreError.TheVariants as store
use Rattle.sqlite_value.specs.Order.{Row}
use Rattle.sqlite_schema.specs.declared.schema.Index.{Index}
use Rattle.sqlite_schema.specs.declared.schema.Table.{Table}
use Rattle.sqlite_schema.specs.declared.schema.Schema.{Schema}
use Rattle.sqlite_schema.specs.declared.command.Command.{Command}
use Rattle.sqlite_schema.specs.declared.command.Command.TheVariants.{CreateTable}
use Rattle.sqlite_resolve.specs.declared.compiled.Compiled.{Compiled}
use Rattle.sqlite_resolve.specs.declared.error.CompileError.{CompileError}
use Rattle.sqlite_catalog.specs.declared.error.Refusal.{Refusal}
use Rattle.sqlite_catalog.specs.declared.error.Refusal.TheVariants as why
use Rattle.sqlite_catalog.specs.Calls.{RefusesTable}
use Rattle.sqlite_catalog.specs.Change.{automatics, created, is_used}
use Rattle.sqlite_tied.specs.Compute.{everything}
use Rattle.sqlite.specs.declared.error.Error.{Error}
use Rattle.sqlite.specs.declared.error.Error.TheVariants.{SqliteFailure}
use Rattle.sqlite.specs.declared.error.ErrorCode.TheVariants.{TransactionState}
use Rattle.sqlite.specs.Clock.{timed}
use Rattle.sqlite.specs.Effect.{Database, alter_error}
use Rattle.sqlite.specs.declared.run.Mode.{Mode}
use Rattle.std.proofs.lemmas.Bool.{cases_Bool}
use Rattle.std.specs.Prelude.{Bool, MatchBool, IfErr}
use Rattle.sqlite_rules.specs.Lists.{Has}
use Rattle.sqlite.specs.Does.{Does, MakesTable, MakesSequence, lacks_sequence, sequence_text}
use Rattle.sqlite.specs.Rows.{Then, Gives}
use Rattle.sqlite.specs.Listing.{understood}
use Rattle.sqlite.specs.State.{State, ExecutesIn, ExecutesInside, IsNotRun, IsNoStatement, IsMisplaced, RunsCommand}
use Rattle.sqlite.specs.State.{mode_of, shows_rows, store_error, text_of}
use Rattle.sqlite.proofs.Callers.{IsPlain, command_of, statement_of}
use Rattle.station_tables_records.specs.Schema.{span, unplaced, first_schema}
use Rattle.station_tables_records.proofs.Texts.{create_span_text}
use Rattle.station_tables_records.proofs.TextLemmas.{create_span_is}
use Rattle.station_tables_writing.specs.Tables.{is_taken}

as_said : {e x : Error} → e ≡ x → is_taken x ≡ false → is_taken e ≡ false
as_said is none = ap is_taken is ∙ none

of_the_store : (cause : StoreError) → is_taken (store_error cause) ≡ false
of_the_store store.OutOfMemory = refl
of_the_store store.Io = refl
of_the_store store.Corrupt = refl
of_the_store store.Full = refl
of_the_store store.Broken = refl
of_the_store store.Unstorable = refl

free_name : is_used first_schema (unplaced span).name ≡ false
unfolding everything
free_name = refl

free_index : (index : Index) → Has (automatics (unplaced span) 0 0 (unplaced span).uniques) index
    → is_used first_schema index.name ≡ false
unfolding everything
free_index index (inl is) = ap (λ (i : Index). is_used first_schema i.name) is
free_index index (inr none) = absurd none

-- no table or index has one of its names
never_used : RefusesTable first_schema create_span_text why.NameTaken → ⊥
never_used h =
    let both : ◌≡◌ {A = Result Table CompileError} (Ok h.0) (Ok (unplaced span)) = sym h.1 ∙ create_span_is.defines in
    let one : h.0 ≡ unplaced span = cc in
    elim (subst
    (λ (t : Table). (is_used first_schema t.name ≡ true)
    ⊎ ((index : Index) × Has (automatics t 0 0 t.uniques) index × (is_used first_schema index.name ≡ true))) one
    h.2) [
      | inl used ↦ true≢false (sym used ∙ free_name)
      | inr index ↦ true≢false (sym index.2 ∙ free_index index.0 index.1)
    ]

of_the_table : (reason : Refusal) → RefusesTable first_schema create_span_text reason
    → is_taken (alter_error reason) ≡ false
of_the_table (why.Invalid e) h =
    absurd
    (let both : ◌≡◌ {A = Result Table CompileError} (Ok (unplaced span)) (Err e) = sym create_span_is.defines ∙ h in cc)
of_the_table why.NameTaken h = absurd (never_used h)
of_the_table why.BadName h = refl
of_the_table why.TooBig h = refl
of_the_table why.BadKey h = refl
of_the_table why.BadText h = refl
of_the_table (why.Violates rule) h = refl

error_of : {A : Type 0} {e x : Error} → ◌≡◌ {A = Result A Error} (Err e) (Err x) → e ≡ x
error_of is = cc

module _ (old new : State) where
  -- the database refuses it for another reason
  not_defined : (db : Database) → db.schema ≡ first_schema → (e : Error) → MakesTable create_span_text db (Err (Some e))
      → is_taken e ≡ false
  not_defined db has e (inl h) = as_said h.1 refl
  not_defined db has e (inr h) =
      as_said h.2 (of_the_table h.0 (subst (λ s. RefusesTable s create_span_text h.0) has h.1))

  same_stop : {A : Type 0} {e : Error} {stop : Option Error}
      → ◌≡◌ {A = Result A (Option Error)} (Err (Some e)) (Err stop) → stop ≡ Some e
  same_stop is = cc

  not_made : (db : Database) → db.schema ≡ first_schema → (e : Error)
      → Then (MakesTable create_span_text db) MakesSequence (Err (Some e)) → is_taken e ≡ false
  not_made db has e (inl h) =
      not_defined db has e (subst (λ stop. MakesTable create_span_text db (Err stop)) (same_stop h.2) h.1)
  not_made db has e (inr h) =
      let both : ◌≡◌ {A = Result Table CompileError} (Ok h.1.table) (Ok (unplaced span)) =
      sym h.1.defined ∙ create_span_is.defines in
      let one : h.1.table ≡ unplaced span = cc in
      let made : h.0.schema ≡ created first_schema (unplaced span) =
      h.1.is ∙ ap (λ (s : Schema). created s h.1.table) has ∙ ap (created first_schema) one in
      let none : lacks_sequence h.0.schema ≡ false = ap lacks_sequence made ∙ create_span_is.uncounted in
      let no : Gives h.0 (Err (Some e)) =
      subst (λ b. MatchBool b (MakesTable sequence_text h.0 (Err (Some e))) (Gives h.0 (Err (Some e)))) none h.2 in
      absurd (cc)

  not_done : (limit : Option ℕ) (mode : Mode) (params : Row) (db : Database) → db.schema ≡ first_schema → (e : Error)
      → Does limit mode params db create_span_text None CreateTable (Err (Some e)) → is_taken e ≡ false
  not_done limit mode params db has e (inl h) =
      not_made db has e
      (subst (λ stop. Then (MakesTable create_span_text db) MakesSequence (Err stop)) (same_stop h.2) h.1)
  not_done limit mode params db has e (inr h) = absurd (let no = h.2 in cc)

  no_statement : old.now.schema ≡ first_schema → (e : Error) → IsNoStatement old create_span_text [] e
      → is_taken e ≡ false
  no_statement has e (inl h) =
      let known : understood first_schema create_span_text ≡ Err h.0 =
      ap (λ s. understood s create_span_text) (sym has) ∙ h.1 in
      absurd (subst IsPlain known create_span_is.plain)
  no_statement has e (inr h) = elim h.2 [
    | inl more ↦ as_said more.1 refl
    | inr (inl count) ↦ as_said count.1 refl
    | inr (inr clock) ↦ as_said clock.1 refl
  ]

  module _ (has : IsTrue old.is_open → old.now.schema ≡ first_schema) where
    not_run : (e : Error) → IsNotRun old new create_span_text [] e → is_taken e ≡ false
    unfolding IsNotRun
    not_run e (inl h) = no_statement (has h.1.0.was_open) e h.0
    not_run e (inr h) = as_said h.1 (of_the_store h.0)

    misplaced : (c : Command) (e : Error) → IsMisplaced old c e → is_taken e ≡ false
    misplaced c e (inl h) = as_said h.0 refl
    misplaced c e (inr h) = as_said h.0 refl

    commanded : (c : Compiled) → (IsTrue old.is_open → understood old.now.schema create_span_text ≡ Ok c)
        → (e : Error) (params : Row) → RunsCommand old new create_span_text c params (Err e) → is_taken e ≡ false
    commanded c is e params (inl (inl h, same)) = misplaced c.command e h
    commanded c is e params (inl (inr h, same)) =
        let open_one = same.0.was_open in
        let known : understood first_schema create_span_text ≡ Ok c =
        ap (λ s. understood s create_span_text) (sym (has open_one)) ∙ is open_one in
        let bare = subst IsPlain known create_span_is.plain in
        let one : c.command ≡ CreateTable = ap command_of (sym known) ∙ create_span_is.is in
        let text : text_of create_span_text c ≡ create_span_text =
        ap (statement_of create_span_text) (sym known) ∙ create_span_is.kept in
        not_done old.step_limit (mode_of old) params old.now (has open_one) e
        (subst (λ k. Does old.step_limit (mode_of old) params old.now create_span_text None k (Err (Some e))) one
        (subst (λ r. Does old.step_limit (mode_of old) params old.now create_span_text r c.command (Err (Some e)))
        bare.0
        (subst (λ t. Does old.step_limit (mode_of old) params old.now t c.returning c.command (Err (Some e))) text
        h.1)))
    commanded c is e params (inr h) = as_said h.1 (of_the_store h.0)

    -- it fails for another reason
    never_taken : (e : Error) → ExecutesInside 0 create_span_text [] old new (Err e) → is_taken e ≡ false
    unfolding ExecutesIn
    never_taken e (inr h) = as_said h.1 refl
    never_taken e (inl (inl h, kept)) = not_run e h
    never_taken e (inl (inr h, kept)) = elim (cases_Bool (shows_rows false h.0)) [
      | inl shows ↦ (let said = (rw shows at h.2).0 in ap is_taken (error_of said))
      | inr runs ↦ commanded h.0 (λ o. h.1.is) e (timed [] h.0.formats h.1.now) (rw runs at h.2)
    ]

-- what a call says that runs it
pub free_of : (old new : State) → (IsTrue old.is_open → old.now.schema ≡ first_schema) → (result : Result ℕ Error)
    → (old.in_transaction ≡ false → result ≡ Err (SqliteFailure TransactionState))
    → (IsTrue old.in_transaction → ExecutesInside 0 create_span_text [] old new result)
    → IfErr result (λ e. is_taken e ≡ false)
free_of old new has (Ok count) late runs = tt
free_of old new has (Err e) late runs = go old.in_transaction refl
  where
    go : (b : Bool) → old.in_transaction ≡ b → is_taken e ≡ false
    go true is = never_taken old new has e (runs is)
    go false is = ap is_taken (error_of (late is))
