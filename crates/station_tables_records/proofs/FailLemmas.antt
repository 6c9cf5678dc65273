-- Why a query on one table fails that its text fits: for want of room alone.
use Rattle.std.proofs.Common.{◌≡◌, ◌⊎◌, inl, inr, ℕ, true≢false, List, [], Option, None, Some, Ok, IsTrue, refl, sym}
use Rattle.std.proofs.Common.{ap, ◌∙◌, subst, subst₂, append-nil}
use Rattle.std.specs.Prelude.{IsSome}
use Rattle.sqlite_value.specs.declared.keys.Key.{Key}
use Rattle.sqlite_value.specs.Order.{Row}
use Rattle.sqlite_sql.specs.Term.{Term}
use Rattle.sqlite_sql.specs.Query.{Query}
use Rattle.sqlite_typing.specs.Types.{accepts_program}
use Rattle.sqlite_schema.specs.declared.schema.Schema.{Schema}
use Rattle.sqlite_schema.specs.declared.command.Command.TheVariants.{Select}
use Rattle.sqlite_schema.specs.declared.command.Returning.{Returning}
use Rattle.sqlite_resolve.specs.declared.compiled.Compiled.{Compiled}
use Rattle.sqlite.specs.declared.error.Error.{Error}
use Rattle.sqlite.specs.Clock.{timed}
use Rattle.sqlite.specs.Effect.{Database, RefusesQuery, RefusesToRead}
use Rattle.sqlite.specs.Listing.{understood, reads_listing, IsSourceOf}
use Rattle.sqlite.specs.State.{State, FailsToShow, FailsToQuery, IsNotRun, IsNoStatement, IsTooLate}
use Rattle.sqlite.proofs.Callers.{IsPlain, command_of}
use Rattle.station_tables_records.specs.Plain.{plain_query}
use Rattle.station_tables_records.specs.Table.{IsShortage}
use Rattle.station_tables_records.proofs.Selects.{Selects, IsWhole, Fits}

module _ (old new : State) (schema : Schema) (text : List ℕ) (params : Row) (tree : ℕ) (terms project : List Term)
    (order : List (Term × Key)) where
  abbrev query : Query
  query = plain_query tree terms project order

  module _ (selects : Selects schema text query) (fits : Fits schema text params query) where
    no_other_statement : (e : Error) → old.now.schema ≡ schema → IsNoStatement old text params e → ⊥
    no_other_statement e has (inl h) = subst IsPlain (ap (λ s. understood s text) (sym has) ∙ h.1) selects.plain
    no_other_statement e has (inr h) =
        let known : understood schema text ≡ Ok h.0 = ap (λ s. understood s text) (sym has) ∙ h.1 in
        let one = subst (IsWhole text params) known fits.whole in
        let bare = subst IsPlain known selects.plain in
        elim h.2 [
          | inl more ↦ more.0 one.0
          | inr (inl count) ↦ count.0 one.1
          | inr (inr clock) ↦ clock.0 bare.1
        ]

    refused_short : (limit : Option ℕ) (db : Database) (e : Error) → db.schema ≡ schema
        → RefusesQuery limit db (record { lets = []; body = query }) params e → IsShortage e
    refused_short limit db e has (inl h) =
        absurd (true≢false (sym fits.typed ∙ ap (λ s. accepts_program s [] query params) (sym has) ∙ h.1))
    refused_short limit db e has (inr (inl h)) =
        elim h.1 [ inl grouped ↦ absurd grouped | inr folded ↦ absurd folded.4 ]
    refused_short limit db e has (inr (inr h)) = inr h.0

    shows_short : (c : Compiled) (is_so : IsTrue old.is_open → understood schema text ≡ Ok c)
        → (IsTrue old.is_open → old.now.schema ≡ schema) → (e : Error) (now : ℕ)
        (returning : Option Returning) → c.returning ≡ returning
        → FailsToShow old new text c (timed params c.formats now) e returning → IsShortage e
    shows_short c is_so has e now None none h =
        let was = h.3.0.was_open in
        let known = is_so was in
        let bare = subst IsPlain known selects.plain in
        let db : h.0 ≡ old.now =
        subst (λ b. IsSourceOf b old.now h.0) (ap (λ s. reads_listing s text) (has was) ∙ selects.unlisted) h.1 in
        let given : timed params c.formats now ≡ params = rw bare.1 (append-nil params) in
        let refuses : RefusesToRead old.step_limit (Select (record { lets = []; body = query }) selects.names) h.0
        params e =
        subst₂ (λ k ps. RefusesToRead old.step_limit k h.0 ps e) (sym (ap command_of known) ∙ selects.is) given h.2 in
        refused_short old.step_limit h.0 e (ap (λ (d : Database). d.schema) db ∙ has was) refuses
    shows_short c is_so has e now (Some what) some (inl h) =
        let bare = subst IsPlain (is_so h.1.0.was_open) selects.plain in
        absurd (let no = sym bare.0 ∙ some in cc)
    shows_short c is_so has e now (Some what) some (inr failed) = inl (failed.0, failed.1)

    pub fails_short : (IsTrue old.is_open → old.now.schema ≡ schema) → (e : Error)
        → FailsToQuery text params old new e ⊎ IsTooLate text params old new e → IsShortage e
    unfolding FailsToQuery IsNotRun
    fails_short has e (inr late) =
        let bare =
        subst IsPlain (sym (ap (λ s. understood s text) (has late.5.0.was_open)) ∙ late.1.is) selects.plain in
        absurd (true≢false (sym (subst IsSome bare.0 late.2)))
    fails_short has e (inl (inl (inl none))) = absurd (no_other_statement e (has none.1.0.was_open) none.0)
    fails_short has e (inl (inl (inr failed))) = inl (failed.0, failed.1)
    fails_short has e (inl (inr h)) =
        shows_short h.0 (λ o. ap (λ s. understood s text) (sym (has o)) ∙ h.1.is) has e h.1.now h.0.returning refl h.2

-- the same over one of two schemas
module _ (old new : State) (one other : Schema) (text : List ℕ) (params : Row) (tree : ℕ) (terms project : List Term)
    (order : List (Term × Key)) where
  abbrev query_of_both : Query
  query_of_both = plain_query tree terms project order

  module _ (selects : Selects one text query_of_both) (fits : Fits one text params query_of_both)
      (selects_too : Selects other text query_of_both) (fits_too : Fits other text params query_of_both) where
    by_schema : (old.now.schema ≡ one) ⊎ (old.now.schema ≡ other) → (e : Error)
        → FailsToQuery text params old new e ⊎ IsTooLate text params old new e → IsShortage e
    by_schema (inl has) e fails =
        fails_short old new one text params tree terms project order selects fits (λ _. has) e fails
    by_schema (inr has) e fails =
        fails_short old new other text params tree terms project order selects_too fits_too (λ _. has) e fails

    pub fails_either : (IsTrue old.is_open → (old.now.schema ≡ one) ⊎ (old.now.schema ≡ other)) → (e : Error)
        → FailsToQuery text params old new e ⊎ IsTooLate text params old new e → IsShortage e
    unfolding FailsToQuery IsNotRun
    fails_either has e (inr late) = by_schema (has late.5.0.was_open) e (inr late)
    fails_either has e (inl (inl (inl none))) = by_schema (has none.1.0.was_open) e (inl (inl (inl none)))
    fails_either has e (inl (inl (inr failed))) = inl (failed.0, failed.1)
    fails_either has e (inl (inr h)) = by h.1.now h.0.returning h.2 (λ o. by_schema (has o) e (inl (inr h)))
      where
        by : (now : ℕ) (returning : Option Returning)
            → FailsToShow old new text h.0 (timed params h.0.formats now) e returning
            → (IsTrue old.is_open → IsShortage e) → IsShortage e
        by now None fails then = then fails.3.0.was_open
        by now (Some what) (inl fails) then = then fails.1.0.was_open
        by now (Some what) (inr failed) then = inl (failed.0, failed.1)
