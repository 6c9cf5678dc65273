-- Why a count of rows fails that its text fits: for want of room alone.
use Rattle.std.proofs.Common.{◌≡◌, ◌⊎◌, inl, inr, ℕ, true≢false, List, [], Option, None, Some, Ok, IsTrue, refl, sym}
use Rattle.std.proofs.Common.{ap, ◌∙◌, subst, subst₂, arith}
use Rattle.std.specs.Prelude.{IsSome, Any}
use Rattle.sqlite_sql.specs.Term.{Env}
use Rattle.sqlite_sql.specs.Group.{Aggregate, Overflows, value_over}
use Rattle.sqlite_typing.specs.Types.{accepts_program}
use Rattle.sqlite_schema.specs.declared.schema.Schema.{Schema}
use Rattle.sqlite_schema.specs.declared.command.Command.TheVariants.{Select}
use Rattle.sqlite_schema.specs.declared.command.Returning.{Returning}
use Rattle.sqlite_resolve.specs.declared.compiled.Compiled.{Compiled}
use Rattle.sqlite.specs.declared.error.Error.{Error}
use Rattle.sqlite.specs.Clock.{timed}
use Rattle.sqlite.specs.Effect.{Database, RefusesQuery, RefusesToRead}
use Rattle.sqlite.specs.Listing.{understood, reads_listing, IsSourceOf}
use Rattle.sqlite.specs.State.{State, FailsToShow, FailsToQuery, IsNotRun, IsNoStatement, IsTooLate}
use Rattle.sqlite.proofs.Callers.{IsPlain, command_of}
use Rattle.station_tables_records.specs.Table.{IsShortage}
use Rattle.station_tables_records.proofs.Opens.{Opens}
use Rattle.station_tables_records.proofs.Selects.{IsWhole}
use Rattle.station_tables_statements.proofs.PartTexts.{count_query, rows_counted}

-- a count has a value in each group
counts_all : (all : List Env) → Overflows (Some rows_counted) all → ⊥
counts_all all lost = counts_one lost.0 lost.2
  where
    only : Aggregate → Type 0
    only a = (group : List Env) → value_over group a ≡ None → ⊥

    one : (group : List Env) → Any (λ a. value_over group a ≡ None) rows_counted.aggregates → ⊥
    one group h =
        let first : h.0 ≡ 0 = omega (arith, h.2) in
        let none = subst (λ a. value_over group a ≡ None) (sym (rw first at h.3)) h.4 in
        absurd (cc)

    counts_one : (groups : List (List Env))
        → Any (λ group. Any (λ a. value_over group a ≡ None) rows_counted.aggregates) groups → ⊥
    counts_one groups h = one h.1 h.4

module _ (old new : State) (schema : Schema) (text : List ℕ) (tree : ℕ) (opens : Opens schema text (count_query tree))
  where
    no_other_statement : (e : Error) → old.now.schema ≡ schema → IsNoStatement old text [] e → ⊥
    no_other_statement e has (inl h) = subst IsPlain (ap (λ s. understood s text) (sym has) ∙ h.1) opens.selects.plain
    no_other_statement e has (inr h) =
        let known : understood schema text ≡ Ok h.0 = ap (λ s. understood s text) (sym has) ∙ h.1 in
        let one = subst (IsWhole text []) known opens.fits.whole in
        let bare = subst IsPlain known opens.selects.plain in
        elim h.2 [
          | inl more ↦ more.0 one.0
          | inr (inl count) ↦ count.0 one.1
          | inr (inr clock) ↦ clock.0 bare.1
        ]

    refused_short : (limit : Option ℕ) (db : Database) (e : Error) → db.schema ≡ schema
        → RefusesQuery limit db (record { lets = []; body = count_query tree }) [] e → IsShortage e
    refused_short limit db e has (inl h) =
        absurd
        (true≢false (sym opens.fits.typed ∙ ap (λ s. accepts_program s [] (count_query tree) []) (sym has) ∙ h.1))
    refused_short limit db e has (inr (inl h)) =
        elim h.1 [ inl grouped ↦ absurd (counts_all _ grouped) | inr folded ↦ absurd folded.4 ]
    refused_short limit db e has (inr (inr h)) = inr h.0

    shows_short : (c : Compiled) (is_so : IsTrue old.is_open → understood schema text ≡ Ok c)
        → (IsTrue old.is_open → old.now.schema ≡ schema) → (e : Error) (now : ℕ)
        (returning : Option Returning) → c.returning ≡ returning
        → FailsToShow old new text c (timed [] c.formats now) e returning → IsShortage e
    shows_short c is_so has e now None none h =
        let was = h.3.0.was_open in
        let known = is_so was in
        let bare = subst IsPlain known opens.selects.plain in
        let db : h.0 ≡ old.now =
        subst (λ b. IsSourceOf b old.now h.0) (ap (λ s. reads_listing s text) (has was) ∙ opens.selects.unlisted) h.1
        in
        let given : timed [] c.formats now ≡ [] = rw bare.1 refl in
        let refuses : RefusesToRead old.step_limit
        (Select (record { lets = []; body = count_query tree }) opens.selects.names) h.0 [] e =
        subst₂ (λ k ps. RefusesToRead old.step_limit k h.0 ps e) (sym (ap command_of known) ∙ opens.selects.is) given
        h.2
        in
        refused_short old.step_limit h.0 e (ap (λ (d : Database). d.schema) db ∙ has was) refuses
    shows_short c is_so has e now (Some what) some (inl h) =
        let bare = subst IsPlain (is_so h.1.0.was_open) opens.selects.plain in
        absurd (let no = sym bare.0 ∙ some in cc)
    shows_short c is_so has e now (Some what) some (inr failed) = inl (failed.0, failed.1)

    pub count_fails_short : (IsTrue old.is_open → old.now.schema ≡ schema) → (e : Error)
        → FailsToQuery text [] old new e ⊎ IsTooLate text [] old new e → IsShortage e
    unfolding FailsToQuery IsNotRun
    count_fails_short has e (inr late) =
        let bare =
        subst IsPlain (sym (ap (λ s. understood s text) (has late.5.0.was_open)) ∙ late.1.is) opens.selects.plain in
        absurd (true≢false (sym (subst IsSome bare.0 late.2)))
    count_fails_short has e (inl (inl (inl none))) = absurd (no_other_statement e (has none.1.0.was_open) none.0)
    count_fails_short has e (inl (inl (inr failed))) = inl (failed.0, failed.1)
    count_fails_short has e (inl (inr h)) =
        shows_short h.0 (λ o. ap (λ s. understood s text) (sym (has o)) ∙ h.1.is) has e h.1.now h.0.returning refl h.2

-- the same over one of two schemas
module _ (old new : State) (schema other : Schema) (text : List ℕ) (tree : ℕ)
    (opens : Opens schema text (count_query tree)) (opens_too : Opens other text (count_query tree)) where
  by_schema : (old.now.schema ≡ schema) ⊎ (old.now.schema ≡ other) → (e : Error)
      → FailsToQuery text [] old new e ⊎ IsTooLate text [] old new e → IsShortage e
  by_schema (inl has) e fails = count_fails_short old new schema text tree opens (λ _. has) e fails
  by_schema (inr has) e fails = count_fails_short old new other text tree opens_too (λ _. has) e fails

  pub count_fails_either : (IsTrue old.is_open → (old.now.schema ≡ schema) ⊎ (old.now.schema ≡ other)) → (e : Error)
      → FailsToQuery text [] old new e ⊎ IsTooLate text [] old new e → IsShortage e
  unfolding FailsToQuery IsNotRun
  count_fails_either has e (inr late) = by_schema (has late.5.0.was_open) e (inr late)
  count_fails_either has e (inl (inl (inl none))) = by_schema (has none.1.0.was_open) e (inl (inl (inl none)))
  count_fails_either has e (inl (inl (inr failed))) = inl (failed.0, failed.1)
  count_fails_either has e (inl (inr h)) = by h.1.now h.0.returning h.2 (λ o. by_schema (has o) e (inl (inr h)))
    where
      by : (now : ℕ) (returning : Option Returning)
          → FailsToShow old new text h.0 (timed [] h.0.formats now) e returning → (IsTrue old.is_open → IsShortage e)
          → IsShortage e
      by now None fails then = then fails.3.0.was_open
      by now (Some what) (inl fails) then = then fails.1.0.was_open
      by now (Some what) (inr failed) then = inl (failed.0, failed.1)
