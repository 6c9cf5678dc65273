-- The table of windows beside those of version 1, whatever rows these have.
use Rattle.std.proofs.Common.{◌≡◌, ℕ, List, [], ◌∷◌, true, Ok, None, ap, ◌∙◌, subst}
use Rattle.std.specs.List.{AllByRecursion}
use Rattle.sqlite_schema.specs.declared.schema.Table.{Table}
use Rattle.sqlite_schema.specs.declared.schema.Schema.{Schema}
use Rattle.sqlite_schema.specs.declared.command.Command.TheVariants.{CreateTable}
use Rattle.sqlite_catalog.specs.Change.{created, next_tree, KeepsRows}
use Rattle.sqlite.specs.Does.{lacks_sequence}
use Rattle.sqlite.specs.Effect.{IsDatabase}
use Rattle.sqlite.specs.State.{State, Shows, Writes, mode_of, ExecutesInside}
use Rattle.sqlite.proofs.Callers.{runs_as}
use Rattle.station_tables_records.proofs.StatementLemmas.{does_create}
use Rattle.station_tables_records.specs.Schema.{span, unplaced, first_schema, centre_schema}
use Rattle.station_tables_records.proofs.Texts.{create_span_text}
use Rattle.station_tables_records.proofs.TextLemmas.{create_span_is, tree_of_span}

-- on the tables of version 1 that of windows was added, without a row, and left the others as they were.
pub record AddsSpans (old new : State) : Type 0 where
  pub schema_is : new.now.schema ≡ centre_schema
  pub empty : new.now.trees span.tree ≡ []
  pub others : AllByRecursion (λ t. new.now.trees t.tree ≡ old.now.trees t.tree) first_schema.tables
  pub sound : IsDatabase new.now
  pub shown : Shows old new new.now old.committed true

module _ (old new : State) where
  kept : (tables : List Table) → KeepsRows tables old.now.trees new.now.trees
      → AllByRecursion (λ t. new.now.trees t.tree ≡ old.now.trees t.tree) tables
  kept [] rows = tt
  kept (t ∷ tables) rows = (rows.0, kept tables rows.1)

  pub adds_spans : old.now.schema ≡ first_schema → (count : ℕ) → ExecutesInside 0 create_span_text [] old new (Ok count)
      → AddsSpans old new
  adds_spans has count ran =
      let w =
      subst (λ t. Writes old new None CreateTable t [] count) create_span_is.kept
      (runs_as create_span_text [] old new first_schema has CreateTable create_span_is.is create_span_is.plain count
      ran.0) in
      let made =
      subst
      (λ (s : Schema). (new.now.schema ≡ created s (unplaced span)) × (new.now.trees (next_tree s) ≡ [])
      × KeepsRows s.tables old.now.trees new.now.trees) has
      (does_create old.step_limit (mode_of old) [] old.now create_span_text (unplaced span) w.tally new.now
      create_span_is.defines
      (ap (λ (s : Schema). lacks_sequence (created s (unplaced span))) has ∙ create_span_is.uncounted) w.changed) in
      record {
        schema_is = made.0 ∙ create_span_is.makes;
        empty =
            subst (λ k. new.now.trees k ≡ []) tree_of_span made.1;
        others = kept first_schema.tables made.2;
        sound =
            w.sound;
        shown = ran.1;
      }
