-- A table that is there isn't made again.
use Rattle.std.proofs.Common.{◌≡◌, ℕ, List, [], Result, Ok, Err, refl, sym, ap, ◌∙◌}
use Rattle.sqlite_resolve.specs.declared.compiled.Compiled.{Compiled}
use Rattle.sqlite_resolve.specs.declared.error.CompileError.{CompileError}
use Rattle.sqlite_resolve.specs.declared.error.CompileError.TheVariants.{Exists}
use Rattle.sqlite_schema.specs.declared.schema.Schema.{Schema}
use Rattle.sqlite_tied.specs.Compute.{everything}
use Rattle.sqlite.specs.Listing.{understood}
use Rattle.sqlite.specs.State.{State, ExecutesInside, ExecutesIn}
use Rattle.station_tables_records.specs.Schema.{centre_schema}
use Rattle.station_tables_records.proofs.Texts.{create_office_text, create_span_text}

pub office_there : understood centre_schema create_office_text ≡ Err Exists
unfolding understood everything
office_there = refl

pub span_there : understood centre_schema create_span_text ≡ Err Exists
unfolding understood everything
span_there = refl

module _ (old new : State) (text : List ℕ) (schema : Schema) (fault : CompileError) where
  -- a text that isn't understood doesn't run
  pub never_runs : understood schema text ≡ Err fault → old.now.schema ≡ schema → (count : ℕ)
      → ExecutesInside 0 text [] old new (Ok count) → ⊥
  unfolding ExecutesIn
  never_runs none has count ran =
      let both : ◌≡◌ {A = Result Compiled CompileError} (Ok ran.0.0) (Err fault) =
      sym ran.0.1.is ∙ ap (λ s. understood s text) has ∙ none in
      absurd (cc)
