-- What the texts on windows mean.
use Rattle.std.proofs.Common.{◌≡◌, List, [], Result, Ok, Err, refl, sym, ap, ◌∙◌, arith}
use Rattle.sqlite_value.specs.Order.{Row}
use Rattle.sqlite_schema.specs.declared.command.Command.TheVariants.{Insert}
use Rattle.sqlite_schema.specs.declared.command.Source.TheVariants.{Values}
use Rattle.sqlite_resolve.specs.declared.compiled.Compiled.{Compiled}
use Rattle.sqlite_resolve.specs.declared.error.CompileError.{CompileError}
use Rattle.sqlite_resolve.specs.declared.error.CompileError.TheVariants.{NoSuchTable}
use Rattle.sqlite_tied.specs.Compute.{everything}
use Rattle.sqlite.specs.Listing.{understood, listing_schema}
use Rattle.sqlite.specs.State.{State, Shown}
use Rattle.station_tables_records.proofs.Selects.{Selects, Means}
use Rattle.station_tables_records.specs.Schema.{first_schema, centre_schema}
use Rattle.station_tables_records.proofs.Opens.{Opens}
use Rattle.station_tables_records.proofs.Texts.{are_both_at, spans_text, span_of_text, insert_span_text, new_span}
use Rattle.station_tables_records.proofs.Texts.{spans_query}

pub record SpanTexts : Type 0 where
  pub one : Selects centre_schema span_of_text (spans_query (are_both_at 1 2))
  pub whole : Opens centre_schema spans_text (spans_query [])
  pub insert : Means centre_schema insert_span_text (Insert 9 (Values new_span 5))

pub span_texts : SpanTexts
unfolding understood everything
span_texts = record {
  one = record { names = _; is = refl; plain = (refl, refl); unlisted = refl; reads = λ schema base. refl };
  whole =
      record {
        selects =
            record { names = _; is = refl; plain = (refl, refl); unlisted = refl; reads = λ schema base. refl };
        fits =
            record { whole = (omega arith, refl); typed = refl };
      };
  insert = record { is = refl; plain = (refl, refl) };
}

-- in version 1 there is no such table
spans_lacking : understood first_schema spans_text ≡ Err NoSuchTable
unfolding understood listing_schema everything
spans_lacking = refl

-- so they show nothing there
pub never_shown : (old new : State) → old.now.schema ≡ first_schema → (rows : List Row)
    → Shown spans_text [] old new rows → ⊥
unfolding Shown
never_shown old new has rows shown =
    let both : ◌≡◌ {A = Result Compiled CompileError} (Ok shown.0) (Err NoSuchTable) =
    sym shown.1.is ∙ ap (λ s. understood s spans_text) has ∙ spans_lacking in
    absurd (cc)
