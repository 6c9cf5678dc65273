-- Rows of `span` and the windows that they read as.
use Rattle.std.proofs.Common.{◌≡◌, ℕ, ℤ, pos, true, [], ◌∷◌, refl, is_eq}
use Rattle.sqlite_value.specs.declared.value.Value.TheVariants.{Null, Int}
use Rattle.sqlite_value.specs.Order.{Row}
use Rattle.sqlite_rules.specs.Cast.{cast_row}
use Rattle.vault_core.specs.Window.{is_window}
use Rattle.station_tables_records.specs.declared.offer_rows.SpanRow.{SpanRow}
use Rattle.station_tables_records.specs.MadeOffers.{span_cmp, is_span}
use Rattle.station_tables_records.specs.Plain.{keeps}
use Rattle.station_tables_records.proofs.StatementLemmas.{cast_null, cast_int}
use Rattle.station_tables_records.specs.Schema.{span}
use Rattle.station_tables_records.proofs.Texts.{are_both_at, span_columns}
use Rattle.station_tables_records.specs.Values.{of_nat}
use Rattle.station_tables_records.specs.SpanRows.{span_of, span_row, IsSpanRow, span_table}
use Rattle.station_tables_records.proofs.ColumnLemmas.{columns_are, has_put}
use Rattle.station_tables_records.proofs.NumberedLemmas.{NumbersRows, numbered_rows, one_is, row_ties}
pub use Rattle.station_tables_records.specs.AreTables.{span_table_is}

-- a row that was put reads as its window
pub span_again : (id : ℤ) (t : ℕ × SpanRow) → span_of (Int id ∷ span_row t) ≡ t
span_again id t = refl

pub is_span_row : (id : ℤ) (t : ℕ × SpanRow) → is_window t.1.window.first t.1.window.last ≡ true
    → IsSpanRow (Int id ∷ span_row t)
is_span_row id t window = (has_put span_of span_row id t t refl refl, window)

-- what the texts show of it
pub span_rows : NumbersRows (λ (t : SpanRow). t.offer) span_table span_columns
span_rows =
    numbered_rows span_table span_row span_table_is (λ a b. refl) (λ params r is. is) (λ params r is. is)
    (λ params r. refl) (λ params r. refl) (λ id r is. refl) (λ params r is. columns_are r (span_row (span_of r)) is.0)
    (λ r is. is.0.1.0) (λ r is. is.0.1.1.0)

-- WHERE ch = ?1 AND n = ?2
pub span_is : (c n : ℕ) (r : Row) → IsSpanRow r
    → keeps (of_nat c ∷ of_nat n ∷ []) (are_both_at 1 2) r ≡ is_span c n (span_of r)
span_is c n = one_is span_rows c n []

-- two rows tie where one has the other's key
pub span_ties : (a b : ℕ × SpanRow) → is_eq (span_cmp a b) ≡ is_span a.0 a.1.offer b
span_ties = row_ties (λ (t : SpanRow). t.offer)

-- the row that INSERT puts is the one that it was given
pub cast_new_span : (t : ℕ × SpanRow) → cast_row span (Null ∷ span_row t) ≡ Null ∷ span_row t
cast_new_span t i =
    cast_null i ∷ cast_int (pos t.0) i ∷ cast_int (pos t.1.offer) i ∷ cast_int (pos t.1.window.first) i
    ∷ cast_int (pos t.1.window.last) i ∷ []
