-- The table `span`: a row of it as a channel and the window of an offer of its. A row is its rowid and then its
-- columns: ch, n, first_day, last_day.
use Rattle.std.specs.Prelude.{◌≡◌, ℕ, Bool, true, ◌&&◌, nat_lt, [], ◌∷◌}
use Rattle.sqlite_value.specs.Order.{Row, column}
use Rattle.vault_core.specs.Window.{is_window}
use Rattle.station_tables_records.specs.declared.offer_rows.SpanRow.{SpanRow}
use Rattle.station_tables_records.specs.MadeOffers.{span_cmp}
use Rattle.station_tables_records.specs.Table.{TypedTable}
use Rattle.station_tables_records.specs.Schema.{span}
use Rattle.station_tables_records.specs.Columns.{HasColumns, table_at}
use Rattle.station_tables_records.specs.Values.{of_nat, nat_in}

abbrev pub span_of : Row → ℕ × SpanRow
span_of r = (
  nat_in (column r 1),
  record { offer = nat_in (column r 2); window = record { first = nat_in (column r 3); last = nat_in (column r 4) } },
)

-- its columns, as they are put
abbrev pub span_row : ℕ × SpanRow → Row
span_row t = of_nat t.0 ∷ of_nat t.1.offer ∷ of_nat t.1.window.first ∷ of_nat t.1.window.last ∷ []

-- The row's columns are those of the window that it reads as, which is one, and its rowid is a number.
abbrev pub IsSpanRow : Row → Type 0
IsSpanRow r =
    HasColumns r (span_row (span_of r)) × (is_window (span_of r).1.window.first (span_of r).1.window.last ≡ true)

-- in the order of the channels and of the offers' numbers
abbrev pub span_table : TypedTable (ℕ × SpanRow)
span_table = table_at 9 span span_of IsSpanRow span_cmp

-- the numbers of the channel and of the offer have 16 bits
abbrev pub span_fits : ℕ × SpanRow → Bool
span_fits t = nat_lt t.0 65536 && nat_lt t.1.offer 65536
