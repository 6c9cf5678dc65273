-- The table `day`: a row of it as a channel and its day's row. A row is its rowid and then its columns: ch, day,
-- sealed. Sealed is 1 or 0.
use Rattle.std.specs.Prelude.{ℕ, Bool, ◌&&◌, ◌^◌, nat_lt, List, [], ◌∷◌}
use Rattle.sqlite_value.specs.Order.{Row, column}
use Rattle.station_tables_records.specs.declared.day_rows.DayRow.{DayRow}
use Rattle.station_tables_records.specs.MadeDays.{day_cmp}
use Rattle.station_tables_records.specs.Table.{TypedTable}
use Rattle.station_tables_records.specs.Schema.{day}
use Rattle.station_tables_records.specs.Columns.{table_of}
use Rattle.station_tables_records.specs.Numbered.{LacksNumber}
use Rattle.station_tables_records.specs.Values.{of_nat, nat_in, of_bool, bool_in}

abbrev pub day_of : Row → ℕ × DayRow
day_of r = (nat_in (column r 1), record { number = nat_in (column r 2); sealed = bool_in (column r 3) })

-- its columns, as they are put
abbrev pub day_row : ℕ × DayRow → Row
day_row t = of_nat t.0 ∷ of_nat t.1.number ∷ of_bool t.1.sealed ∷ []

-- in the order of the channels and of the numbers
abbrev pub day_table : TypedTable (ℕ × DayRow)
day_table = table_of 5 day day_of day_row day_cmp

-- no day of channel ch has number n
abbrev pub LacksDay : ℕ → ℕ → List (ℕ × DayRow) → Type 0
LacksDay = LacksNumber (λ t. t.number)

-- the channel's number has 16 bits, the day's 32
abbrev pub day_fits : ℕ × DayRow → Bool
day_fits t = nat_lt t.0 65536 && nat_lt t.1.number (2 ^ 32)
