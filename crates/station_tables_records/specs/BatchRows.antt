-- The table `batch`: a row of it as a channel and its batch's row. A row is its rowid and then its columns: ch, day, n.
use Rattle.std.specs.Prelude.{◌≡◌, ℕ, Bool, false, ◌&&◌, ◌^◌, nat_lt, List, [], ◌∷◌}
use Rattle.std.specs.List.{AllByRecursion}
use Rattle.sqlite_value.specs.Order.{Row, column}
use Rattle.station_tables_records.specs.declared.aired_rows.BatchRow.{BatchRow}
use Rattle.station_tables_records.specs.MadeAirings.{batch_cmp, is_batch}
use Rattle.station_tables_records.specs.Table.{TypedTable}
use Rattle.station_tables_records.specs.Schema.{batch}
use Rattle.station_tables_records.specs.Columns.{table_of}
use Rattle.station_tables_records.specs.Values.{of_nat, nat_in}

abbrev pub batch_of : Row → ℕ × BatchRow
batch_of r = (nat_in (column r 1), record { day = nat_in (column r 2); number = nat_in (column r 3) })

-- its columns, as they are put: those of its key
abbrev pub batch_row : ℕ × BatchRow → Row
batch_row t = of_nat t.0 ∷ of_nat t.1.day ∷ of_nat t.1.number ∷ []

-- the columns of its key
abbrev pub batch_key : ℕ × BatchRow → Row
batch_key = batch_row

-- in the order of the channels, of the days and of the numbers
abbrev pub batch_table : TypedTable (ℕ × BatchRow)
batch_table = table_of 7 batch batch_of batch_row batch_cmp

-- no batch of day n of channel c has number k
abbrev pub LacksBatch : ℕ → ℕ → ℕ → List (ℕ × BatchRow) → Type 0
LacksBatch c n k = AllByRecursion (λ b. is_batch c n k b ≡ false)

-- the channel's number has 16 bits, the others 32
abbrev pub batch_fits : ℕ × BatchRow → Bool
batch_fits t = nat_lt t.0 65536 && nat_lt t.1.day (2 ^ 32) && nat_lt t.1.number (2 ^ 32)
