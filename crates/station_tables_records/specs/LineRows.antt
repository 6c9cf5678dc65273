-- The table `aired`: a row of it as a channel and the row of a line of a batch. A row is its rowid and then its
-- columns: ch, day, batch, line, pos, frames, src, src_first. A reel is its text.
use Rattle.std.specs.Prelude.{◌≡◌, ℕ, Bool, true, ◌&&◌, ◌^◌, nat_lt, [], ◌∷◌}
use Rattle.sqlite_value.specs.declared.value.Value.TheVariants.{Text as Words}
use Rattle.sqlite_value.specs.Order.{Row, column}
use Rattle.asrun_match.specs.Aired.{is_row_reel}
use Rattle.station_tables_records.specs.declared.aired_rows.AiredLine.{AiredLine}
use Rattle.station_tables_records.specs.MadeAirings.{line_cmp}
use Rattle.station_tables_records.specs.Table.{TypedTable}
use Rattle.station_tables_records.specs.Schema.{aired}
use Rattle.station_tables_records.specs.Columns.{HasColumns, table_at}
use Rattle.station_tables_records.specs.Values.{of_nat, nat_in, text_in}

abbrev pub line_of : Row → ℕ × AiredLine
line_of r = (
  nat_in (column r 1),
  record {
    day = nat_in (column r 2);
    batch = nat_in (column r 3);
    line = nat_in (column r 4);
    row = record {
      pos = nat_in (column r 5);
      frames = nat_in (column r 6);
      src = text_in (column r 7);
      src_first = nat_in (column r 8);
    };
  },
)

-- its columns, as they are put
abbrev pub line_row : ℕ × AiredLine → Row
line_row t =
    of_nat t.0 ∷ of_nat t.1.day ∷ of_nat t.1.batch ∷ of_nat t.1.line ∷ of_nat t.1.row.pos ∷ of_nat t.1.row.frames
    ∷ Words t.1.row.src
    ∷ of_nat t.1.row.src_first ∷ []

-- the columns of its key
abbrev pub line_key : ℕ × AiredLine → Row
line_key t = of_nat t.0 ∷ of_nat t.1.day ∷ of_nat t.1.batch ∷ of_nat t.1.line ∷ []

-- The row's columns are those of the line that it reads as, whose number has 32 bits, and its rowid is a number.
abbrev pub IsLineRow : Row → Type 0
IsLineRow r = HasColumns r (line_row (line_of r)) × (nat_lt (line_of r).1.line (2 ^ 32) ≡ true)

-- in the order of the channels, of the days, of the batches and of the lines
abbrev pub line_table : TypedTable (ℕ × AiredLine)
line_table = table_at 8 aired line_of IsLineRow line_cmp

-- the channel's number has 16 bits, the others but the line's 32, and the reel is such as rows keep
abbrev pub line_fits : ℕ × AiredLine → Bool
line_fits t =
    nat_lt t.0 65536 && nat_lt t.1.day (2 ^ 32) && nat_lt t.1.batch (2 ^ 32) && nat_lt t.1.row.pos (2 ^ 32)
    && nat_lt t.1.row.frames (2 ^ 32) && nat_lt t.1.row.src_first (2 ^ 32) && is_row_reel t.1.row.src
