-- Items and lines are read by the column of their channel.
use Rattle.std.specs.Prelude.{◌≡◌, ◌==◌, ℕ}
use Rattle.sqlite_value.specs.Order.{Row, column}
use Rattle.station_tables_records.specs.ItemRows.{item_of, item_table}
use Rattle.station_tables_records.specs.LineRows.{line_of, line_table}
use Rattle.station_tables_records.proofs.ValueLemmas.{equals}
use Rattle.station_tables_statements.specs.ByChannel.{is_channel}

pub item_by_channel : (c : ℕ) (r : Row) → item_table.IsRow r → is_channel c r ≡ ((item_table.of r).0 == c)
item_by_channel c r is = equals (column r 1) (item_of r).0 c is.1.0

pub line_by_channel : (c : ℕ) (r : Row) → line_table.IsRow r → is_channel c r ≡ ((line_table.of r).0 == c)
line_by_channel c r is = equals (column r 1) (line_of r).0 c is.0.1.0
