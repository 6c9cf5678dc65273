-- The loops of `read_each` (what each of these rows reads as, or `None` where one reads as nothing).
use Rattle.std.specs.Prelude.{take}
use Rattle.station_tables_records.specs.RowReading.{ReadEach}
use Rattle.station_tables_records.proofs.reading.read_each.Given as goal

abbrev pub invariant-loop-row : goal.invariant-loop-row
invariant-loop-row g l = ReadEach g.R.Fn l.read (take l.row-index l.rows) l.list.items
