-- `find_asked`: what the text of a question finds in a table.
use Rattle.std.proofs.Common.{sym, subst}
use Rattle.station_tables_records.specs.Asking.{IsReading}
use Rattle.station_tables_statements.proofs.numbered.find_asked.Goals as goal

pub find_rows-requires : goal.find_rows-requires
find_rows-requires g c = record { reading = subst IsReading (sym c.text-text.ensures) c.requires.reading }
