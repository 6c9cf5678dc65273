-- All rows of the table `aired`, by their keys.
use Rattle.station_tables_records.specs.LineRows.{line_table, line_fits}
use Rattle.station_tables_statements.proofs.AskedLemmas.{all_answers}
use Rattle.station_tables_statements.proofs.FirstLemmas.{all_lines}
use Rattle.station_tables_statements.proofs.aired.Tuple2U16AiredLineStoredTable.ask_all.Goals as goal

pub ask-requires : goal.ask-requires
ask-requires g c = record { reading = all_lines.reads }

pub returns : goal.returns
returns g c =
    let e = c.ask.ensures in
    let all =
    all_answers g.S.Store _ _ (λ v. v.items) line_table line_fits all_lines c.ask.result e.reads e.some e.none e.err in
    record
    { reads = e.reads; rise = e.rise; rows = all.rows; none = all.none; short = all.short; missing = λ no. absurd no }
