-- `load_line_rows`: the rows of their lines, by batch and line.
use Rattle.station_tables_records.specs.MadeAirings.{is_line_in}
use Rattle.station_tables_records.proofs.AiredTextLemmas.{aired_texts}
use Rattle.station_tables_records.proofs.AiredLemmas.{shows_lines_of}
use Rattle.station_tables_statements.proofs.AskedLemmas.{rows_found}
use Rattle.station_tables_statements.proofs.aired.load_line_rows.Goals as goal

pub find_rows-requires : goal.find_rows-requires
find_rows-requires g c = record { reading = aired_texts.day_lines.reads }

pub returns-clause-lines : goal.returns-clause-lines
returns-clause-lines g c held clean =
    rows_found g.S.Store _ _ (λ v. v.items) _ _ c.find_rows.ensures.reads c.find_rows.ensures.rows clean
    c.of_day.ensures (is_line_in c.args.channel c.args.day)
    (λ early opened. let is = held early opened in shows_lines_of _ _ is.schema is.second c.args.channel c.args.day)
