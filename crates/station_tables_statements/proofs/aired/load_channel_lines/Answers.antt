-- `load_channel_lines`: the rows of their lines, by day, batch and line.
use Rattle.std.specs.Prelude.{◌==◌}
use Rattle.station_tables_records.proofs.AiredTextLemmas.{aired_texts}
use Rattle.station_tables_records.proofs.AiredLemmas.{shows_channel_lines}
use Rattle.station_tables_statements.proofs.AskedLemmas.{rows_found}
use Rattle.station_tables_statements.proofs.aired.load_channel_lines.Goals as goal

pub find_rows-requires : goal.find_rows-requires
find_rows-requires g c = record { reading = aired_texts.channel_lines.reads }

pub returns-clause-lines : goal.returns-clause-lines
returns-clause-lines g c held clean =
    rows_found g.S.Store _ _ (λ v. v.items) _ _ c.find_rows.ensures.reads c.find_rows.ensures.rows clean
    c.of_channel.ensures (λ r. r.0 == c.args.channel)
    (λ early opened. let is = held early opened in shows_channel_lines _ _ is.schema is.second c.args.channel)
