-- `load_batch_rows`: the rows of a day's batches, by number.
use Rattle.station_tables_records.specs.MadeAirings.{is_batch_of}
use Rattle.station_tables_records.proofs.AiredTextLemmas.{aired_texts}
use Rattle.station_tables_records.proofs.AiredLemmas.{shows_batches_of}
use Rattle.station_tables_statements.proofs.AskedLemmas.{rows_found}
use Rattle.station_tables_statements.proofs.batches.load_batch_rows.Goals as goal

pub find_rows-requires : goal.find_rows-requires
find_rows-requires g c = record { reading = aired_texts.day_batches.reads }

pub returns-clause-batches : goal.returns-clause-batches
returns-clause-batches g c held clean =
    rows_found g.S.Store _ _ (λ v. v.items) _ _ c.find_rows.ensures.reads c.find_rows.ensures.rows clean
    c.of_day.ensures (is_batch_of c.args.channel c.args.day)
    (λ early opened. let is = held early opened in
    shows_batches_of _ _ is.schema is.first c.args.channel c.args.day)
