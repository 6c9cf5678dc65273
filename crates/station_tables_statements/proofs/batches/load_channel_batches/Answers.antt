-- `load_channel_batches`: the rows of a channel's batches, by day and number.
use Rattle.std.specs.Prelude.{◌==◌}
use Rattle.station_tables_records.proofs.AiredTextLemmas.{aired_texts}
use Rattle.station_tables_records.proofs.AiredLemmas.{shows_channel_batches}
use Rattle.station_tables_statements.proofs.AskedLemmas.{rows_found}
use Rattle.station_tables_statements.proofs.batches.load_channel_batches.Goals as goal

pub find_rows-requires : goal.find_rows-requires
find_rows-requires g c = record { reading = aired_texts.channel_batches.reads }

pub returns-clause-batches : goal.returns-clause-batches
returns-clause-batches g c held clean =
    rows_found g.S.Store _ _ (λ v. v.items) _ _ c.find_rows.ensures.reads c.find_rows.ensures.rows clean
    c.of_channel.ensures (λ b. b.0 == c.args.channel)
    (λ early opened. let is = held early opened in shows_channel_batches _ _ is.schema is.first c.args.channel)
