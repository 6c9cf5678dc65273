-- All rows of the table `batch`, by their keys.
use Rattle.station_tables_records.specs.BatchRows.{batch_table, batch_fits}
use Rattle.station_tables_statements.proofs.AskedLemmas.{all_answers}
use Rattle.station_tables_statements.proofs.FirstLemmas.{all_batches}
use Rattle.station_tables_statements.proofs.batches.Tuple2U16BatchRowStoredTable.ask_all.Goals as goal

pub ask-requires : goal.ask-requires
ask-requires g c = record { reading = all_batches.reads }

pub returns : goal.returns
returns g c =
    let e = c.ask.ensures in
    let all =
    all_answers g.S.Store _ _ (λ v. v.items) batch_table batch_fits all_batches c.ask.result e.reads e.some e.none e.err
    in
    record
    { reads = e.reads; rise = e.rise; rows = all.rows; none = all.none; short = all.short; missing = λ no. absurd no }
