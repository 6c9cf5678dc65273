-- All rows of the table `item`, by their keys.
use Rattle.station_tables_records.specs.ItemRows.{item_table, item_fits}
use Rattle.station_tables_statements.proofs.AskedLemmas.{all_answers}
use Rattle.station_tables_statements.proofs.FirstLemmas.{all_items}
use Rattle.station_tables_statements.proofs.items.Tuple2U16ItemRowStoredTable.ask_all.Goals as goal

pub ask-requires : goal.ask-requires
ask-requires g c = record { reading = all_items.reads }

pub returns : goal.returns
returns g c =
    let e = c.ask.ensures in
    let all =
    all_answers g.S.Store _ _ (λ v. v.items) item_table item_fits all_items c.ask.result e.reads e.some e.none e.err in
    record
    { reads = e.reads; rise = e.rise; rows = all.rows; none = all.none; short = all.short; missing = λ no. absurd no }
