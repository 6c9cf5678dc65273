-- All rows of the table `day`, by their keys.
use Rattle.station_tables_records.specs.DayRows.{day_table, day_fits}
use Rattle.station_tables_statements.proofs.AskedLemmas.{all_answers}
use Rattle.station_tables_statements.proofs.FirstLemmas.{all_days}
use Rattle.station_tables_statements.proofs.days.Tuple2U16DayRowStoredTable.ask_all.Goals as goal

pub ask-requires : goal.ask-requires
ask-requires g c = record { reading = all_days.reads }

pub returns : goal.returns
returns g c =
    let e = c.ask.ensures in
    let all =
    all_answers g.S.Store _ _ (λ v. v.items) day_table day_fits all_days c.ask.result e.reads e.some e.none e.err in
    record
    { reads = e.reads; rise = e.rise; rows = all.rows; none = all.none; short = all.short; missing = λ no. absurd no }
