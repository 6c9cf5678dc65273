-- All rows of the table `channel`, by their keys.
use Rattle.station_tables_records.specs.ChannelRows.{channel_table, channel_fits}
use Rattle.station_tables_statements.proofs.AskedLemmas.{all_answers}
use Rattle.station_tables_statements.proofs.FirstLemmas.{all_channels}
use Rattle.station_tables_statements.proofs.plan.PlanRowStoredTable.ask_all.Goals as goal

pub ask-requires : goal.ask-requires
ask-requires g c = record { reading = all_channels.reads }

pub returns : goal.returns
returns g c =
    let e = c.ask.ensures in
    let all =
    all_answers g.S.Store _ _ (λ v. v.items) channel_table channel_fits all_channels c.ask.result e.reads e.some e.none
    e.err in
    record
    { reads = e.reads; rise = e.rise; rows = all.rows; none = all.none; short = all.short; missing = λ no. absurd no }
