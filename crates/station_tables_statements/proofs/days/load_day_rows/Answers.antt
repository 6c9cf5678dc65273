-- `load_day_rows`: the rows of a channel's days with numbers from one to another, by number.
use Rattle.station_tables_records.specs.MadeDays.{is_day_in}
use Rattle.station_tables_records.proofs.DayTextLemmas.{day_texts}
use Rattle.station_tables_records.proofs.DayLemmas.{shows_days_within}
use Rattle.station_tables_statements.proofs.AskedLemmas.{rows_found}
use Rattle.station_tables_statements.proofs.days.load_day_rows.Goals as goal

pub find_rows-requires : goal.find_rows-requires
find_rows-requires g c = record { reading = day_texts.days_within.reads }

pub returns-clause-days : goal.returns-clause-days
returns-clause-days g c held clean =
    rows_found g.S.Store _ _ (λ v. v.items) _ _ c.find_rows.ensures.reads c.find_rows.ensures.rows clean
    c.of_days.ensures (is_day_in c.args.channel c.args.first c.args.last)
    (λ early opened. let is = held early opened in
    shows_days_within _ _ is.schema is.first c.args.channel c.args.first c.args.last)
