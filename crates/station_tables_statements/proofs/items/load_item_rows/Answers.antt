-- `load_item_rows`: the rows of the items of these days, by day and number.
use Rattle.station_tables_records.specs.MadeDays.{is_item_in}
use Rattle.station_tables_records.proofs.DayTextLemmas.{day_texts}
use Rattle.station_tables_records.proofs.DayLemmas.{shows_items_within}
use Rattle.station_tables_statements.proofs.AskedLemmas.{rows_found}
use Rattle.station_tables_statements.proofs.items.load_item_rows.Goals as goal

pub find_rows-requires : goal.find_rows-requires
find_rows-requires g c = record { reading = day_texts.items_within.reads }

pub returns-clause-items : goal.returns-clause-items
returns-clause-items g c held clean =
    rows_found g.S.Store _ _ (λ v. v.items) _ _ c.find_rows.ensures.reads c.find_rows.ensures.rows clean
    c.of_days.ensures (is_item_in c.args.channel c.args.first c.args.last)
    (λ early opened. let is = held early opened in
    shows_items_within _ _ is.schema is.second c.args.channel c.args.first c.args.last)
