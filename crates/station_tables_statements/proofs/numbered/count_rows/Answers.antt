-- `count_rows`: how many rows the channel has: their numbers have no hole, so it is the highest.
use Rattle.std.proofs.Common.{ap, ◌∙◌}
use Rattle.station_tables_statements.proofs.LookupLemmas.{number_or, last_is_count}
use Rattle.station_tables_records.specs.Inside.{inside}
use Rattle.station_tables_statements.specs.Calls.{set_in}
use Rattle.station_tables_statements.proofs.numbered.count_rows.Goals as goal

pub returns-clause-count : goal.returns-clause-count
returns-clause-count g c centre clean numbered =
    let all = g.T.NumberedRow.rows_in (set_in (inside g.S.Store c.args.tx.now)) in
    c.first_number.ensures ∙ ap (number_or g.T.NumberedRow.number_of 0) c.deref.ensures.value
    ∙ last_is_count g.T.NumberedRow.number_of c.args.channel all c.in_ok-rows.rows.items numbered
    (c.in_ok-rows.ensures.rows centre clean)
