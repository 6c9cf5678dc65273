-- `row_numbered`: the channel's row with this number.
use Rattle.std.proofs.Common.{◌∙◌}
use Rattle.station_tables_records.specs.Numbered.{is_row}
use Rattle.station_tables_records.specs.Inside.{inside}
use Rattle.station_tables_statements.specs.Calls.{set_in}
use Rattle.station_tables_statements.proofs.FoundLemmas.{first_alone_is}
use Rattle.station_tables_statements.proofs.numbered.row_numbered.Goals as goal

pub returns-clause-row : goal.returns-clause-row
returns-clause-row g c centre clean =
    first_alone_is (is_row g.T.NumberedRow.number_of c.args.channel c.args.number)
    (g.T.NumberedRow.rows_in (set_in (inside g.S.Store c.args.tx.now))) c.deref.result.now c.first_alone.result
    c.first_alone.ensures
    (c.deref.ensures.value ∙ c.in_ok-rows.ensures.rows centre clean)
