-- `load_page`: the channel's rows on this page, by number: on page 0 those with the numbers 1 to `PAGE`.
use Rattle.std.proofs.Common.{map, ap, ◌∙◌}
use Rattle.std.proofs.lemmas.Result.{IfOk-weaker}
use Rattle.station_tables_statements.proofs.PageLemmas.{page_is_slice}
use Rattle.station_tables_records.specs.Inside.{inside}
use Rattle.station_tables_statements.specs.Calls.{set_in}
use Rattle.station_tables_statements.proofs.numbered.load_page.Goals as goal

pub returns-clause-rows : goal.returns-clause-rows
returns-clause-rows g c centre clean numbered =
    let all = g.T.NumberedRow.rows_in (set_in (inside g.S.Store c.args.tx.now)) in
    IfOk-weaker c.without_channels.result _ _
    (λ own is. is ∙ ap (map (λ r. r.1)) (c.deref.ensures.value ∙ c.in_ok-rows.ensures.rows centre clean)
    ∙ page_is_slice g.T.NumberedRow.number_of c.args.channel c.args.page all numbered)
    c.without_channels.ensures
