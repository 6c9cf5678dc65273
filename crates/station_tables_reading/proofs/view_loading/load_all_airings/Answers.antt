-- `load_all_airings`: what was aired of the channel's days.
use Rattle.std.proofs.Common.{◌∙◌, ap}
use Rattle.std.proofs.lemmas.Result.{IfOk-weaker}
use Rattle.channel_view_model.specs.Tables.{rows_alone}
use Rattle.station_tables_records.specs.Inside.{inside}
use Rattle.station_tables_statements.specs.Calls.{set_in}
use Rattle.station_tables_statements.proofs.DayLookLemmas.{has_airings}
use Rattle.station_tables_reading.proofs.view_loading.load_all_airings.Goals as goal

pub returns-clause-airings : goal.returns-clause-airings
returns-clause-airings g c = λ centre clean planned.
    let old = inside g.S.Store c.args.tx.now in
    let rows = set_in old in
    let are =
    c.deref.ensures.value ∙ c.in_ok-airings.ensures.airings (has_airings old centre) clean rows.channels planned in
    IfOk-weaker c.airings_alone.result _ _ (λ aired is. is ∙ ap rows_alone are) c.airings_alone.ensures
