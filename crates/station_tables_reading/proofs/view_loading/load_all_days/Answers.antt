-- `load_all_days`: the channel's days, by number.
use Rattle.std.proofs.Common.{◌∙◌, ap}
use Rattle.std.proofs.lemmas.Result.{IfOk-weaker}
use Rattle.channel_view_model.specs.Tables.{rows_alone}
use Rattle.station_tables_records.specs.Inside.{inside}
use Rattle.station_tables_statements.specs.Calls.{set_in}
use Rattle.station_tables_statements.proofs.DayLookLemmas.{has_days, all_made}
use Rattle.station_tables_reading.proofs.view_loading.load_all_days.Goals as goal

pub returns-clause-days : goal.returns-clause-days
returns-clause-days g c = λ centre clean rules planned.
    let old = inside g.S.Store c.args.tx.now in
    let rows = set_in old in
    let are = c.deref.ensures.value ∙ c.in_ok-days.ensures.days (has_days old centre) clean rows.channels planned in
    IfOk-weaker c.days_alone.result _ _
    (λ days is. is ∙ ap rows_alone are ∙ all_made c.args.plan.now.ch rows.days rules.days.each) c.days_alone.ensures
