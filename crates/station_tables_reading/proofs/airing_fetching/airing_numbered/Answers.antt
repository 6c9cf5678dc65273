-- `airing_numbered`: what was aired of the day with this number, of which nothing is said where no batch came.
use Rattle.std.proofs.Common.{◌∙◌, sym, ap, arith}
use Rattle.std.proofs.lemmas.Result.{IfOk-weaker}
use Rattle.sqlite.specs.State.{HasCleanDisk}
use Rattle.channel_view_model.specs.Airings.{airing_at}
use Rattle.channel_view_model.specs.Tables.{of_channel}
use Rattle.station_tables_records.specs.Inside.{inside}
use Rattle.station_tables_statements.specs.AiredCalls.{airings_in}
use Rattle.station_tables_statements.proofs.AiringSeenLemmas.{airing_seen_is, airing_in_found, airing_in_none}
use Rattle.station_tables_records.proofs.AiredLemmas.{batches_rise}
use Rattle.station_tables_statements.specs.Calls.{set_in}
use Rattle.station_tables_statements.proofs.DayLookLemmas.{has_airings}
use Rattle.station_tables_reading.proofs.airing_fetching.airing_numbered.Goals as goal

pub returns-in-Some-clause-airing : goal.returns-in-Some-clause-airing
returns-in-Some-clause-airing g c = λ centre clean owned planned.
    let old = inside g.S.Store c.args.tx.now in
    let rows = set_in old in
    let plan = c.args.plan.now in
    let number = c.get-number.result in
    let early : HasCleanDisk old = omega (arith, c.load_airing.ensures.reads.survives.clean, clean) in
    let opened = (c.in_ok-found.ensures.reads.same clean).0.was_open in
    let seen =
    airing_seen_is rows.channels plan planned (airings_in old)
    (batches_rise old.now.trees (centre early opened).batches) (owned early opened).1 number in
    airing_in_found plan number (airings_in old) c.in-Some.aired
    (sym c.in-Some.is ∙ c.in_ok-found.ensures.airing (has_airings old centre) clean)
    ∙ sym seen
    ∙ ap (λ n. airing_at plan (of_channel plan.ch rows.aired) n) c.get-number.ensures.value

pub returns-in-None-clause-airing : goal.returns-in-None-clause-airing
returns-in-None-clause-airing g c = λ centre clean owned planned.
    let old = inside g.S.Store c.args.tx.now in
    let rows = set_in old in
    let plan = c.args.plan.now in
    let number = c.get-number.result in
    let early : HasCleanDisk old = omega (arith, c.load_airing.ensures.reads.survives.clean, clean) in
    let opened = (c.in_ok-found.ensures.reads.same clean).0.was_open in
    let seen =
    airing_seen_is rows.channels plan planned (airings_in old)
    (batches_rise old.now.trees (centre early opened).batches) (owned early opened).1 number in
    IfOk-weaker c.nothing_aired.result _ _
    (λ aired is.
    is
    ∙ airing_in_none plan number (airings_in old)
    (sym c.in-None.is ∙ c.in_ok-found.ensures.airing (has_airings old centre) clean)
    ∙ sym seen
    ∙ ap (λ n. airing_at plan (of_channel plan.ch rows.aired) n) c.get-number.ensures.value)
    c.nothing_aired.ensures
