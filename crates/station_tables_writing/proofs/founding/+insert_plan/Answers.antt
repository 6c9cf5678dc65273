-- `insert_plan`: adds these channels to tables without a row but that of `office`, whose plan is tested.
use Rattle.std.proofs.Common.{◌≡◌, ◌∷◌, true, IsTrue, sym, ap, subst, arith}
use Rattle.sqlite.specs.State.{HasCleanDisk}
use Rattle.station_tables_records.specs.Inside.{inside}
use Rattle.channel_plan.specs.Plan.{is_plan}
use Rattle.channel_view_model.specs.Centre.{Centre}
use Rattle.station_tables_records.specs.Table.{LacksKeyOf}
use Rattle.station_tables_statements.specs.Rows.{Changes, plan_in_order}
use Rattle.station_tables_records.specs.ChannelRows.{channel_table}
use Rattle.station_tables_writing.proofs.PlanLemmas.{grown, plan_parts, new_channel}
use Rattle.station_tables_statements.specs.Calls.{LacksDaysNow}
use Rattle.station_tables_writing.proofs.founding.+insert_plan.Goals as goal

pub returns-clause-makes : goal.returns-clause-makes
returns-clause-makes g depth c new planned clean =
    let old = inside g.S.Store c.args.tx.now in
    let mid = inside g.S.Store c.insert_plan.new.tx in
    let last = inside g.S.Store c.insert_channel.new.tx in
    let x = c.in-Some.first.now in
    let xs = c.in-Some.others.now in
    let is : c.args.plan.now ≡ x ∷ xs = c.in-Some.ensures.cases.0 in
    let all = subst (λ l. is_plan l ≡ true) is planned in
    let early : HasCleanDisk mid = omega (arith, c.insert_channel.ensures.writes.survives.clean, clean) in
    let made = c.in_ok-insert_plan.ensures.makes new (plan_parts x xs all).2 early in
    let fresh =
    λ (_ : HasCleanDisk mid) (_ : IsTrue mid.is_open). subst
    (λ (rows : Centre). LacksKeyOf channel_table x rows.channels) (sym made.0.content) (new_channel x xs all) in
    let none : LacksDaysNow mid =
    λ _ _. (ap (λ (rows : Centre). rows.days) made.0.content, ap (λ (rows : Centre). rows.aired) made.0.content) in
    let more = c.in_ok-insert_channel.ensures.makes none fresh (λ _ _. made.0.centre) clean in (
      subst (λ l. Changes (λ _. plan_in_order l) old last) (sym is) (grown old mid last x xs made.0 more),
      more.owned
          made.1,
    )
