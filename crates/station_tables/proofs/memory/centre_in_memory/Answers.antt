-- `centre_in_memory`: makes the tables of this plan in a database in memory.
use Rattle.std.proofs.Common.{inl, sym, ap, ◌∙◌, subst}
use Rattle.sqlite.specs.Held.{state}
use Rattle.sqlite.specs.Steps.{over_memory}
use Rattle.sqlite.proofs.Callers.{memory_is_clean}
use Rattle.channel_view_model.specs.Centre.{Centre}
use Rattle.station_tables_records.specs.Schema.{no_schema}
use Rattle.station_tables_statements.specs.Rows.{BeginsBare, Stands, plan_in_order}
use Rattle.station_tables_opening.specs.declared.finding.Version.TheVariants.{Second}
use Rattle.station_tables.specs.Store.{store_state}
use Rattle.station_tables.proofs.memory.centre_in_memory.Goals as goal

pub returns-in-Ok-open_tables-clause-rows : goal.returns-in-Ok-open_tables-clause-rows
returns-in-Ok-open_tables-clause-rows c =
    let rows = plan_in_order c.args.plan.now in
    let bare : BeginsBare no_schema (state over_memory c.in-Ok.conn) =
    λ clean held. record { schema_is = c.in-Ok.ensures.empty.2; empty = tt } in
    let made : Stands (store_state over_memory c.in-Ok-create.store) rows =
    c.in-Ok-create.ensures.made.rows bare (memory_is_clean c.in-Ok-create.store.conn) in
    let kept : Stands (state over_memory c.into_connection.result) rows =
    subst (λ conn. Stands (state over_memory conn) rows) (sym c.into_connection.ensures.same) made in
    subst (Stands (store_state over_memory c.in-Ok-open_tables.store)) kept.holds.rows_are
    (c.in-Ok-open_tables.ensures.opened.rows Second (λ clean held. kept.holds.centre.schema)
    (memory_is_clean c.in-Ok-open_tables.store.conn))

pub returns-in-Ok-open_tables-clause-plan : goal.returns-in-Ok-open_tables-clause-plan
returns-in-Ok-open_tables-clause-plan c =
    let rows = plan_in_order c.args.plan.now in
    let bare : BeginsBare no_schema (state over_memory c.in-Ok.conn) =
    λ clean held. record { schema_is = c.in-Ok.ensures.empty.2; empty = tt } in
    let made : Stands (store_state over_memory c.in-Ok-create.store) rows =
    c.in-Ok-create.ensures.made.rows bare (memory_is_clean c.in-Ok-create.store.conn) in
    let kept : Stands (state over_memory c.into_connection.result) rows =
    subst (λ conn. Stands (state over_memory conn) rows) (sym c.into_connection.ensures.same) made in
    c.in-Ok-open_tables.ensures.plan (λ clean held. inl kept.holds.centre.schema)
    (memory_is_clean c.in-Ok-open_tables.store.conn)
    ∙ ap (λ (r : Centre). r.channels) kept.holds.rows_are
