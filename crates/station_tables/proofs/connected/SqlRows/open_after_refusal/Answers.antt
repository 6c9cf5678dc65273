-- `SqlRows::open_after_refusal`: opens what a stop left of a connection that came back with a refusal.
use Rattle.std.proofs.Common.{sym, ap, ◌∙◌, subst}
use Rattle.std.proofs.lemmas.Result.{IfErr-weaker}
use Rattle.sqlite.specs.Held.{state}
use Rattle.channel_view_model.specs.Centre.{Centre}
use Rattle.station_tables_statements.specs.Rows.{Stands}
use Rattle.station_tables.specs.Store.{store_state}
use Rattle.station_tables_opening.proofs.FindLemmas.{known_of}
use Rattle.station_tables.proofs.KeptLemmas.{ok_both}
use Rattle.station_tables_opening.proofs.StopLemmas.{centre_in, found_tables, rows_held}
use Rattle.station_tables.proofs.connected.SqlRows.open_after_refusal.Goals as goal

pub returns-clause-ok : goal.returns-clause-ok
returns-clause-ok g c = ok_both c.open_tables.result (λ s opens kept left finds clean.
    let found = state g.S.Store c.args.found in
    let held = left finds.clean found.now.trees finds.left in
    let tables = found_tables found c.schema.ensures.live held.0 held.1 held.2 in
    let rows_are = rows_held held.0 held.1 found.now.trees held.2 in (
      held.0,
      held.1,
      held.2,
      subst (Stands (store_state g.S.Store s)) rows_are (opens.rows held.0 tables clean),
      sym (kept (known_of held.0 found tables) clean ∙ ap (λ (r : Centre). r.channels) rows_are),
    )) c.open_tables.ensures.opened c.open_tables.ensures.plan

pub returns-clause-err : goal.returns-clause-err
returns-clause-err g c = IfErr-weaker c.open_tables.result _ _ (λ e refuses left finds clean.
    let found = state g.S.Store c.args.found in
    let held = left finds.clean found.now.trees finds.left in
    refuses.opens clean held.0 (found_tables found c.schema.ensures.live held.0 held.1 held.2)
    (centre_in held.0 held.1 found.now.trees held.2)) c.open_tables.ensures.refused

pub returns-clause-before : goal.returns-clause-before
returns-clause-before g c =
    IfErr-weaker c.open_tables.result _ _ (λ e refuses clean. refuses.before clean) c.open_tables.ensures.refused
