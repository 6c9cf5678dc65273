-- `SqlRows::open_after_stop`: opens what a stop left of a store.
use Rattle.std.proofs.lemmas.Result.{IfOk-weaker, IfErr-weaker}
use Rattle.sqlite.specs.Held.{state}
use Rattle.station_tables_writing.proofs.StandLemmas.{leaves_alone}
use Rattle.station_tables.specs.Store.{store_state}
use Rattle.station_tables_opening.proofs.StopLemmas.{leaves_centres, second_held}
use Rattle.station_tables.proofs.connected.SqlRows.open_after_stop.Goals as goal

pub returns-clause-ok : goal.returns-clause-ok
returns-clause-ok g c = IfOk-weaker c.open_after_refusal.result _ _ (λ s opened sets finds clean.
    let trees = (state g.S.Store c.args.found).now.trees in
    let held = sets finds.clean trees finds.left in
    let found = opened (leaves_centres (store_state g.T.Store c.args.stopped.now) sets) finds clean in (
      found.1,
      (trees, finds.left, (second_held found.0 found.1 held.0 trees found.2 held.1).rows_are),
      found.3,
      found.4,
    ))
    c.open_after_refusal.ensures.ok

pub returns-clause-err : goal.returns-clause-err
returns-clause-err g c = IfErr-weaker c.open_after_refusal.result _ _ (λ e short sets finds clean.
    short (leaves_centres (store_state g.T.Store c.args.stopped.now) sets) finds clean) c.open_after_refusal.ensures.err

pub returns-clause-standing : goal.returns-clause-standing
returns-clause-standing g c held rows stands clean =
    leaves_alone (store_state g.T.Store c.args.stopped.now) rows (stands clean held)
    (λ db may. g.met.T.Store.settled c.args.stopped.now.conn.store db held may) clean
