-- Connections over tables that were opened, as over the rows with which they began.
use Rattle.std.proofs.Common.{◌∙◌, ap, sym, subst, IfSome}
use Rattle.std.proofs.lemmas.Result.{IfOk-weaker}
use Rattle.sqlite.specs.State.{HasCleanDisk}
use Rattle.sqlite.specs.Held.{state}
use Rattle.station_tables_statements.specs.Rows.{StandsFor}
use Rattle.station_tables_opening.proofs.FindLemmas.{known_of}
use Rattle.station_tables.specs.Store.{StandsWithPlan}
use Rattle.station_tables_writing.specs.Tables.{MayLeave}
use Rattle.rows_at_hand.specs.AtHand.{AreVaultsOf}
use Rattle.rows_at_hand.specs.Counted.{AreCounted}
use Rattle.rows_at_hand.proofs.KnownLemmas.{nothing_known}
use Rattle.playout_cli.proofs.KeptLemmas.{stands_with_plan}
use Rattle.playout_cli.proofs.ServingLemmas.{err_where_on, serves_over, port_over}
use Rattle.playout_cli.proofs.serve.serve_tables.Goals as goal

pub returns-in-Ok-clause-ok : goal.returns-in-Ok-clause-ok
returns-in-Ok-clause-ok g c =
    let same =
    c.into_connection.ensures.same
    ∙ ap (λ s. s.conn)
    (c.into_store-tables.ensures ∙ ap (λ d. d.store) (c.into_store-in-Ok.ensures ∙ ap (λ v. v.store) c.into_store.ensures)) in
    let over = c.over-store.ensures.store in
    let vaults = c.with_vaults.ensures in
    IfOk-weaker c.serve_port-served.result _ _ (λ quiet. serves_over _ _ _ _ _ _ _ _ _ _ _ _ quiet
    (λ rows begins. subst (λ conn. HasCleanDisk (state g.S.Store conn)) same begins.0)
    (λ rows clean begins. (
      let now = subst (λ v. HasCleanDisk (state g.S.Store v.store.store.conn)) over clean in
          let opened = vaults.clean now in
          subst
          (λ v. (StandsWithPlan g.S.Store v.store.store rows × AreCounted rows v.store.channels.items)
          × IfSome v.vaults (AreVaultsOf rows)) (sym over)
          (vaults.stands now rows
          (stands_with_plan g.S.Store c.in-Ok.opened _ rows (c.in-Ok.ensures.opened.rows begins.1.0 begins.1.1 opened)
          (c.in-Ok.ensures.plan (known_of begins.1.0 (state g.S.Store c.args.conn) begins.1.1) opened) begins.1.2)),
      nothing_known rows _ c.over-store.ensures.none,
    ))
    (λ left stands. subst (λ conn. StandsFor (state g.S.Store conn) left) (sym same) stands.0.0.0.0)
    (λ rows found clean begins left.
    let now = subst (λ v. HasCleanDisk (state g.S.Store v.store.store.conn)) over clean in
    c.in-Ok.ensures.opened.alone begins.1.0 begins.1.1 (vaults.clean now) found
    (vaults.stop now found (subst (λ v. MayLeave (state g.S.Store v.store.store.conn) found) over left)) ∙ sym begins.1.2)
    (λ found left. subst (λ conn. MayLeave (state g.S.Store conn) found) same left))
    c.serve_port-served.ensures.did

pub returns-in-Ok-clause-err : goal.returns-in-Ok-clause-err
returns-in-Ok-clause-err g c =
    let vaults = c.with_vaults.ensures in
    err_where_on
    (λ kept.
    let stood =
    c.into_connection.ensures.same
    ∙ ap (λ s. s.conn)
    (c.into_store-tables.ensures ∙ ap (λ d. d.store) (c.into_store-in-Ok.ensures ∙ ap (λ v. v.store) c.into_store.ensures))
    ∙ ap (λ r. r.store.store.store.conn) kept ∙ ap (λ v. v.store.store.conn) c.over-store.ensures.store in
    port_over _ _ _ _ (λ rows begins.
    let now = subst (λ conn. HasCleanDisk (state g.S.Store conn)) stood begins.0 in
    let opened = vaults.clean now in (
      subst (λ conn. StandsFor (state g.S.Store conn) rows) (sym stood)
          (vaults.stands now rows
          (stands_with_plan g.S.Store c.in-Ok.opened _ rows (c.in-Ok.ensures.opened.rows begins.1.0 begins.1.1 opened)
          (c.in-Ok.ensures.plan (known_of begins.1.0 (state g.S.Store c.args.conn) begins.1.1) opened)
          begins.1.2)).0.0.0,
      λ found left. c.in-Ok.ensures.opened.alone begins.1.0 begins.1.1 opened found
          (vaults.stop now found (subst (λ conn. MayLeave (state g.S.Store conn) found) stood left)) ∙ sym begins.1.2,
    )))
    c.serve_port-served.result c.serve_port-served.ensures.none c.serve_port-served.ensures.err
