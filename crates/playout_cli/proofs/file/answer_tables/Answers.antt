-- A stream over tables that were made or opened, as over the rows with which they began.
use Rattle.std.proofs.Common.{◌∙◌, ap, sym, subst, IfSome}
use Rattle.sqlite.specs.State.{HasCleanDisk}
use Rattle.sqlite.specs.Held.{state}
use Rattle.station_tables_statements.specs.Rows.{StandsFor}
use Rattle.station_tables.specs.Store.{StandsWithPlan}
use Rattle.station_tables_writing.specs.Tables.{MayLeave}
use Rattle.rows_at_hand.specs.AtHand.{AreVaultsOf}
use Rattle.rows_at_hand.specs.Counted.{AreCounted}
use Rattle.rows_at_hand.proofs.KnownLemmas.{nothing_known}
use Rattle.playout_cli.proofs.ServingLemmas.{serves_on}
use Rattle.playout_cli.proofs.file.answer_tables.Goals as goal

pub returns-in-Ok-done-clause-ok : goal.returns-in-Ok-done-clause-ok
returns-in-Ok-done-clause-ok g c =
    let same =
    c.into_connection-conn.ensures.same
    ∙ ap (λ s. s.conn)
    (c.into_store-tables.ensures ∙ ap (λ d. d.store) (c.into_store-in-Ok.ensures ∙ ap (λ v. v.store) c.into_store.ensures)) in
    let over = c.over-store.ensures.store in
    let vaults = c.with_vaults.ensures in
    let done = c.in-Ok-done.ensures.ok in (
      done.0,
      serves_on _ _ _ _ _ _ _ _ _ _ _ _ _ _
          (λ rows begins. subst (λ conn. HasCleanDisk (state g.S.Store conn)) same begins.0)
          (λ rows clean begins. (
            let now = subst (λ v. HasCleanDisk (state g.S.Store v.store.store.conn)) over clean in
                subst
                (λ v. (StandsWithPlan g.S.Store v.store.store rows × AreCounted rows v.store.channels.items)
                × IfSome v.vaults (AreVaultsOf rows)) (sym over)
                (vaults.stands now rows (c.in-Ok.ensures.rows (vaults.clean now) rows begins.1)),
            nothing_known rows _ c.over-store.ensures.none,
          ))
          (λ rows left begins stands. subst (λ conn. StandsFor (state g.S.Store conn) left) (sym same) stands.0.0.0.0)
          (λ rows found clean begins left.
          let now = subst (λ v. HasCleanDisk (state g.S.Store v.store.store.conn)) over clean in
          c.in-Ok.ensures.alone (vaults.clean now) rows begins.1 found
          (vaults.stop now found (subst (λ v. MayLeave (state g.S.Store v.store.store.conn) found) over left)))
          (λ found left. subst (λ conn. MayLeave (state g.S.Store conn) found) same left)
          done.1,
    )

pub returns-in-Err-done-clause-err : goal.returns-in-Err-done-clause-err
returns-in-Err-done-clause-err g c =
    let same =
    c.into_connection-conn.ensures.same
    ∙ ap (λ s. s.conn)
    (c.into_store-tables.ensures ∙ ap (λ d. d.store) (c.into_store-in-Ok.ensures ∙ ap (λ v. v.store) c.into_store.ensures)) in
    let over = c.over-store.ensures.store in
    let vaults = c.with_vaults.ensures in
    let failed = c.in-Err-done.ensures.err in (
      failed.0,
      failed.1,
      serves_on _ _ _ _ _ _ _ _ _ _ _ _ _ _
          (λ rows begins. subst (λ conn. HasCleanDisk (state g.S.Store conn)) same begins.0)
          (λ rows clean begins. (
            let now = subst (λ v. HasCleanDisk (state g.S.Store v.store.store.conn)) over clean in
                subst
                (λ v. (StandsWithPlan g.S.Store v.store.store rows × AreCounted rows v.store.channels.items)
                × IfSome v.vaults (AreVaultsOf rows)) (sym over)
                (vaults.stands now rows (c.in-Ok.ensures.rows (vaults.clean now) rows begins.1)),
            nothing_known rows _ c.over-store.ensures.none,
          ))
          (λ rows left begins stands. subst (λ conn. StandsFor (state g.S.Store conn) left) (sym same) stands.0.0.0.0)
          (λ rows found clean begins left.
          let now = subst (λ v. HasCleanDisk (state g.S.Store v.store.store.conn)) over clean in
          c.in-Ok.ensures.alone (vaults.clean now) rows begins.1 found
          (vaults.stop now found (subst (λ v. MayLeave (state g.S.Store v.store.store.conn) found) over left)))
          (λ found left. subst (λ conn. MayLeave (state g.S.Store conn) found) same left)
          failed.2,
    )
