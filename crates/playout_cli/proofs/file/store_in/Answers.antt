-- Tables that are made for a plan, or opened.
use Rattle.std.proofs.Common.{sym, ◌∙◌}
use Rattle.std.proofs.lemmas.Result.{IfOk-weaker, IfErr-weaker}
use Rattle.sqlite.specs.Held.{state}
use Rattle.station_tables_opening.proofs.FindLemmas.{known_of}
use Rattle.station_tables.proofs.KeptLemmas.{ok_both}
use Rattle.playout_cli.proofs.KeptLemmas.{begins_found, begins_bare, stands_with_plan, nothing_committed}
use Rattle.playout_cli.proofs.ServingLemmas.{opened_refused, made_refused}
use Rattle.playout_cli.proofs.file.store_in.Goals as goal

pub returns-then-is_empty-clause-rows : goal.returns-then-is_empty-clause-rows
returns-then-is_empty-clause-rows g c = ok_both c.open_tables.result (λ s opens kept clean rows begins.
    let found =
    begins_found c.args.plan.now (state g.S.Store c.args.conn) rows (sym c.is_empty.ensures ∙ c.if-is_empty.true)
    begins in
    stands_with_plan g.S.Store s _ rows (opens.rows found.0 found.1 clean)
    (kept (known_of found.0 (state g.S.Store c.args.conn) found.1) clean) found.2)
    c.open_tables.ensures.opened c.open_tables.ensures.plan

pub returns-then-is_empty-clause-kept : goal.returns-then-is_empty-clause-kept
returns-then-is_empty-clause-kept g c =
    IfErr-weaker c.open_tables.result _ _ (λ e refuses clean. refuses.before clean) c.open_tables.ensures.refused

pub returns-else-is_empty-clause-rows : goal.returns-else-is_empty-clause-rows
returns-else-is_empty-clause-rows g c = ok_both c.create.result (λ s creates kept clean rows begins.
    let made =
    begins_bare c.args.plan.now (state g.S.Store c.args.conn) rows (sym c.is_empty.ensures ∙ c.if-is_empty.false)
    begins in
    stands_with_plan g.S.Store s _ rows (creates.rows made.0 clean) kept made.1) c.create.ensures.made
    c.create.ensures.plan

pub returns-else-is_empty-clause-kept : goal.returns-else-is_empty-clause-kept
returns-else-is_empty-clause-kept g c =
    IfErr-weaker c.create.result _ _
    (λ e refuses clean. nothing_committed (state g.S.Store c.args.conn) (state g.S.Store e.0)
    (refuses.before clean)) c.create.ensures.refused

pub returns-then-is_empty-clause-refused : goal.returns-then-is_empty-clause-refused
returns-then-is_empty-clause-refused g c = IfErr-weaker c.open_tables.result _ _
    (λ e refuses. opened_refused c.args.plan.now (state g.S.Store c.args.conn) (state g.S.Store e.0) e.1
    (sym c.is_empty.ensures ∙ c.if-is_empty.true) refuses) c.open_tables.ensures.refused

pub returns-else-is_empty-clause-refused : goal.returns-else-is_empty-clause-refused
returns-else-is_empty-clause-refused g c = IfErr-weaker c.create.result _ _
    (λ e refuses. made_refused c.args.plan.now (state g.S.Store c.args.conn) (state g.S.Store e.0) e.1
    (sym c.is_empty.ensures ∙ c.if-is_empty.false) refuses) c.create.ensures.refused

pub returns-then-is_empty-clause-alone : goal.returns-then-is_empty-clause-alone
returns-then-is_empty-clause-alone g c = IfOk-weaker c.open_tables.result _ _ (λ s opens clean rows begins left may.
    let found =
    begins_found c.args.plan.now (state g.S.Store c.args.conn) rows (sym c.is_empty.ensures ∙ c.if-is_empty.true)
    begins in
    opens.alone found.0 found.1 clean left may ∙ sym found.2) c.open_tables.ensures.opened

pub returns-else-is_empty-clause-alone : goal.returns-else-is_empty-clause-alone
returns-else-is_empty-clause-alone g c = IfOk-weaker c.create.result _ _ (λ s creates clean rows begins left may.
    let made =
    begins_bare c.args.plan.now (state g.S.Store c.args.conn) rows (sym c.is_empty.ensures ∙ c.if-is_empty.false)
    begins in
    creates.alone made.0 clean left may ∙ sym made.1) c.create.ensures.made
