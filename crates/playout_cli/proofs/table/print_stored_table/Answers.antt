-- A table printed from those of a database.
use Rattle.std.proofs.Common.{◌≡◌, [], inl, inr, sym, subst}
use Rattle.std.specs.Prelude.{IfErr}
use Rattle.std.proofs.lemmas.Result.{IfErr-weaker}
use Rattle.sqlite.specs.State.{HasCleanDisk}
use Rattle.sqlite.specs.Held.{state}
use Rattle.playout_actions.specs.Tables.{PrintsTable, TableHas, IsTableFault}
use Rattle.station_tables_statements.specs.Rows.{StandsFor}
use Rattle.playout_cli.specs.Kept.{BeginsWith}
use Rattle.station_tables_opening.specs.Opens.{RefusesToOpen}
use Rattle.station_tables_opening.proofs.FindLemmas.{known_of}
use Rattle.playout_cli.proofs.KeptLemmas.{stands_with_plan}
use Rattle.playout_cli.proofs.ServingLemmas.{ok_where, err_where, table_has}
use Rattle.playout_cli.proofs.table.print_stored_table.Goals as goal

pub returns-in-Ok-clause-ok : goal.returns-in-Ok-clause-ok
returns-in-Ok-clause-ok g c = ok_where (BeginsWith [] (state g.S.Store c.args.conn))
    (λ rows. PrintsTable rows c.args.channel c.args.table (g.W.Write.contents c.args.output.now)
    (g.W.Write.contents c.print_table-done.new.output)) c.print_table-done.result (λ clean rows begins.
    let done = c.print_table-done.ensures in
    let now = subst (λ conn. HasCleanDisk (state g.S.Store conn)) c.into_connection.ensures.same clean in
    done.ok now rows
    (stands_with_plan g.S.Store c.in-Ok.store _ rows (c.in-Ok.ensures.opened.rows begins.0 begins.1 (done.clean now))
    (c.in-Ok.ensures.plan (known_of begins.0 (state g.S.Store c.args.conn) begins.1) (done.clean now)) begins.2))

pub returns-in-Ok-clause-err : goal.returns-in-Ok-clause-err
returns-in-Ok-clause-err g c = err_where (BeginsWith [] (state g.S.Store c.args.conn))
    (λ rows. TableHas rows c.args.channel c.args.table (g.W.Write.contents c.args.output.now)
    (g.W.Write.contents c.print_table-done.new.output)) c.print_table-done.result (λ clean rows begins.
    let done = c.print_table-done.ensures in
    let now = subst (λ conn. HasCleanDisk (state g.S.Store conn)) c.into_connection.ensures.same clean in
    done.err now rows
    (stands_with_plan g.S.Store c.in-Ok.store _ rows (c.in-Ok.ensures.opened.rows begins.0 begins.1 (done.clean now))
    (c.in-Ok.ensures.plan (known_of begins.0 (state g.S.Store c.args.conn) begins.1) (done.clean now)) begins.2))

pub returns-in-Ok-clause-faults : goal.returns-in-Ok-clause-faults
returns-in-Ok-clause-faults g c = IfErr-weaker c.print_table-done.result _ _ table_has c.print_table-done.ensures.faults

pub returns-in-Ok-clause-same : goal.returns-in-Ok-clause-same
returns-in-Ok-clause-same g c clean rows begins =
    let same = c.into_connection.ensures.same in
    let done = c.print_table-done.ensures in
    let now = subst (λ conn. HasCleanDisk (state g.S.Store conn)) same clean in
    inl (subst (λ conn. StandsFor (state g.S.Store conn) rows) (sym same)
    (done.same now rows
    (stands_with_plan g.S.Store c.in-Ok.store _ rows (c.in-Ok.ensures.opened.rows begins.0 begins.1 (done.clean now))
    (c.in-Ok.ensures.plan (known_of begins.0 (state g.S.Store c.args.conn) begins.1) (done.clean now)) begins.2)).0)

pub returns-in-Ok-clause-refused : goal.returns-in-Ok-clause-refused
returns-in-Ok-clause-refused g c refusal same =
    inr (subst (λ r. IfErr r IsTableFault) same c.print_table-done.ensures.faults)

pub returns-in-Err-clause-refused : goal.returns-in-Err-clause-refused
returns-in-Err-clause-refused g c refusal same =
    let is : c.in-Err.refusal ≡ refusal = cc in
    inl (subst (RefusesToOpen (state g.S.Store c.args.conn) (state g.S.Store c.in-Err.conn)) is
    c.in-Err.ensures.refused)
