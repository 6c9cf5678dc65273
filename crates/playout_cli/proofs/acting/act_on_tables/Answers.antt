-- What was done over tables.
use Rattle.std.proofs.KnownBytes.{Keeps-refl}
use Rattle.sqlite.specs.Held.{state}
use Rattle.playout_actions.specs.Office.{office_of}
use Rattle.playout_actions.specs.Tables.{table_of}
use Rattle.playout_lists.specs.Telling.{has_told}
use Rattle.playout_cli.specs.Acting.{known_of}
use Rattle.playout_cli.proofs.ActingLemmas.{concludes, both, where_refused, acts_on_port, prints_table, stays}
use Rattle.playout_cli.proofs.acting.act_on_tables.Goals as goal

pub returns-in-AnswerFile-clause-does : goal.returns-in-AnswerFile-clause-does
returns-in-AnswerFile-clause-does g c =
    let done = c.answer_tables-conn.ensures in
    let r = c.answer_tables-conn.result.1 in
    rw c.in-AnswerFile.is
    (concludes
    (office_of g.R.Read.remaining g.W.Write.contents g.E.Write.contents c.args.input.now
    c.answer_tables-conn.new.input c.args.output.now c.answer_tables-conn.new.output c.args.faults.now
    c.exit_status.new.faults c.exit_status.result)
    _ _ r done.ok (both _ _ r done.err (where_refused _ r done.refused)) c.exit_status.ensures)

pub returns-in-Serve-clause-does : goal.returns-in-Serve-clause-does
returns-in-Serve-clause-does g c =
    let served = c.serve_tables-conn.ensures in
    let told = c.served_status.ensures in
    let r = c.serve_tables-conn.result.1 in
    rw c.in-Serve.is (
      Keeps-refl _,
      (
        r,
        served.says,
        acts_on_port
            (office_of g.R.Read.remaining g.W.Write.contents g.E.Write.contents c.args.input.now c.args.input.now
            c.args.output.now c.serve_tables-conn.new.output c.args.faults.now c.served_status.new.faults
            c.served_status.result)
            (known_of (state g.S.Store c.args.conn) (state g.S.Store c.serve_tables-conn.result.0)) c.in-Serve.turns
            (has_told g.E.Write.contents c.serve_tables-conn.new.faults)
            r served.ok served.err served.refused served.untold told.kept told.value told.fault,
      ),
    )

pub returns-in-Table-clause-does : goal.returns-in-Table-clause-does
returns-in-Table-clause-does g c =
    let done = c.print_stored_table-conn.ensures in
    let r = c.print_stored_table-conn.result.1 in
    let old = state g.S.Store c.args.conn in
    let new = state g.S.Store c.print_stored_table-conn.result.0 in
    rw c.in-Table.is (
      Keeps-refl _,
      prints_table
          (office_of g.R.Read.remaining g.W.Write.contents g.E.Write.contents c.args.input.now c.args.input.now
          c.args.output.now c.print_stored_table-conn.new.output c.args.faults.now c.exit_status-in-Table.new.faults
          c.exit_status-in-Table.result)
          old new c.in-Table.channel (table_of c.in-Table.table) c.table_of-table.result r c.table_of-table.ensures
          done.ok done.err done.faults done.refused c.exit_status-in-Table.ensures,
      stays old new done.same,
    )
