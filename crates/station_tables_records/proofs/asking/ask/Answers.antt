-- `ask`: asks a text of SELECT with these values for its parameters: what the rows that it shows stand for.
use Rattle.std.proofs.Common.{Ok}
use Rattle.sqlite.specs.Values.{bound}
use Rattle.station_tables_records.proofs.InsideLemmas.{Queried, reads_inside, reads_on, reads_failed}
use Rattle.station_tables_records.proofs.asking.ask.Goals as goal

pub returns-in_err-rows-clause-reads : goal.returns-in_err-rows-clause-reads
returns-in_err-rows-clause-reads g c =
    let e = c.query_all.ensures in
    let call : Queried g.S.Store c.args.tx.now c.query_all.new.self c.args.text.now (bound c.args.values.now)
    (λ v. v.items) c.query_all.result =
    record { same_reference = e.same_reference; ok = e.ok; err = e.err; survives = e.survives } in
    reads_failed g.S.Store _ _ c.query_all.result c.from_residual.result c.from_residual.ensures.0
    (reads_inside _ _ _ _ _ call c.requires.reading)

pub returns-in_err-read_rows-clause-reads : goal.returns-in_err-read_rows-clause-reads
returns-in_err-read_rows-clause-reads g c =
    let e = c.query_all.ensures in
    let call : Queried g.S.Store c.args.tx.now c.query_all.new.self c.args.text.now (bound c.args.values.now)
    (λ v. v.items) c.query_all.result =
    record { same_reference = e.same_reference; ok = e.ok; err = e.err; survives = e.survives } in
    reads_failed g.S.Store _ _ c.query_all.result c.from_residual-in_err-read_rows.result
    c.from_residual-in_err-read_rows.ensures.0 (reads_inside _ _ _ _ _ call c.requires.reading)

pub returns-clause-reads : goal.returns-clause-reads
returns-clause-reads g c =
    let e = c.in_ok-rows.ensures in
    let call : Queried g.S.Store c.args.tx.now c.query_all.new.self c.args.text.now (bound c.args.values.now)
    (λ v. v.items) (Ok c.in_ok-rows.rows) =
    record { same_reference = e.same_reference; ok = e.ok; err = e.err; survives = e.survives } in
    reads_on g.S.Store _ _ c.in_ok-rows.rows c.in_ok-read_rows.field-0 (reads_inside _ _ _ _ _ call c.requires.reading)
