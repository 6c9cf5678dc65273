-- `run_all`: runs these texts, one after another.
use Rattle.std.proofs.Common.{map, arith, sym, subst}
use Rattle.std.specs.Prelude.{OnOk}
use Rattle.sqlite.specs.State.{HasCleanDisk}
use Rattle.station_tables_records.specs.Inside.{inside}
use Rattle.station_tables_statements.proofs.LookLemmas.{weaker}
use Rattle.station_tables_writing.specs.Tables.{RanAll}
use Rattle.station_tables_writing.proofs.creating.+run_all.Goals as goal

pub returns-clause-ran : goal.returns-clause-ran
returns-clause-ran g depth c clean =
    let early : HasCleanDisk (inside g.S.Store c.run.new.tx) =
    omega (arith, c.run_all.ensures.writes.survives.clean, clean) in
    subst
    (λ texts. OnOk c.run_all.result
    (RanAll g.S.Store (map (λ text. text.now) texts) c.args.tx.now c.run_all.new.tx))
    (sym c.in-Some.ensures.cases.0)
    (weaker c.run_all.result (λ others. (c.run.new.tx, c.in_ok-run.ensures.ran early, others))
    (c.run_all.ensures.ran clean))
