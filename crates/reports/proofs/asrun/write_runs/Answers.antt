-- `write_runs`: writes the line of each run, in their order.
use Rattle.std.proofs.Common.{sym, subst, arith, take}
use Rattle.std.specs.List.{flat_map}
use Rattle.report_texts.specs.Output.{AppendsPart}
use Rattle.report_texts.proofs.PartLemmas.{part_behind}
use Rattle.report_texts.specs.Asrun.{run_line}
use Rattle.report_texts.proofs.LineLemmas.{on_err, lines_read, line_read}
use Rattle.reports.proofs.asrun.write_runs.Goals as goal

pub returns-in_err-write_run-clause-err : goal.returns-in_err-write_run-clause-err
returns-in_err-write_run-clause-err g c =
    let line = run_line c.args.plan.now in
    let runs = c.args.runs.now in
    let i = c.loop-run.run-index in
    on_err c.from_residual.result
    (subst (AppendsPart (g.W.Write.contents c.args.output.now) (g.W.Write.contents c.write_run.new.output))
    (sym (lines_read line runs i _ (omega arith)))
    (part_behind _ _ _ (flat_map line (take i runs)) _ _ c.loop-run.invariant c.in_err-write_run.ensures.err))

pub loop-run-preserved : goal.loop-run-preserved
loop-run-preserved g c =
    line_read (run_line c.args.plan.now) c.args.runs.now c.loop-run.run-index _ _ _ _ (omega arith) c.loop-run.invariant
    c.in_ok-write_run.ensures.ok
