-- `write_match`: writes the match table of these runs of a day of this channel: the line of each run, in their order.
use Rattle.std.proofs.Common.{[], ◌++◌, ap, subst}
use Rattle.std.specs.List.{flat_map}
use Rattle.std.proofs.lemmas.List.{append-nil}
use Rattle.report_texts.specs.Output.{AppendsPart}
use Rattle.report_texts.proofs.PartLemmas.{nothing_yet, part_behind}
use Rattle.report_texts.specs.Asrun.{match_end, run_line}
use Rattle.report_texts.proofs.LineLemmas.{on_err, map_err}
use Rattle.reports.proofs.asrun.write_match.Goals as goal

pub returns-in_err-write_runs-clause-err : goal.returns-in_err-write_runs-clause-err
returns-in_err-write_runs-clause-err g c =
    on_err c.from_residual.result
    (part_behind _ _ _ [] (flat_map (run_line c.args.plan.now) c.args.runs.now) _
    (nothing_yet (g.W.Write.contents c.args.output.now)) c.in_err-write_runs.ensures.err)

pub returns-clause-err : goal.returns-clause-err
returns-clause-err g c =
    let lines = flat_map (run_line c.args.plan.now) c.args.runs.now in
    let end = match_end c.args.runs.now in
    map_err c.write_match_end.result
    (λ part. subst
    (AppendsPart (g.W.Write.contents c.args.output.now) (g.W.Write.contents c.write_match_end.new.output))
    (ap (λ l. lines ++ l) (append-nil end))
    (part_behind _ _ _ lines end [] c.in_ok-write_runs.ensures.ok part))
    c.write_match_end.ensures.err
