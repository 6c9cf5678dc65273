-- `write_lines`: writes the line of each lent clip, in their order.
use Rattle.std.proofs.Common.{sym, subst, arith, take}
use Rattle.std.specs.List.{flat_map}
use Rattle.report_texts.specs.Output.{AppendsPart}
use Rattle.report_texts.proofs.PartLemmas.{part_behind}
use Rattle.report_texts.specs.Lent.{lent_line}
use Rattle.report_texts.proofs.LineLemmas.{on_err, lines_at, line_appended}
use Rattle.reports.proofs.lent.write_lines.Goals as goal

pub returns-in_err-write_grant-clause-err : goal.returns-in_err-write_grant-clause-err
returns-in_err-write_grant-clause-err g c =
    let line = lent_line in
    let grants = c.args.grants.now in
    let i = c.loop-grant.grant-index in
    on_err c.from_residual.result
    (subst (AppendsPart (g.W.Write.contents c.args.output.now) (g.W.Write.contents c.write_grant.new.output))
    (sym (lines_at line grants i c.grant-item.result (omega arith) c.grant-item.is))
    (part_behind _ _ _ (flat_map line (take i grants)) _ _ c.loop-grant.invariant c.in_err-write_grant.ensures.err))

pub loop-grant-preserved : goal.loop-grant-preserved
loop-grant-preserved g c =
    line_appended lent_line c.args.grants.now c.loop-grant.grant-index c.grant-item.result _ _ _ (omega arith)
    c.grant-item.is c.loop-grant.invariant c.in_ok-write_grant.ensures.ok
