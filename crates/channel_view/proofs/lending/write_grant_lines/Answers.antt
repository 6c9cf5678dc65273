-- `write_grant_lines`: writes the line of each clip that is lent to the channel, in their order.
use Rattle.std.proofs.Common.{sym, ◌∙◌, ap, subst, arith, take}
use Rattle.std.specs.List.{flat_map}
use Rattle.std.specs.Io.KnownBytes.{Appends}
use Rattle.std.proofs.lemmas.List.{take_all}
use Rattle.std.proofs.lemmas.Grind.{common_steps}
use Rattle.report_texts.specs.Output.{AppendsPart}
use Rattle.report_texts.proofs.PartLemmas.{part_behind}
use Rattle.report_texts.proofs.LineLemmas.{on_err, lines_at, line_appended}
use Rattle.channel_view_model.specs.Seen.{grant_lines}
use Rattle.channel_view_model.proofs.LentLemmas.{lines_of_grants}
use Rattle.channel_view.proofs.LabelLemmas.{one_unlabelled}
use Rattle.channel_view.proofs.lending.write_grant_lines.Goals as goal

pub returns-in_err-write_if_lent-clause-err : goal.returns-in_err-write_if_lent-clause-err
returns-in_err-write_if_lent-clause-err g c =
    let line = grant_lines c.args.channel in
    let rows = c.args.offers.now in
    let i = c.loop-row.row-index in
    on_err c.from_residual.result
    (subst (AppendsPart (g.W.Write.contents c.args.output.now) (g.W.Write.contents c.write_if_lent.new.output))
    (sym (lines_at line rows i c.row-item.result (omega arith) c.row-item.is) ∙ lines_of_grants c.args.channel rows)
    (part_behind _ _ _ (flat_map line (take i rows)) _ _ c.loop-row.invariant c.in_err-write_if_lent.ensures.err))

pub returns-in_err-write_if_lent-clause-unlabelled : goal.returns-in_err-write_if_lent-clause-unlabelled
returns-in_err-write_if_lent-clause-unlabelled g c =
    let one =
    one_unlabelled c.args.channel c.args.offers.now c.loop-row.row-index c.row-item.result (omega arith)
    c.row-item.is in
    grind (arith, common_steps, one)

pub loop-row-preserved : goal.loop-row-preserved
loop-row-preserved g c =
    line_appended (grant_lines c.args.channel) c.args.offers.now c.loop-row.row-index c.row-item.result _ _ _
    (omega arith) c.row-item.is c.loop-row.invariant c.in_ok-write_if_lent.ensures.ok

pub returns-clause-ok : goal.returns-clause-ok
returns-clause-ok g c =
    let line = grant_lines c.args.channel in
    let rows = c.args.offers.now in
    subst (Appends (g.W.Write.contents c.args.output.now) (g.W.Write.contents c.loop-row.output))
    (ap (flat_map line) (take_all c.loop-row.row-index rows (omega arith)) ∙ lines_of_grants c.args.channel rows)
    c.loop-row.invariant
