-- `write_items`: writes the line of each item, in their order.
use Rattle.std.proofs.Common.{sym, subst, arith, take}
use Rattle.std.specs.List.{flat_map}
use Rattle.report_texts.specs.Output.{AppendsPart}
use Rattle.report_texts.proofs.PartLemmas.{part_behind}
use Rattle.report_texts.specs.Playlist.{item_line}
use Rattle.report_texts.proofs.LineLemmas.{on_err, lines_at, line_appended}
use Rattle.reports.proofs.playlist.write_items.Goals as goal

pub returns-in_err-write_item-clause-err : goal.returns-in_err-write_item-clause-err
returns-in_err-write_item-clause-err g c =
    let line = item_line c.args.plan.now in
    let items = c.args.items.now in
    let i = c.loop-item.item-index in
    on_err c.from_residual.result
    (subst (AppendsPart (g.W.Write.contents c.args.output.now) (g.W.Write.contents c.write_item.new.output))
    (sym (lines_at line items i c.item-item.result (omega arith) c.item-item.is))
    (part_behind _ _ _ (flat_map line (take i items)) _ _ c.loop-item.invariant c.in_err-write_item.ensures.err))

pub loop-item-preserved : goal.loop-item-preserved
loop-item-preserved g c =
    line_appended (item_line c.args.plan.now) c.args.items.now c.loop-item.item-index c.item-item.result _ _ _
    (omega arith) c.item-item.is c.loop-item.invariant c.in_ok-write_item.ensures.ok
