-- `write_plan`: writes the plan table of a day of this channel: its first line, the line of each item, by position.
use Rattle.std.proofs.Common.{[], ◌++◌, ◌∙◌, ap, subst}
use Rattle.std.specs.List.{flat_map}
use Rattle.std.specs.Io.KnownBytes.{Appends}
use Rattle.std.proofs.lemmas.List.{append_assoc, append-nil}
use Rattle.report_texts.specs.Output.{AppendsPart}
use Rattle.report_texts.proofs.PartLemmas.{nothing_yet, on_err, part_behind, whole_behind}
use Rattle.report_texts.specs.Playlist.{item_line, plan_end, plan_head}
use Rattle.reports.proofs.playlist.write_plan.Goals as goal

pub returns-in_err-write_plan_head-clause-err : goal.returns-in_err-write_plan_head-clause-err
returns-in_err-write_plan_head-clause-err g c =
    let day = c.args.day.now in
    on_err c.from_residual.result
    (part_behind _ _ _ [] (plan_head day) (flat_map (item_line c.args.plan.now) day.items ++ plan_end day)
    (nothing_yet (g.W.Write.contents c.args.output.now)) c.in_err-write_plan_head.ensures.err)

pub returns-in_err-write_items-clause-err : goal.returns-in_err-write_items-clause-err
returns-in_err-write_items-clause-err g c =
    let day = c.args.day.now in
    let line = item_line c.args.plan.now in
    on_err c.from_residual-in_err-write_items.result
    (subst
    (λ items. AppendsPart (g.W.Write.contents c.args.output.now) (g.W.Write.contents c.write_items.new.output)
    (plan_head day ++ (flat_map line items ++ plan_end day))) c.items.ensures
    (part_behind _ _ _ (plan_head day) (flat_map line c.items.result.now) (plan_end day)
    c.in_ok-write_plan_head.ensures.ok c.in_err-write_items.ensures.err))

pub returns-in_err-write_plan_end-clause-err : goal.returns-in_err-write_plan_end-clause-err
returns-in_err-write_plan_end-clause-err g c =
    let day = c.args.day.now in
    let line = item_line c.args.plan.now in
    let lines = flat_map line day.items in
    let written = g.W.Write.contents c.args.output.now in
    let behind : Appends written (g.W.Write.contents c.write_items.new.output) (plan_head day ++ lines) =
    subst
    (λ items. Appends written (g.W.Write.contents c.write_items.new.output) (plan_head day ++ flat_map line items))
    c.items.ensures
    (whole_behind _ _ _ (plan_head day) (flat_map line c.items.result.now) c.in_ok-write_plan_head.ensures.ok
    c.in_ok-write_items.ensures.ok) in
    on_err c.from_residual-in_err-write_plan_end.result
    (subst (AppendsPart written (g.W.Write.contents c.write_plan_end.new.output))
    (ap (λ l. (plan_head day ++ lines) ++ l) (append-nil (plan_end day))
    ∙ append_assoc (plan_head day) lines (plan_end day))
    (part_behind _ _ _ (plan_head day ++ lines) (plan_end day) [] behind c.in_err-write_plan_end.ensures.err))
