-- `decide_on_day`: the reply and the change of a command on a day of this channel.
use Rattle.std.proofs.Common.{◌∙◌, sym, ap}
use Rattle.std.proofs.lemmas.Result.{IfOk-weaker}
use Rattle.channel_view_model.specs.Decide.{day_decision, item_added}
use Rattle.channel_view_model.specs.Days.{item_of_said}
use Rattle.channel_view_decisions.proofs.day_decisions.decide_on_day.Goals as goal

pub returns-in-AddItem : goal.returns-in-AddItem
unfolding day_decision
returns-in-AddItem g c =
    let day = c.args.day.now in
    let plan = c.args.plan.now in
    let seen = g.S.Sources.seen c.args.sources.now in
    IfOk-weaker c.add_item.result _ _
    (λ d is. is ∙ ap (λ said. item_added day (item_of_said day plan seen said)) c.new_item-said.ensures.item
    ∙ ap (day_decision plan day seen) (sym c.in-AddItem.is)) c.add_item.ensures

pub returns-in-Open : goal.returns-in-Open
returns-in-Open g c =
    let day = c.args.day.now in
    let plan = c.args.plan.now in
    let seen = g.S.Sources.seen c.args.sources.now in
    IfOk-weaker c.open.result _ _ (λ d is. is ∙ ap (day_decision plan day seen) (sym c.in-Open.is))
    (c.open.ensures plan seen)

pub returns-in-RemoveItem : goal.returns-in-RemoveItem
returns-in-RemoveItem g c =
    let day = c.args.day.now in
    let plan = c.args.plan.now in
    let seen = g.S.Sources.seen c.args.sources.now in
    IfOk-weaker c.remove_item.result _ _ (λ d is. is ∙ ap (day_decision plan day seen) (sym c.in-RemoveItem.is))
    (c.remove_item.ensures plan seen)

pub returns-in-WritePlan : goal.returns-in-WritePlan
returns-in-WritePlan g c =
    let day = c.args.day.now in
    let plan = c.args.plan.now in
    let seen = g.S.Sources.seen c.args.sources.now in
    IfOk-weaker c.write_table.result _ _ (λ d is. is ∙ ap (day_decision plan day seen) (sym c.in-WritePlan.is))
    (c.write_table.ensures seen)
