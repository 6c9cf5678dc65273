-- `DayBuilder::item_in`: the item that the day takes, which has a frame or more.
use Rattle.std.proofs.Common.{◌≡◌, ◌∙◌, Ok, Err, sym, ap}
use Rattle.channel_plan.specs.declared.plan.PlanRow.{PlanRow}
use Rattle.playlist_core.specs.declared.item.NewItem.{NewItem}
use Rattle.playlist_core.specs.declared.source.Source.{Source}
use Rattle.playlist_core.specs.Day.{Day, unless_taken, with_number}
use Rattle.playlist_core.specs.Filling.{fitting_source}
use Rattle.playlist_core.proofs.FillingLemmas.{item_in-found, item_in-placed, placed_in}
use Rattle.playlist_core.proofs.filling.DayBuilder.item_in.Goals as goal

pub returns-in-Err : goal.returns-in-Err
returns-in-Err g c =
    let day : Day = c.args.self.now in
    let seen = g.S.Sources.seen c.args.sources.now in
    let fits : Err c.in-Err.refusal ≡ fitting_source day.number day.frames c.args.plan.now seen c.args.new.now =
    c.in-Err.ensures.source
    ∙ ap (λ (d : Day). fitting_source d.number d.frames c.args.plan.now seen c.args.new.now) c.self.view_is in
    ap (placed_in day c.args.plan.now c.args.new.now) fits
    ∙ sym (item_in-placed day c.args.plan.now seen c.args.new.now)

pub returns-in-Ok : goal.returns-in-Ok
returns-in-Ok g c =
    let day : Day = c.args.self.now in
    let plan : PlanRow = c.args.plan.now in
    let seen = g.S.Sources.seen c.args.sources.now in
    let new : NewItem = c.args.new.now in
    let source : Source = c.in-Ok.source in
    let found = c.first_taken-taken.result in
    c.placed.ensures
    ∙ ap (λ n. unless_taken plan found (with_number n source new)) c.free_number.ensures
    ∙ item_in-found day plan seen new source found
    (c.in-Ok.ensures.source ∙ ap (λ (d : Day). fitting_source d.number d.frames plan seen new) c.self.view_is)
    c.first_taken-taken.ensures
