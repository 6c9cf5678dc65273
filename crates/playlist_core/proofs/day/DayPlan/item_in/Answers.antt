-- `DayPlan::item_in`: the item that the day takes, which has a frame or more, whatever state the day is in.
use Rattle.std.proofs.Common.{◌≡◌, ◌∙◌, ℕ, Ok, Err, List, sym, ap, subst}
use Rattle.std.specs.Prelude.{Option, Some, None}
use Rattle.channel_plan.specs.declared.plan.PlanRow.{PlanRow}
use Rattle.playlist_core.specs.declared.item.Item.{Item}
use Rattle.playlist_core.specs.declared.item.NewItem.{NewItem}
use Rattle.playlist_core.specs.Picture.{first_painted, picture_of}
use Rattle.playlist_core.specs.Order.{AreApart}
use Rattle.playlist_core.specs.Item.{planned}
use Rattle.playlist_core.specs.Day.{Day, free_number, picture_in, with_number}
use Rattle.playlist_core.specs.Filling.{fitting_source}
use Rattle.playlist_core.proofs.FillingLemmas.{item_in-found, item_in-placed, placed_in}
use Rattle.playlist_core.proofs.day.DayPlan.item_in.Goals as goal

pub returns-in-Err : goal.returns-in-Err
returns-in-Err g c =
    let day : Day = c.args.self.now in
    let seen = g.S.Sources.seen c.args.sources.now in
    let fits : Err c.in-Err.refusal ≡ fitting_source day.number day.frames c.args.plan.now seen c.args.new.now =
    c.in-Err.ensures.source
    ∙ ap (λ (d : Day). fitting_source d.number d.frames c.args.plan.now seen c.args.new.now) c.self.view_is in
    ap (placed_in day c.args.plan.now c.args.new.now) fits
    ∙ sym (item_in-placed day c.args.plan.now seen c.args.new.now)

-- what is found among the items of the day
found_in : (made day : Day) → made ≡ day → (items : List Item) → items ≡ made.items → (new : NewItem) (found : Option ℕ)
    → found ≡ first_painted new.pos new.frames (picture_of planned made.frames items)
    → found ≡ first_painted new.pos new.frames (picture_in day)
found_in made day view items same new found is_found =
    is_found
    ∙ ap (λ (is : List Item). first_painted new.pos new.frames (picture_of planned made.frames is)) same
    ∙ ap (λ (d : Day). first_painted new.pos new.frames (picture_in d)) view

-- a place that is taken
pub returns-in-Some : goal.returns-in-Some
returns-in-Some g c =
    let day : Day = c.args.self.now in
    let plan : PlanRow = c.args.plan.now in
    let seen = g.S.Sources.seen c.args.sources.now in
    let new : NewItem = c.args.new.now in
    let frames = c.self.inside.frames in
    let apart : AreApart planned 0 frames c.deref.result.now =
    subst (AreApart planned 0 frames) (sym c.deref.ensures.value) c.self.invariant.apart in
    ap Err c.refusal_at.ensures
    ∙ item_in-found day plan seen new c.in-Ok.source (Some c.in-Some.taken)
    (c.in-Ok.ensures.source ∙ ap (λ (d : Day). fitting_source d.number d.frames plan seen new) c.self.view_is)
    (found_in _ day c.self.view_is c.deref.result.now c.deref.ensures.value new (Some c.in-Some.taken)
    (c.in-Some.ensures frames apart c.in-Ok.ensures.within))

-- and one that isn't
pub returns-in-None : goal.returns-in-None
returns-in-None g c =
    let day : Day = c.args.self.now in
    let plan : PlanRow = c.args.plan.now in
    let seen = g.S.Sources.seen c.args.sources.now in
    let new : NewItem = c.args.new.now in
    let frames = c.self.inside.frames in
    let apart : AreApart planned 0 frames c.deref.result.now =
    subst (AreApart planned 0 frames) (sym c.deref.ensures.value) c.self.invariant.apart in
    c.numbered.ensures
    ∙ ap (λ n. with_number n c.in-Ok.source new)
    (c.free_number.ensures ∙ ap free_number c.deref-in-None.ensures.value
    ∙ ap (λ (d : Day). free_number d.items) c.self.view_is)
    ∙ item_in-found day plan seen new c.in-Ok.source None
    (c.in-Ok.ensures.source ∙ ap (λ (d : Day). fitting_source d.number d.frames plan seen new) c.self.view_is)
    (found_in _ day c.self.view_is c.deref.result.now c.deref.ensures.value new None
    (c.in-None.ensures frames apart c.in-Ok.ensures.within))
