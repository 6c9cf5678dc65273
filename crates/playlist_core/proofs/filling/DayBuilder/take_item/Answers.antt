-- `DayBuilder::take_item`: adds the item of `DayPlan::item_in` and gives its number.
use Rattle.std.proofs.Common.{◌∙◌, refl, sym, ap}
use Rattle.playlist_core.specs.declared.item.Item.{Item}
use Rattle.playlist_core.specs.Day.{with_item}
use Rattle.playlist_core.proofs.AddLemmas.{IsAccepted, accepted, numbered_rules}
use Rattle.playlist_core.proofs.filling.DayBuilder.take_item.Goals as goal

pub insert-requires-clause-rules : goal.insert-requires-clause-rules
insert-requires-clause-rules g c =
    let seen = g.S.Sources.seen c.args.sources.now in
    let new = c.args.new.now in
    let item = c.in_ok-item.item in
    numbered_rules c.args.self.now c.keep_the_rules.ensures.rules c.keep_the_rules.ensures.open new c.requires.some
    c.requires.mix c.requires.kind item
    (accepted c.args.self.now c.args.plan.now seen new item (sym c.in_ok-item.ensures))

pub insert-requires-clause-number : goal.insert-requires-clause-number
insert-requires-clause-number g c =
    let taken : IsAccepted c.args.self.now c.args.new.now c.in_ok-item.item =
    accepted c.args.self.now c.args.plan.now (g.S.Sources.seen c.args.sources.now) c.args.new.now c.in_ok-item.item
    (sym c.in_ok-item.ensures) in
    taken.number

pub returns-in-Ok-clause-taken : goal.returns-in-Ok-clause-taken
returns-in-Ok-clause-taken g c =
    let item = c.in_ok-item.item in
    let taken : IsAccepted c.args.self.now c.args.new.now item =
    accepted c.args.self.now c.args.plan.now (g.S.Sources.seen c.args.sources.now) c.args.new.now item
    (sym c.in_ok-item.ensures) in (
      item,
      sym c.in_ok-item.ensures,
      refl,
      c.in-Ok.ensures.ok
          ∙ ap (λ (i : Item). with_item i c.args.self.now) (sym taken.is),
    )
