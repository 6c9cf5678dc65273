-- `DayBuilder::insert`: puts in the item of a source, with the least free number, with which the day keeps the rules.
use Rattle.std.proofs.Common.{◌≡◌, ◌∙◌, ◌+◌, refl, sym, ap, subst}
use Rattle.std.specs.Prelude.{nat_lt, insert}
use Rattle.std.specs.List.{position_or_len}
use Rattle.playlist_core.specs.declared.item.Item.{Item}
use Rattle.playlist_core.specs.declared.day.DayState.TheVariants.{Open}
use Rattle.playlist_core.specs.Item.{numbered, planned}
use Rattle.playlist_core.specs.Day.{Day, KeepsDayRules, free_number, with_item}
use Rattle.playlist_core.specs.Filling.{AreMarked}
use Rattle.playlist_core.proofs.OrderLemmas.{ends_behind}
use Rattle.playlist_core.proofs.AddLemmas.{inserted}
use Rattle.playlist_core.proofs.FillingLemmas.{free_marked, marked_put}
use Rattle.playlist_core.proofs.filling.DayBuilder.insert.Goals as goal

pub take-requires : goal.take-requires
take-requires c =
    free_marked c.self.inside.numbers c.self.inside.items.items c.self.invariant.1
    ∙ ap (λ (d : Day). free_number d.items) c.self.view_is
    ∙ c.requires.number

pub returns-clause-ok : goal.returns-clause-ok
returns-clause-ok c =
    let day : Day =
    record {
      number = c.self.inside.number;
      frames = c.self.inside.frames;
      state = Open;
      items =
          c.self.inside.items.items;
    } in
    let item : Item = numbered c.args.number c.args.source c.args.new.now in
    inserted day item day.items c.place_for-place.result c.insert.new.self.items refl
    (c.place_for-place.ensures.value
    ∙ ap (λ (d : Day). position_or_len (λ i. nat_lt item.pos (i.pos + i.frames)) d.items) (sym c.self.view_is))
    (c.in_ok-insert.ensures.items ∙ ap (insert day.items c.place_for-place.result) c.numbered.ensures)
    ∙ ap (with_item item) c.self.view_is

pub invariant_of-self-2 : goal.invariant_of-self-2
invariant_of-self-2 c =
    let day : Day =
    record {
      number = c.self.inside.number;
      frames = c.self.inside.frames;
      state = Open;
      items =
          c.self.inside.items.items;
    } in
    let item : Item = numbered c.args.number c.args.source c.args.new.now in
    let whole : record day { items = c.insert.new.self.items } ≡ with_item item day =
    inserted day item day.items c.place_for-place.result c.insert.new.self.items refl
    (c.place_for-place.ensures.value
    ∙ ap (λ (d : Day). position_or_len (λ i. nat_lt item.pos (i.pos + i.frames)) d.items) (sym c.self.view_is))
    (c.in_ok-insert.ensures.items ∙ ap (insert day.items c.place_for-place.result) c.numbered.ensures) in (
      subst KeepsDayRules (sym (whole ∙ ap (with_item item) c.self.view_is)) c.requires.rules,
      subst (AreMarked c.take.new.self) (sym (ap (λ (d : Day). d.items) whole))
          (marked_put (ends_behind planned item.pos) item c.self.inside.numbers c.take.new.self day.items
          c.self.invariant.1 c.take.ensures),
    )
