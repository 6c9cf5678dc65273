-- `DayPlan::take_out`: takes the item of a number out of an open day.
use Rattle.std.proofs.Common.{◌∙◌, sym, ap, subst}
use Rattle.std.specs.Prelude.{find}
use Rattle.playlist_core.specs.Day.{Day, KeepsDayRules, picture_in, without_item}
use Rattle.playlist_core.proofs.RemoveLemmas.{has, found_none, removed_day, rules-without_item, picture-without_item}
use Rattle.playlist_core.proofs.RemoveLemmas.{found_item}
use Rattle.playlist_core.proofs.day.DayPlan.take_out.Goals as goal

pub returns-in_default-clause-found : goal.returns-in_default-clause-found
returns-in_default-clause-found c =
    found_none c.args.number c.args.self.now c.deref.result.now
    (c.deref.ensures.value ∙ ap (λ (d : Day). d.items) c.self.view_is) (sym c.in_default.is ∙ c.place_of.ensures)

pub invariant_of-self : goal.invariant_of-self
invariant_of-self c =
    let day : Day =
    record {
      number = c.self.inside.number;
      frames = c.self.inside.frames;
      state = c.self.inside.state;
      items =
          c.self.inside.items.items;
    } in
    subst KeepsDayRules
    (sym (removed_day c.args.number day c.deref.result.now c.in-Some.place c.remove.new.self.items c.self.invariant
    c.deref.ensures.value (sym c.in-Some.is ∙ c.place_of.ensures) c.remove.ensures.items))
    (rules-without_item c.args.number day (ap (λ (d : Day). d.state) c.self.view_is ∙ c.requires) c.self.invariant)

pub returns-clause-found : goal.returns-clause-found
returns-clause-found c =
    let day : Day =
    record {
      number = c.self.inside.number;
      frames = c.self.inside.frames;
      state = c.self.inside.state;
      items =
          c.self.inside.items.items;
    } in
    found_item c.args.number day c.deref.result.now c.in-Some.place c.remove.result c.deref.ensures.value
    (sym c.in-Some.is ∙ c.place_of.ensures) c.remove.ensures.value
    ∙ ap (λ (d : Day). find (has c.args.number) d.items) c.self.view_is

pub returns-clause-some : goal.returns-clause-some
returns-clause-some c =
    let day : Day =
    record {
      number = c.self.inside.number;
      frames = c.self.inside.frames;
      state = c.self.inside.state;
      items =
          c.self.inside.items.items;
    } in
    removed_day c.args.number day c.deref.result.now c.in-Some.place c.remove.new.self.items c.self.invariant
    c.deref.ensures.value (sym c.in-Some.is ∙ c.place_of.ensures) c.remove.ensures.items
    ∙ ap (without_item c.args.number) c.self.view_is

pub returns-clause-erased : goal.returns-clause-erased
returns-clause-erased c =
    ap picture_in (returns-clause-some c)
    ∙ picture-without_item c.args.number c.args.self.now (subst KeepsDayRules c.self.view_is c.self.invariant)
