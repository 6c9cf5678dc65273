-- `DayPlan::insert`: puts in an item with which the day keeps the rules, if memory is there.
use Rattle.std.proofs.Common.{◌∙◌, sym, ap, subst}
use Rattle.playlist_core.specs.Day.{Day, KeepsDayRules, with_item}
use Rattle.playlist_core.proofs.AddLemmas.{inserted}
use Rattle.playlist_core.proofs.day.DayPlan.insert.Goals as goal

pub returns-clause-ok : goal.returns-clause-ok
returns-clause-ok c =
    let day : Day =
    record {
      number = c.self.inside.number;
      frames = c.self.inside.frames;
      state = c.self.inside.state;
      items =
          c.self.inside.items.items;
    } in
    inserted day c.args.item c.deref.result.now c.place_for-place.result c.insert.new.self.items c.deref.ensures.value
    c.place_for-place.ensures.value c.in_ok-insert.ensures.items
    ∙ ap (with_item c.args.item) c.self.view_is

pub invariant_of-self-2 : goal.invariant_of-self-2
invariant_of-self-2 c = subst KeepsDayRules (sym (returns-clause-ok c)) c.requires
