-- `remove_item`: the reply and the change of taking an item out of a day.
use Rattle.channel_view_decisions.proofs.ItemLemmas.{removed}
use Rattle.std.proofs.Common.{◌∙◌, sym}
use Rattle.channel_view_decisions.proofs.day_decisions.remove_item.Goals as goal

pub item_changed-requires : goal.item_changed-requires
item_changed-requires c = record {
  others =
      removed c.args.number c.in-Ok.item c.args.day.now c.in_ok-after.after c.remove_item.new.self c.in_ok-after.ensures
      (sym c.remove_item.ensures.reply ∙ c.in-Ok.is) c.remove_item.ensures.day;
}
