-- `take_item`: the reply and the change of adding an item to a day.
use Rattle.std.proofs.Common.{◌∙◌, refl}
use Rattle.channel_view_decisions.proofs.ItemLemmas.{added}
use Rattle.channel_view_decisions.proofs.day_decisions.take_item.Goals as goal

pub item_changed-requires : goal.item_changed-requires
item_changed-requires g c = record {
  others =
      let of_item = c.in-Ok.ensures.added in
      let day = c.args.day.now in
      added c.from.result of_item.0 day day c.in-Ok.after refl (c.from.ensures ∙ of_item.2) of_item.3;
}
