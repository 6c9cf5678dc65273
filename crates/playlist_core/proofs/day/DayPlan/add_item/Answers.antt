-- `DayPlan::add_item`: adds the item of `DayPlan::item_for` and gives its number.
use Rattle.std.proofs.Common.{sym}
use Rattle.playlist_core.proofs.AddLemmas.{rules-added}
use Rattle.playlist_core.proofs.day.DayPlan.add_item.Goals as goal

pub insert-requires : goal.insert-requires
insert-requires g c =
    rules-added c.args.self.now c.args.plan.now (g.S.Sources.seen c.args.sources.now) c.args.new.now c.in_ok-item.item
    c.keep_the_rules.ensures c.requires.mix c.requires.kind (sym c.in_ok-item.ensures)
