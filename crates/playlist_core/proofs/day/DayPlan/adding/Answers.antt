-- `DayPlan::adding`: the number of the item of `DayPlan::item_for`, and the day with it.
use Rattle.std.proofs.Common.{sym}
use Rattle.playlist_core.proofs.AddLemmas.{rules-added}
use Rattle.playlist_core.proofs.day.DayPlan.adding.Goals as goal

pub with-requires : goal.with-requires
with-requires g c =
    rules-added c.args.self.now c.args.plan.now (g.S.Sources.seen c.args.sources.now) c.args.new.now c.in_ok-added.added
    c.keep_the_rules.ensures c.requires.mix c.requires.kind (sym c.in_ok-added.ensures)
