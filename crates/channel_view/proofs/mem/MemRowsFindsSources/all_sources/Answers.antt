-- `MemRows::all_sources`: all of the channel's clips, and all that are lent to it.
use Rattle.std.proofs.Common.{sym, subst, ap}
use Rattle.std.specs.List.Sorted.{IsNonDecreasingBy}
use Rattle.channel_view_model.specs.Centre.{IsInOrder}
use Rattle.channel_view_rules.proofs.BisectLemmas.{rises}
use Rattle.channel_view.proofs.mem.MemRowsFindsSources.all_sources.Goals as goal

pub channel_rows-requires : goal.channel_rows-requires
channel_rows-requires c =
    let order = subst IsInOrder (sym (ap (λ m. m.rows) c.self-inside.view_is)) c.self.invariant in
    subst (IsNonDecreasingBy (λ r. r.0)) (sym c.deref.ensures.value) (rises _ order.clips)
