-- `MemRows::own_at`: the own rows of a channel of the plan, copied.
use Rattle.std.proofs.Common.{sym, subst, ap}
use Rattle.std.specs.List.Sorted.{IsNonDecreasingBy}
use Rattle.channel_view_model.specs.Centre.{IsInOrder}
use Rattle.channel_view_rules.proofs.BisectLemmas.{rises}
use Rattle.channel_view.proofs.mem.MemRows.own_at.Goals as goal

pub channel_rows-requires : goal.channel_rows-requires
channel_rows-requires c =
    let order = subst IsInOrder (sym (ap (λ m. m.rows) c.self-inside.view_is)) c.self.invariant in
    subst (IsNonDecreasingBy (λ r. r.0)) (sym c.deref.ensures.value) (rises _ order.tapes)

pub channel_rows-requires-2 : goal.channel_rows-requires-2
channel_rows-requires-2 c =
    let order = subst IsInOrder (sym (ap (λ m. m.rows) c.self-inside.view_is)) c.self.invariant in
    subst (IsNonDecreasingBy (λ r. r.0)) (sym c.deref-2.ensures.value) (rises _ order.clips)

pub channel_rows-requires-3 : goal.channel_rows-requires-3
channel_rows-requires-3 c =
    let order = subst IsInOrder (sym (ap (λ m. m.rows) c.self-inside.view_is)) c.self.invariant in
    subst (IsNonDecreasingBy (λ r. r.0)) (sym c.deref-3.ensures.value) (rises _ order.offers)
