-- `MemRows::view_at`: what the channel sees, copied.
use Rattle.std.proofs.Common.{◌∙◌, sym, subst, ap}
use Rattle.std.specs.Prelude.{◌==◌, filter}
use Rattle.std.specs.List.Sorted.{IsNonDecreasingBy}
use Rattle.channel_view_model.specs.Tables.{rows_alone}
use Rattle.channel_view_model.specs.Seen.{grants_to}
use Rattle.channel_view_model.specs.Centre.{IsInOrder}
use Rattle.channel_view_rules.proofs.BisectLemmas.{rises}
use Rattle.channel_view.proofs.mem.MemRows.view_at.Goals as goal

pub channel_rows-requires : goal.channel_rows-requires
channel_rows-requires c =
    let order = subst IsInOrder (sym (ap (λ m. m.rows) c.self-inside.view_is)) c.self.invariant in
    subst (IsNonDecreasingBy (λ r. r.0)) (sym c.deref.ensures.value) (rises _ order.days)

pub channel_rows-requires-2 : goal.channel_rows-requires-2
channel_rows-requires-2 c =
    let order = subst IsInOrder (sym (ap (λ m. m.rows) c.self-inside.view_is)) c.self.invariant in
    subst (IsNonDecreasingBy (λ r. r.0)) (sym c.deref-2.ensures.value) (rises _ order.aired)

pub returns-in-Ok : goal.returns-in-Ok
returns-in-Ok c =
    let channel = c.args.channel in
    let days =
    c.in_ok-days.ensures
    ∙ ap rows_alone
    (c.channel_rows.ensures
    ∙ ap (filter (λ r. r.0 == channel))
    (c.deref.ensures.value ∙ ap (λ m. m.rows.days) c.self-inside.view_is ∙ ap (λ m. m.days) c.self.view_is)) in
    let aired =
    c.in_ok-aired.ensures
    ∙ ap rows_alone
    (c.channel_rows-2.ensures
    ∙ ap (filter (λ r. r.0 == channel))
    (c.deref-2.ensures.value ∙ ap (λ m. m.rows.aired) c.self-inside.view_is ∙ ap (λ m. m.aired) c.self.view_is)) in
    let lent =
    c.in-Ok.ensures.rows ∙ c.in_ok-grants.ensures
    ∙ ap (grants_to channel)
    (c.deref-3.ensures.value ∙ ap (λ m. m.rows.offers) c.self-inside.view_is ∙ ap (λ m. m.offers) c.self.view_is) in
    λ i. record { own = c.in_ok-own.ensures i; days = days i; aired = aired i; lent = lent i }
