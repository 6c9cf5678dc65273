-- `are_in_order`: whether the channels, and the rows of each table, are in the order of the channels.
use Rattle.std.proofs.Common.{◌∙◌, ap, subst}
use Rattle.std.specs.Prelude.{◌↔◌, IsTrue}
use Rattle.std.specs.List.Sorted.{IsNonDecreasingBy}
use Rattle.channel_view.proofs.OrderLemmas.{order_from_tests}
use Rattle.channel_view.proofs.mem.are_in_order.Goals as goal

pub returns : goal.returns
returns c =
    let same = c.rows.view_is in
    order_from_tests c.args.rows.now _ _ _ _ _ _
    (subst (λ l. IsTrue c.is_rising.result ↔ IsNonDecreasingBy (λ p. p.ch) l)
    (c.deref.ensures.value ∙ ap (λ m. m.channels) same) c.is_rising.ensures)
    (subst (λ l. IsTrue c.is_rising-2.result ↔ IsNonDecreasingBy (λ r. r.0) l)
    (c.deref-2.ensures.value ∙ ap (λ m. m.tapes) same) c.is_rising-2.ensures)
    (subst (λ l. IsTrue c.is_rising-3.result ↔ IsNonDecreasingBy (λ r. r.0) l)
    (c.deref-3.ensures.value ∙ ap (λ m. m.clips) same) c.is_rising-3.ensures)
    (subst (λ l. IsTrue c.is_rising-4.result ↔ IsNonDecreasingBy (λ r. r.0) l)
    (c.deref-4.ensures.value ∙ ap (λ m. m.offers) same) c.is_rising-4.ensures)
    (subst (λ l. IsTrue c.is_rising-5.result ↔ IsNonDecreasingBy (λ r. r.0) l)
    (c.deref-5.ensures.value ∙ ap (λ m. m.days) same) c.is_rising-5.ensures)
    (subst (λ l. IsTrue c.is_rising-6.result ↔ IsNonDecreasingBy (λ r. r.0) l)
    (c.deref-6.ensures.value ∙ ap (λ m. m.aired) same) c.is_rising-6.ensures)
