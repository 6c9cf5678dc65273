-- `OwnRows::mark_withdrawn`: withdraws the offer of this number, where there is one.
use Rattle.std.proofs.Common.{◌≡◌, ◌∙◌, sym, ap, subst, length, true}
use Rattle.std.specs.Prelude.{◌==◌}
use Rattle.std.proofs.lemmas.List.{length-map}
use Rattle.vault_core.specs.Questions.{alter}
use Rattle.vault_core.specs.Own.{with_withdrawn}
use Rattle.vault_core.specs.Rules.{KeepsOwnRules}
use Rattle.vault_core.proofs.AlterLemmas.{written_back}
use Rattle.vault_core.proofs.OfferRuleLemmas.{own-withdraw}
use Rattle.vault_core.proofs.own.OwnRows.mark_withdrawn.Goals as goal

pub invariant_of-self : goal.invariant_of-self
invariant_of-self c =
    let own = c.args.self.now in
    let n = c.args.number in
    let before = c.deref_mut.ensures.value ∙ ap (λ o. o.offers) c.self.view_is in
    let after : c.set_withdrawn.new.offers ≡ (with_withdrawn n own).offers =
    c.set_withdrawn.ensures ∙ ap (alter (λ o. o.n == n) (λ o. record o { withdrawn = true })) before in
    let len : length c.set_withdrawn.new.offers ≡ c.self.inside.offers.len =
    ap length c.set_withdrawn.ensures ∙ length-map c.deref_mut.result.now _ ∙ c.deref_mut.ensures.len in
    let back =
    written_back c.self.inside.offers.len c.set_withdrawn.new.offers c.self.inside.offers.items len
    (sym c.deref_mut.ensures.len ∙ ap length c.deref_mut.ensures.value) in
    let kept = own-withdraw own n (subst KeepsOwnRules c.self.view_is c.self.invariant) in
    subst KeepsOwnRules (λ i. record {
      plan = ap (λ o. o.plan) (sym c.self.view_is) i;
      tapes = ap (λ o. o.tapes) (sym c.self.view_is) i;
      clips = ap (λ o. o.clips) (sym c.self.view_is) i;
      offers = (sym after ∙ sym back) i;
    }) kept
