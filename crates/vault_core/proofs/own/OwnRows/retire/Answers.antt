-- `OwnRows::retire`: retires a clip and gives its number.
use Rattle.std.proofs.Common.{◌≡◌, ◌∙◌, sym, ap, subst, length, true}
use Rattle.std.specs.Prelude.{◌==◌}
use Rattle.std.proofs.lemmas.List.{length-map}
use Rattle.vault_core.specs.Questions.{alter}
use Rattle.vault_core.specs.Own.{with_retired}
use Rattle.vault_core.specs.Rules.{KeepsOwnRules}
use Rattle.vault_core.proofs.AlterLemmas.{written_back}
use Rattle.vault_core.proofs.ClipRuleLemmas.{own-retire}
use Rattle.vault_core.proofs.own.OwnRows.retire.Goals as goal

pub invariant_of-self : goal.invariant_of-self
invariant_of-self c =
    let own = c.args.self.now in
    let n = c.in_ok-clip.clip.n in
    let before = c.deref_mut.ensures.value ∙ ap (λ o. o.clips) c.self.view_is in
    let after : c.set_retired.new.clips ≡ (with_retired n own).clips =
    c.set_retired.ensures ∙ ap (alter (λ d. d.n == n) (λ d. record d { retired = true })) before in
    let len : length c.set_retired.new.clips ≡ c.self.inside.clips.len =
    ap length c.set_retired.ensures ∙ length-map c.deref_mut.result.now _ ∙ c.deref_mut.ensures.len in
    let back =
    written_back c.self.inside.clips.len c.set_retired.new.clips c.self.inside.clips.items len
    (sym c.deref_mut.ensures.len ∙ ap length c.deref_mut.ensures.value) in
    let kept = own-retire own n (subst KeepsOwnRules c.self.view_is c.self.invariant) in
    subst KeepsOwnRules (λ i. record {
      plan = ap (λ o. o.plan) (sym c.self.view_is) i;
      tapes = ap (λ o. o.tapes) (sym c.self.view_is) i;
      clips = (sym after ∙ sym back) i;
      offers = ap (λ o. o.offers) (sym c.self.view_is) i;
    }) kept
