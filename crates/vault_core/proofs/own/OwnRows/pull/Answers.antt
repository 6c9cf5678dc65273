-- `OwnRows::pull`: takes a tape out of its slot and gives its number.
use Rattle.std.proofs.Common.{◌≡◌, ◌∙◌, sym, ap, subst, length}
use Rattle.std.specs.Prelude.{◌==◌}
use Rattle.std.proofs.lemmas.List.{length-map}
use Rattle.vault_core.specs.Questions.{alter}
use Rattle.vault_core.specs.Own.{with_slot}
use Rattle.vault_core.specs.Rules.{KeepsOwnRules}
use Rattle.vault_core.proofs.AlterLemmas.{written_back}
use Rattle.vault_core.proofs.RuleLemmas.{own-pull}
use Rattle.vault_core.proofs.own.OwnRows.pull.Goals as goal

pub invariant_of-self : goal.invariant_of-self
invariant_of-self c =
    let own = c.args.self.now in
    let t = c.in_ok-tape.tape in
    let before = c.deref_mut.ensures.value ∙ ap (λ o. o.tapes) c.self.view_is in
    let after : c.set_slot.new.tapes ≡ (with_slot t.n t.slot own).tapes =
    c.set_slot.ensures ∙ ap (alter (λ u. u.n == t.n) (λ u. record u { slot = t.slot })) before in
    let len : length c.set_slot.new.tapes ≡ c.self.inside.tapes.len =
    ap length c.set_slot.ensures ∙ length-map c.deref_mut.result.now _ ∙ c.deref_mut.ensures.len in
    let back =
    written_back c.self.inside.tapes.len c.set_slot.new.tapes c.self.inside.tapes.items len
    (sym c.deref_mut.ensures.len ∙ ap length c.deref_mut.ensures.value) in
    let kept =
    own-pull own c.args.number t (sym c.pulled.ensures ∙ c.in_ok-tape.was)
    (subst KeepsOwnRules c.self.view_is c.self.invariant) in
    subst KeepsOwnRules
    (λ i. record {
      plan = ap (λ o. o.plan) (sym c.self.view_is) i;
      tapes = (sym after ∙ sym back) i;
      clips =
          ap (λ o. o.clips) (sym c.self.view_is) i;
      offers = ap (λ o. o.offers) (sym c.self.view_is) i;
    }) kept
