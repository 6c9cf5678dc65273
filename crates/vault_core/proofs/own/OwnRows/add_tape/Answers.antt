-- `OwnRows::add_tape`: adds the tape of `OwnRows::tape_for` and gives its number.
use Rattle.std.proofs.Common.{◌∙◌, ◌++◌, ◌∷◌, [], sym, ap, subst}
use Rattle.vault_core.specs.Rules.{KeepsOwnRules}
use Rattle.vault_core.proofs.RuleLemmas.{own-push}
use Rattle.vault_core.proofs.own.OwnRows.add_tape.Goals as goal
use Rattle.vault_core.proofs.own.OwnRows.add_tape.Goals.{in-Ok, in-Err}

pub invariant_of-self : goal.invariant_of-self
invariant_of-self c =
    let own = c.args.self.now in
    let t = c.in_ok-tape.tape in
    let tapes_are = ap (λ o. o.tapes) c.self.view_is in
    let kept =
    own-push own c.args.barcode.now c.args.slot t (sym c.tape_for.ensures ∙ c.in_ok-tape.was)
    (subst KeepsOwnRules c.self.view_is c.self.invariant) in
    elim c.match-push.branch [
      | in-Ok w ↦ subst KeepsOwnRules
          (λ i. record {
            plan = ap (λ o. o.plan) (sym c.self.view_is) i;
            tapes =
                sym (w.in-Ok.ensures.items ∙ ap (λ ts. ts ++ t ∷ []) tapes_are) i;
            clips =
                ap (λ o. o.clips) (sym c.self.view_is) i;
            offers = ap (λ o. o.offers) (sym c.self.view_is) i;
          }) kept
      | in-Err w ↦ subst KeepsOwnRules
          (λ i. record {
            plan = c.self.inside.plan;
            tapes = sym w.in-Err.ensures.items i;
            clips = c.self.inside.clips.items;
            offers =
                c.self.inside.offers.items;
          }) c.self.invariant
    ]
