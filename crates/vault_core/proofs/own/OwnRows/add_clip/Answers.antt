-- `OwnRows::add_clip`: adds the clip of `OwnRows::clip_for` and gives its number.
use Rattle.std.proofs.Common.{◌∙◌, ◌++◌, ◌∷◌, [], sym, ap, subst}
use Rattle.vault_core.specs.Rules.{KeepsOwnRules}
use Rattle.vault_core.proofs.ClipRuleLemmas.{own-clip}
use Rattle.vault_core.proofs.own.OwnRows.add_clip.Goals as goal
use Rattle.vault_core.proofs.own.OwnRows.add_clip.Goals.{in-Ok, in-Err}

pub invariant_of-self : goal.invariant_of-self
invariant_of-self c =
    let own = c.args.self.now in
    let added = c.in_ok-clip.clip in
    let clips_are = ap (λ o. o.clips) c.self.view_is in
    let rules = subst KeepsOwnRules c.self.view_is c.self.invariant in
    let kept =
    own-clip own c.args.tape c.args.title.now c.args.umid c.args.source_first c.args.frames added
    c.parts_are_of_32_bytes.ensures (sym c.clip_for.ensures ∙ c.in_ok-clip.was) rules in
    elim c.match-push.branch [
      | in-Ok w ↦ subst KeepsOwnRules (λ i. record {
        plan = ap (λ o. o.plan) (sym c.self.view_is) i;
        tapes = ap (λ o. o.tapes) (sym c.self.view_is) i;
        clips = sym (w.in-Ok.ensures.items ∙ ap (λ cs. cs ++ added ∷ []) clips_are) i;
        offers = ap (λ o. o.offers) (sym c.self.view_is) i;
      }) kept
      | in-Err w ↦ subst KeepsOwnRules
          (λ i. record {
            plan = c.self.inside.plan;
            tapes = c.self.inside.tapes.items;
            clips = sym w.in-Err.ensures.items i;
            offers =
                c.self.inside.offers.items;
          }) c.self.invariant
    ]
