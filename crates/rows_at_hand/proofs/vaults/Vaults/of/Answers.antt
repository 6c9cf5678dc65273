-- `Vaults::of`: the vaults of rows are in the order of their channels.
use Rattle.std.proofs.Common.{◌∙◌, ap, arith, map, subst, sym}
use Rattle.std.specs.List.Sorted.{IsNonDecreasingBy}
use Rattle.std.proofs.lemmas.List.{take_all}
use Rattle.channel_plan.specs.declared.plan.PlanRow.{PlanRow}
use Rattle.rows_at_hand.specs.Vaults.{vault_of}
use Rattle.rows_at_hand.proofs.VaultLemmas.{vaults_rise}
use Rattle.rows_at_hand.proofs.vaults.Vaults.of.Goals as goal

pub invariant_of-result : goal.invariant_of-result
invariant_of-result c =
    let set = c.rows-set.result.now in
    let made = λ (p : PlanRow). vault_of p.ch set in
    let whole = take_all c.loop-plan.plan-index c.deref-plan-items.result.now (omega arith) in
    let all = whole ∙ c.deref-plan-items.ensures.value ∙ ap (λ m. m.channels) c.set.view_is in
    record {
      order =
          subst (IsNonDecreasingBy (λ v. v.channel)) (sym (c.loop-plan.invariant ∙ ap (map made) all))
          (vaults_rise set set.channels c.rows-set.ensures.order.channels);
    }
