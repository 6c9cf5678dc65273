-- `MemRows::new`: a store of this plan alone, its channels in order.
use Rattle.std.proofs.Common.{rules, ap}
use Rattle.channel_view_model.specs.Tables.{is_in_order}
use Rattle.std.proofs.lemmas.List.Sorted.{IsNonDecreasingBy-from_sort_by_key}
use Rattle.channel_plan.proofs.PlanLemmas.{is_plan-IsPermutation, in_order-from_plan}
use Rattle.channel_view_model.proofs.RuleLemmas.{plan_keeps_rules}
use Rattle.channel_view.proofs.mem.MemRows.new.Goals as goal

pub returns-clause-plan : goal.returns-clause-plan
returns-clause-plan c = (
  search rules,
  IsNonDecreasingBy-from_sort_by_key (λ p. p.ch) _ c.sort_unstable_by_key.ensures.sorted
      (λ a r after called. search rules),
)

pub returns-clause-rules : goal.returns-clause-rules
returns-clause-rules c =
    plan_keeps_rules _ _ _ _ _ _
    (in_order-from_plan _
    (is_plan-IsPermutation c.args.plan.now c.sort_unstable_by_key.new.self.items (returns-clause-plan c).0
    (search rules)) (returns-clause-plan c).1) c.new.ensures.items c.new-2.ensures.items c.new-3.ensures.items
    c.new-4.ensures.items c.new-5.ensures.items

pub invariant_of-result : goal.invariant_of-result
invariant_of-result c =
    record {
      channels =
          IsNonDecreasingBy-from_sort_by_key (λ p. p.ch) _ c.sort_unstable_by_key.ensures.sorted
          (λ a r after called. search rules);
      tapes = ap is_in_order c.new.ensures.items;
      clips =
          ap is_in_order c.new-2.ensures.items;
      offers = ap is_in_order c.new-3.ensures.items;
      days =
          ap is_in_order c.new-4.ensures.items;
      aired = ap is_in_order c.new-5.ensures.items;
    }
