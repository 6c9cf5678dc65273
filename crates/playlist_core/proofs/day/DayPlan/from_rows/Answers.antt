-- `DayPlan::from_rows`: the day that these rows make, or none where they break a rule.
use Rattle.std.proofs.Common.{sym, subst, rules, List}
use Rattle.std.specs.Prelude.{IsPermutation}
use Rattle.std.specs.List.Sorted.{IsNonDecreasingBy}
use Rattle.std.proofs.lemmas.List.Sorted.{IsNonDecreasingBy-from_sort_by_key, IsPermutation-sym, IsPermutation-trans}
use Rattle.timecode.specs.Counting.{day_length}
use Rattle.playlist_core.specs.declared.item.Item.{Item}
use Rattle.playlist_core.specs.Day.{Day, KeepsDayRules}
use Rattle.playlist_core.proofs.AnyOrderLemmas.{rules_in_order, refuted}
use Rattle.playlist_core.proofs.day.DayPlan.from_rows.Goals as goal

pub returns-else-keeps_rules-clause-refusal : goal.returns-else-keeps_rules-clause-refusal
returns-else-keeps_rules-clause-refusal c = (
  c.of.ensures,
  λ order moved kept.
      let sorted : List Item = c.sort_unstable_by_key.new.self.items in
      let again : IsPermutation order sorted =
      IsPermutation-trans order c.args.items.items sorted (IsPermutation-sym c.args.items.items order moved)
      c.sort_unstable_by_key.ensures.permutation in
      let rises : IsNonDecreasingBy (λ (i : Item). i.pos) sorted =
      IsNonDecreasingBy-from_sort_by_key (λ (i : Item). i.pos) sorted c.sort_unstable_by_key.ensures.sorted
      (λ a r after called. search rules) in
      let day : Day =
      record
      { number = c.args.number; frames = day_length c.args.plan.now.rate; state = c.args.state; items = order } in
      let day_kept : KeepsDayRules (record day { items = sorted }) = rules_in_order day sorted again rises kept in
      refuted c.keeps_rules.result
      (KeepsDayRules
      (record {
        number = c.args.number;
        frames = c.day_frames-frames.result;
        state = c.args.state;
        items =
            c.deref.result.now;
      }))
      c.keeps_rules.ensures c.if-keeps_rules.false
      (subst
      (λ frames. KeepsDayRules
      (record { number = c.args.number; frames = frames; state = c.args.state; items = c.deref.result.now }))
      (sym c.day_frames-frames.ensures.value)
      (subst
      (λ items. KeepsDayRules
      (record
      { number = c.args.number; frames = day_length c.args.plan.now.rate; state = c.args.state; items = items }))
      (sym c.deref.ensures.value) day_kept)),
)
