-- `read_plan`: the plan rows of these texts, from left to right.
use Rattle.std.proofs.Common.{sym, subst, arith, inr}
use Rattle.channel_plan.specs.Plan.{IsPlanText}
use Rattle.playout_actions.proofs.PlanLemmas.{plan-at, plan-more}
use Rattle.playout_actions.proofs.answering.read_plan.Goals as goal

pub returns-in_default-clause-err : goal.returns-in_default-clause-err
returns-in_default-clause-err c = inr (
  c.of.ensures,
  λ plan are.
      let at = plan-at c.args.texts.now plan c.loop-text.text-index _ are (omega arith) in
      c.in_default.ensures.err at.0 (subst (λ text. IsPlanText text at.0) (sym c.as_bytes.ensures.value) at.1),
)

pub loop-text-preserved : goal.loop-text-preserved
loop-text-preserved c =
    plan-more c.args.texts.now c.loop-text.plan.items c.push.new.self.items c.loop-text.text-index _
    c.as_bytes.result.now c.in-Ok.row (omega arith) c.loop-text.invariant c.as_bytes.ensures.value
    c.in-Ok.ensures.ok c.in-Ok-push.ensures.items
