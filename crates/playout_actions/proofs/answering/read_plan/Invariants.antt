-- The loops of `read_plan` (the plan rows of these texts, from left to right).
use Rattle.std.proofs.Common.{map, take}
use Rattle.playout_actions.specs.Answering.{ArePlanTexts}
use Rattle.playout_actions.proofs.answering.read_plan.Given as goal

-- the rows so far are those of the texts so far
abbrev pub invariant-loop-text : goal.invariant-loop-text
invariant-loop-text l = ArePlanTexts (map (λ t. t.now) (take l.text-index l.texts)) l.plan.items
