-- The loops of `is_plan_in_order` (whether each row is in range and the channels rise, so that none comes twice).
use Rattle.std.proofs.Common.{length}
use Rattle.channel_plan.proofs.plan.+is_plan_in_order.Given as goal

abbrev pub decreases-is_plan_in_order : goal.decreases-is_plan_in_order
decreases-is_plan_in_order l = length l.plan.now
