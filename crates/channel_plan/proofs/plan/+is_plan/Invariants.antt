-- The loops of `is_plan` (whether each row is in range and no channel comes twice).
use Rattle.std.proofs.Common.{length}
use Rattle.channel_plan.proofs.plan.+is_plan.Given as goal

abbrev pub decreases-is_plan : goal.decreases-is_plan
decreases-is_plan l = length l.plan.now
