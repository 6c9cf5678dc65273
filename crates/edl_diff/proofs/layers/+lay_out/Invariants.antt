-- The loops of `lay_out` (the day, with the number of the event that is on top at each frame).
use Rattle.std.proofs.Common.{length}
use Rattle.edl_diff.proofs.layers.+lay_out.Given as goal

abbrev pub decreases-lay_out : goal.decreases-lay_out
decreases-lay_out l = length l.events.now
