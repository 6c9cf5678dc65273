-- The loops of `lay_over` (pieces laid over others).
use Rattle.std.proofs.Common.{ℕ, ◌+◌, length}
use Rattle.edl_diff.proofs.LayerLemmas.{IsLaid}
use Rattle.edl_diff.proofs.layers.lay_over.Given as goal

-- up to some frame they are laid
abbrev pub invariant-loop-stretch : goal.invariant-loop-stretch
invariant-loop-stretch l = (at : ℕ) × IsLaid l.above l.under l.ones l.others l.pieces.items at

abbrev pub decreases-loop-stretch : goal.decreases-loop-stretch
decreases-loop-stretch l = length l.ones + length l.others
