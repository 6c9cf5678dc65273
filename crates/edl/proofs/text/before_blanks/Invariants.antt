-- The loops of `before_blanks` (the bytes without the blanks at their end).
use Rattle.std.proofs.Common.{◌≡◌, ◌≤◌, take, length}
use Rattle.edl.specs.Text.{before_blanks}
use Rattle.edl.proofs.text.before_blanks.Given as goal

abbrev pub invariant-loop-end : goal.invariant-loop-end
invariant-loop-end l = (l.end ≤ length l.bytes) × (before_blanks (take l.end l.bytes) ≡ before_blanks l.bytes)

abbrev pub decreases-loop-end : goal.decreases-loop-end
decreases-loop-end l = l.end
