-- The loops of `merged` (the rows of two lists, each one behind the other, in the order of their positions).
use Rattle.std.proofs.Common.{◌≡◌, ◌++◌, ℕ, drop}
use Rattle.playlist_core.specs.Order.{AreApart}
use Rattle.asrun_match.specs.Aired.{aired}
use Rattle.asrun_match.proofs.WeaveLemmas.{weave}
use Rattle.asrun_match.proofs.sorted.merged.Given as goal

-- what is left is woven behind what is there
abbrev pub invariant-loop-other : goal.invariant-loop-other
invariant-loop-other l = record {
  woven : l.merged.items ++ weave l.left (drop l.other-index l.others) ≡ weave l.rows l.others;
  apart : (day : ℕ) × AreApart aired 0 day l.left;
}
