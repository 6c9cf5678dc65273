-- The loops of `lie_apart` (whether rows lie one behind the other within the day).
use Rattle.std.proofs.Common.{drop}
use Rattle.playlist_core.specs.Order.{AreApart}
use Rattle.asrun_match.specs.Aired.{aired}
use Rattle.asrun_match.proofs.places.lie_apart.Given as goal

-- what is left decides
abbrev pub invariant-loop-row : goal.invariant-loop-row
invariant-loop-row l = record {
  all : AreApart aired l.covered l.frames (drop l.row-index l.rows) → AreApart aired 0 l.frames l.rows;
  rest : AreApart aired 0 l.frames l.rows → AreApart aired l.covered l.frames (drop l.row-index l.rows);
}
