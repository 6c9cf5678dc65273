-- The loops of `lie_apart` (whether items lie one behind the other within the day).
use Rattle.std.proofs.Common.{drop}
use Rattle.playlist_core.specs.Order.{AreApart}
use Rattle.playlist_core.specs.Item.{planned}
use Rattle.playlist_core.proofs.places.lie_apart.Given as goal

-- what is left decides
abbrev pub invariant-loop-item : goal.invariant-loop-item
invariant-loop-item l = record {
  all : AreApart planned l.covered l.frames (drop l.item-index l.items) → AreApart planned 0 l.frames l.items;
  rest : AreApart planned 0 l.frames l.items → AreApart planned l.covered l.frames (drop l.item-index l.items);
}
