-- The loops of `items_unlike` (those of the items that aren't among others).
use Rattle.std.proofs.Common.{◌≡◌, ℕ, ◌++◌, drop}
use Rattle.playlist_core.specs.Item.{planned}
use Rattle.playlist_core.specs.Order.{AreApart}
use Rattle.playlist_core.specs.Difference.{not_among}
use Rattle.playlist_core.proofs.change.items_unlike.Given as goal

-- what is left decides
abbrev pub invariant-loop-item : goal.invariant-loop-item
invariant-loop-item l = record {
  unlike : l.unlike.items ++ not_among l.rest (drop l.item-index l.items) ≡ not_among l.others l.items;
  items : (from : ℕ) × (to : ℕ) × AreApart planned from to (drop l.item-index l.items);
  others : (from : ℕ) × (to : ℕ) × AreApart planned from to l.rest;
}
