-- The loop of `make_room` (the days that were asked for least lately make room).
use Rattle.std.proofs.Common.{◌≡◌, ◌≤◌, ◌<◌, ℕ, false, drop, length}
use Rattle.rows_at_hand.specs.Known.{has_room, most_rows, rows_at_hand}
use Rattle.rows_at_hand.proofs.known.make_room.Given as goal

-- some went, and each was in the way
abbrev pub invariant-loop-days : goal.invariant-loop-days
invariant-loop-days l = record {
  few_rows : rows_at_hand l.days.items ≤ most_rows;
  latest : (gone : ℕ) × (l.days.items ≡ drop gone l.fn.days.items)
      × ((n : ℕ) → n < gone → has_room l.rows (drop n l.fn.days.items) ≡ false);
}

abbrev pub decreases-loop-days : goal.decreases-loop-days
decreases-loop-days l = length l.days.items
