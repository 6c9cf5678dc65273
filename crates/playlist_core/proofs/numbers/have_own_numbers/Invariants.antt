-- The loops of `have_own_numbers` (whether each item has a number of its own, from 1 to the largest).
use Rattle.std.proofs.Common.{◌≡◌, ◌<◌, ℕ, length, get_or, take, false}
use Rattle.playlist_core.specs.declared.numbers.TheConstants.{NUMBERS}
use Rattle.playlist_core.specs.Day.{AreNumbered, has_number}
use Rattle.playlist_core.proofs.numbers.have_own_numbers.Given as goal

-- those of the items so far are marked, and differ
abbrev pub invariant-loop-item : goal.invariant-loop-item
invariant-loop-item l = record {
  size : length l.taken ≡ NUMBERS;
  marks : (n : ℕ) → n < NUMBERS → get_or l.taken n false ≡ has_number (take l.item-index l.items) n;
  numbered : AreNumbered (take l.item-index l.items);
}
