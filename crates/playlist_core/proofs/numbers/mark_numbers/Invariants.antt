-- The loops of `mark_numbers` (marks the numbers of items, where none is marked).
use Rattle.std.proofs.Common.{◌≡◌, ◌<◌, ℕ, length, get_or, take, false}
use Rattle.playlist_core.specs.declared.numbers.TheConstants.{NUMBERS}
use Rattle.playlist_core.specs.Day.{has_number}
use Rattle.playlist_core.proofs.numbers.mark_numbers.Given as goal

-- those of the items so far are marked
abbrev pub invariant-loop-item : goal.invariant-loop-item
invariant-loop-item l = record {
  size : length l.taken ≡ NUMBERS;
  marks : (n : ℕ) → n < NUMBERS → get_or l.taken n false ≡ has_number (take l.item-index l.items) n;
}
