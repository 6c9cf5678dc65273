-- The loop of `place_of` (where the channel's day of this number stands).
use Rattle.std.proofs.Common.{◌≡◌, ◌≤◌, false, length}
use Rattle.std.specs.List.{AllWithin}
use Rattle.rows_at_hand.specs.Known.{is_day_of}
use Rattle.rows_at_hand.proofs.known.place_of.Given as goal

-- none stands from here on
abbrev pub invariant-loop-end : goal.invariant-loop-end
invariant-loop-end l = record {
  within : l.end ≤ length l.days;
  none : AllWithin (λ k. is_day_of l.channel l.number k ≡ false) l.days l.end (length l.days);
}

abbrev pub decreases-loop-end : goal.decreases-loop-end
decreases-loop-end l = l.end
