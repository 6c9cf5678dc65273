-- The loop of `place_of_channel` (where this channel stands).
use Rattle.std.proofs.Common.{◌≡◌, ◌≤◌, false, length}
use Rattle.std.specs.List.{AllWithin}
use Rattle.rows_at_hand.specs.Counted.{is_channel}
use Rattle.rows_at_hand.proofs.counts.place_of_channel.Given as goal

-- it doesn't stand from here on
abbrev pub invariant-loop-end : goal.invariant-loop-end
invariant-loop-end l = record {
  within : l.end ≤ length l.channels;
  none : AllWithin (λ k. is_channel l.channel k ≡ false) l.channels l.end (length l.channels);
}

abbrev pub decreases-loop-end : goal.decreases-loop-end
decreases-loop-end l = l.end
