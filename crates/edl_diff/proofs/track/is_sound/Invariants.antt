-- The loops of `is_sound` (whether the channels of an event have this channel of sound).
use Rattle.std.proofs.Common.{◌≡◌}
use Rattle.edl_diff.specs.Track.{is_sound}
use Rattle.edl_diff.proofs.TrackLemmas.{is_left, left_length}
use Rattle.edl_diff.proofs.track.is_sound.Given as goal

-- none of the words so far is for the channel
abbrev pub invariant-loop-left : goal.invariant-loop-left
invariant-loop-left l = is_sound l.channel l.fn.channels ≡ is_left l.channel l.left

abbrev pub decreases-loop-left : goal.decreases-loop-left
decreases-loop-left l = left_length l.left
