-- The loops of `notes_in` (how many notes the head and the events have, if they can be counted).
use Rattle.std.proofs.Common.{◌≡◌, ◌+◌, length, take}
use Rattle.std.specs.Prelude.{sum_by}
use Rattle.playout_lists.proofs.checking.notes_in.Given as goal

-- the notes of the head and of the events so far
abbrev pub invariant-loop-event : goal.invariant-loop-event
invariant-loop-event l = l.count ≡ length l.head + sum_by (λ event. length event.notes) (take l.event-index l.events)
