-- The loops of `can_be_written` (whether `write_to_string` takes these events).
use Rattle.std.proofs.Common.{take, All}
use Rattle.edl.specs.WrittenShown.{HasText}
use Rattle.edl.proofs.rewriting.can_be_written.Given as goal

abbrev pub invariant-loop-event : goal.invariant-loop-event
invariant-loop-event l = All (HasText l.rate) (take l.event-index l.events)
