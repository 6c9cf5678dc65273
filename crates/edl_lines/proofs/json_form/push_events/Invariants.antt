-- The loops of `push_events` (the line of each event as JSON).
use Rattle.std.proofs.Common.{◌≡◌, ◌++◌, take}
use Rattle.edl.specs.EntryShown.{entries_of}
use Rattle.edl_lines.specs.Json.{json_lines}
use Rattle.edl_lines.proofs.json_form.push_events.Given as goal

abbrev pub invariant-loop-event : goal.invariant-loop-event
invariant-loop-event l = l.out.items ≡ l.fn.out.items ++ json_lines (entries_of (take l.event-index l.events))
