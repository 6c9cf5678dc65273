-- The loops of `push_events` (the line of each event as CSV).
use Rattle.std.proofs.Common.{◌≡◌, ◌++◌, take}
use Rattle.std.specs.List.{flat_map}
use Rattle.edl.specs.EntryShown.{entries_of}
use Rattle.edl_lines.specs.Csv.{csv_line}
use Rattle.edl_lines.proofs.csv_form.push_events.Given as goal

abbrev pub invariant-loop-event : goal.invariant-loop-event
invariant-loop-event l = l.out.items ≡ l.fn.out.items ++ flat_map csv_line (entries_of (take l.event-index l.events))
