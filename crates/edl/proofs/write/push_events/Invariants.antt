-- The loops of `push_events` (the lines of each event behind the text).
use Rattle.std.proofs.Common.{◌≡◌, ◌++◌, take}
use Rattle.std.specs.List.{flat_map}
use Rattle.std.specs.String.{string_bytes}
use Rattle.edl.specs.Written.{event_text}
use Rattle.edl.specs.WrittenShown.{outs_of}
use Rattle.edl.proofs.write.push_events.Given as goal

abbrev pub invariant-loop-event : goal.invariant-loop-event
invariant-loop-event l =
    string_bytes l.out ≡ string_bytes l.fn.out ++ flat_map (event_text l.rate) (outs_of (take l.event-index l.events))
