-- The loops of `take_events` (adds events to a day, up to the first that is refused).
use Rattle.std.proofs.Common.{◌≡◌, drop}
use Rattle.edl.specs.EntryShown.{entries_of}
use Rattle.playlist_edl.specs.Importing.{after_events}
use Rattle.playlist_edl.proofs.importing.take_events.Given as goal

-- what is left decides
abbrev pub invariant-loop-event : goal.invariant-loop-event
invariant-loop-event g l =
    after_events l.day l.plan (g.S.Sources.seen l.sources) (entries_of (drop l.event-index l.events))
    ≡ after_events l.initial.day l.plan (g.S.Sources.seen l.sources) (entries_of l.events)
