-- `take_events`: adds events to a day, up to the first that is refused.
use Rattle.std.proofs.Common.{arith}
use Rattle.playlist_edl.proofs.ImportLemmas.{mix_at}
use Rattle.playlist_edl.proofs.importing.take_events.Goals as goal

pub take_event-requires-clause-mix : goal.take_event-requires-clause-mix
take_event-requires-clause-mix g c =
    mix_at c.args.events.now c.loop-event.event-index _ c.event-item.result c.event-item.is c.requires.mixes
    (omega arith)
