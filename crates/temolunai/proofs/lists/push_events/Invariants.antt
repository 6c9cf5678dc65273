-- The loops of `push_events` (the texts of each event, behind those before it).
use Rattle.std.proofs.Common.{◌≡◌, ◌++◌, take, length}
use Rattle.std.specs.Prelude.{All}
use Rattle.edl.specs.EntryShown.{entries_of}
use Rattle.edl.specs.InOrder.{texts_of_events}
use Rattle.temolunai.specs.Texts.{texts_at, IsWithin}
use Rattle.temolunai.specs.Lists.{events_made}
use Rattle.temolunai.proofs.lists.push_events.Given as goal

abbrev pub invariant-loop-event : goal.invariant-loop-event
invariant-loop-event l = record {
  within : All (IsWithin (length l.laid.texts.bytes.items)) l.laid.texts.places.items;
  texts : texts_at l.laid.texts.bytes.items l.laid.texts.places.items
      ≡ texts_at l.fn.laid.texts.bytes.items l.fn.laid.texts.places.items
      ++ texts_of_events (entries_of (take l.event-index l.events));
  events : l.laid.events.items
      ≡ l.fn.laid.events.items
      ++ events_made (length l.fn.laid.texts.places.items) (entries_of (take l.event-index l.events));
}
