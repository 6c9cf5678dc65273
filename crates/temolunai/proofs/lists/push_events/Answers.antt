-- `push_events`: the texts of each event, behind those before it.
use Rattle.std.proofs.Common.{rules, ◌<◌, ℕ, length}
use Rattle.temolunai.specs.Texts.{texts_at}
use Rattle.temolunai.proofs.ListLemmas.{events_next, texts_next, places_count, none_made}
use Rattle.temolunai.proofs.lists.push_events.Goals as goal

pub loop-event-init : goal.loop-event-init
loop-event-init c = record {
  within = c.requires;
  texts = search rules;
  events = none_made c.args.laid.now.events.items (length c.args.laid.now.texts.places.items);
}

pub loop-event-preserved : goal.loop-event-preserved
loop-event-preserved c =
    let i : ℕ = c.loop-event.event-index in let events = c.args.events.now in let event = c.event-item.result in
    let low : i < length events = c.loop-event-test.true in
    let inv = c.loop-event.invariant in
    let count = places_count _ _ _ _ _ inv.texts in
    let made =
    events_next c.args.laid.now.events.items events event i (length c.args.laid.now.texts.places.items) _ low
    c.event-item.is count in
    let said =
    texts_next (texts_at c.args.laid.now.texts.bytes.items c.args.laid.now.texts.places.items) events event i low
    c.event-item.is in
    record {
      within = c.in_ok-push_event.ensures.within;
      texts = let got = c.in_ok-push_event.ensures.texts in let had = inv.texts in cc;
      events = let got = c.in_ok-push_event.ensures.events in let had = inv.events in cc;
    }
