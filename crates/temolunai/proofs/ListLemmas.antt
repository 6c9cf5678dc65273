-- Events that C gets, one behind another.
use Rattle.std.proofs.Common.{◌≡◌, ℕ, ◌+◌, ◌<◌, List, [], ◌∷◌, ◌++◌, length, get_or, take, drop, refl, arith, ap}
use Rattle.std.proofs.Common.{append_assoc}
use Rattle.std.specs.Prelude.{Bool}
use Rattle.std.proofs.Math.Seq.{take-append_seam, drop-append_seam}
use Rattle.std.proofs.lemmas.List.{take_more, map-append}
use Rattle.std.proofs.lemmas.Grind.{common_steps, flat_map-append}
use Rattle.edl.specs.declared.list.Event.{Event as ListEvent}
use Rattle.edl.specs.Entry.{EventEntry}
use Rattle.edl.specs.EntryShown.{entry_shown, entries_of}
use Rattle.edl.specs.InOrder.{texts_in, texts_of_events}
use Rattle.temolunai.specs.declared.lists.Event.{Event}
use Rattle.temolunai.specs.declared.texts.Place.{Place}
use Rattle.temolunai.specs.Texts.{texts_at}
use Rattle.timecode.specs.declared.rates.Rate.{Rate}
use Rattle.temolunai.specs.declared.lists.ListRead.{ListRead}
use Rattle.temolunai.specs.Lists.{event_made, events_made, IsRead}

made_behind : (n m : ℕ) (entries : List EventEntry) (entry : EventEntry) → m ≡ n + length (texts_of_events entries)
    → events_made n (entries ++ (entry ∷ [])) ≡ events_made n entries ++ (event_made m entry ∷ [])
unfolding events_made
made_behind n m [] entry e = ap (λ (k : ℕ). event_made k entry ∷ []) (omega arith)
made_behind n m (first ∷ entries) entry e =
    ap (λ (more : List Event). event_made n first ∷ more)
    (made_behind (n + length (texts_in first)) m entries entry (grind (arith, common_steps, e)))

one_more : (events : List ListEvent) (event : ListEvent) (i : ℕ) → i < length events → event ≡ get_or events i event
    → entries_of (take (i + 1) events) ≡ entries_of (take i events) ++ (entry_shown event ∷ [])
one_more events event i low is =
    rw (take_more events i event low, ← is, map-append) refl

-- the events so far and one more
pub events_next : (before : List Event) (events : List ListEvent) (event : ListEvent) (i n m : ℕ) → i < length events
    → event ≡ get_or events i event → m ≡ n + length (texts_of_events (entries_of (take i events)))
    → (before ++ events_made n (entries_of (take i events))) ++ (event_made m (entry_shown event) ∷ [])
    ≡ before ++ events_made n (entries_of (take (i + 1) events))
events_next before events event i n m low is e =
    rw (
      one_more events event i low is,
      made_behind n m (entries_of (take i events)) (entry_shown event) e,
      append_assoc,
    ) refl

-- and their texts
pub texts_next : (before : List (List ℕ)) (events : List ListEvent) (event : ListEvent) (i : ℕ) → i < length events
    → event ≡ get_or events i event
    → (before ++ texts_of_events (entries_of (take i events))) ++ texts_in (entry_shown event)
    ≡ before ++ texts_of_events (entries_of (take (i + 1) events))
texts_next before events event i low is =
    rw (one_more events event i low is, flat_map-append, append_assoc) (grind (arith, common_steps))

pub places_count : (bytes old_bytes : List ℕ) (places old_places : List Place) (more : List (List ℕ))
    → texts_at bytes places ≡ texts_at old_bytes old_places ++ more → length places ≡ length old_places + length more
places_count bytes old_bytes places old_places more e = grind (arith, common_steps, ap length e)

pub none_made : (before : List Event) (n : ℕ) → before ≡ before ++ events_made n []
unfolding events_made
none_made before n = grind (arith, common_steps)

taken : {A : Type 0} (n : ℕ) (xs rest : List A) → n ≡ length xs → take n (xs ++ rest) ≡ xs
taken n xs rest e = rw (e, take-append_seam) refl

left : {A : Type 0} (n : ℕ) (xs room : List A) → n ≡ length xs → drop n (xs ++ drop (length xs) room) ≡ drop n room
left n xs room e = rw (e, drop-append_seam) refl

pub read_written : (rate : Rate) (ignore : Bool) (text : List ℕ) (read : ListRead)
    (events new_events events_room : List Event) (places new_places places_room : List Place)
    (bytes new_bytes bytes_room : List ℕ) → IsRead rate ignore text read events places bytes
    → new_events ≡ events ++ drop (length events) events_room → new_places ≡ places ++ drop (length places) places_room
    → new_bytes ≡ bytes ++ drop (length bytes) bytes_room
    → IsRead rate ignore text read (take read.events new_events) (take read.texts new_places)
    (take read.bytes new_bytes)
read_written rate ignore text read events new_events events_room places new_places places_room bytes new_bytes
    bytes_room is e p b =
    let events_taken : take read.events new_events ≡ events = rw e (taken read.events events _ is.events_are.0) in
    let places_taken : take read.texts new_places ≡ places = rw p (taken read.texts places _ is.texts_are.0) in
    let bytes_taken : take read.bytes new_bytes ≡ bytes = rw b (taken read.bytes bytes _ is.within.0) in
    rw (events_taken, places_taken, bytes_taken) is

pub rest_kept : {A : Type 0} (n : ℕ) (xs new room : List A) → n ≡ length xs → new ≡ xs ++ drop (length xs) room
    → drop n new ≡ drop n room
rest_kept n xs new room e is = rw is (left n xs room e)
