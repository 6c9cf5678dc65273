-- What a list holds, counted over its events and over what a contract sees of them.
use Rattle.std.proofs.Common.{◌≡◌, ℕ, ◌+◌, ◌<◌, List, [], ◌∷◌, length, map, take, get_or, arith, refl, sym, ap, ◌∙◌}
use Rattle.std.specs.Prelude.{Bool, count_by, sum_by, sum, filter}
use Rattle.std.specs.Borrow.{Bor}
use Rattle.std.proofs.lemmas.List.{length-map}
use Rattle.std.proofs.lemmas.List.Sums.{sum_by_more, sum-map, length-filter}
use Rattle.edl.specs.declared.list.Event.{Event}
use Rattle.edl.specs.Texts.{texts_of}
use Rattle.edl.specs.EntryShown.{entries_of, entry_shown}
use Rattle.edl.specs.Entry.{is_picture}
use Rattle.playout_lists.specs.Checking.{picture_count, note_count}

module _ {X Y : Type 0} (p : Y → Bool) (f : X → Y) where
  length-filter-map : (xs : List X) → length (filter p (map f xs)) ≡ length (filter (λ x. p (f x)) xs)
  length-filter-map [] = refl
  length-filter-map (x ∷ xs) = grind (arith, length-filter-map xs)

map-map : {X Y Z : Type 0} (g : Y → Z) (f : X → Y) (xs : List X) → map g (map f xs) ≡ map (λ x. g (f x)) xs
map-map g f [] = refl
map-map g f (x ∷ xs) = ap (λ zs. g (f x) ∷ zs) (map-map g f xs)

pub picture_count-entries_of : (events : List Event)
    → picture_count (entries_of events) ≡ count_by (λ event. is_picture (entry_shown event)) events
picture_count-entries_of events =
    length-filter-map is_picture entry_shown events ∙ length-filter (λ event. is_picture (entry_shown event)) events

pub note_count-entries_of : (events : List Event)
    → note_count (entries_of events) ≡ sum_by (λ event. length event.notes) events
note_count-entries_of events =
    ap sum (map-map (λ entry. length entry.notes) entry_shown events) ∙ sum-map (λ event. length event.notes) events

-- the notes of one more event
pub notes-more : (events : List Event) (i : ℕ) (d : Event) (head count more now : ℕ) (texts : List (Bor (List ℕ)))
    → i < length events
    → count ≡ head + sum_by (λ event. length event.notes) (take i events) → texts_of texts ≡ (get_or events i d).notes
    → more ≡ length texts → now ≡ count + more
    → now ≡ head + sum_by (λ event. length event.notes) (take (i + 1) events)
notes-more events i d head count more now texts lt so_far here len is =
    let longer = sum_by_more (λ (event : Event). length event.notes) events i d lt in
    let as_many : length texts ≡ length (get_or events i d).notes =
    sym (length-map texts (λ t. t.now)) ∙ ap length here in
    omega (arith, longer, as_many, so_far, len, is)
