-- The pieces of a day are those of its events.
use Rattle.std.proofs.Common.{◌≡◌, ℕ, ◌+◌, ◌-◌, ◌<◌, ◌≤◌, List, [], ◌∷◌, ◌++◌, length, get_or, take, drop, map, refl}
use Rattle.std.proofs.Common.{sym, ap, ◌∙◌, subst, arith, length-append}
use Rattle.std.specs.Prelude.{Option, Some, None, All}
use Rattle.std.specs.Option.{option_or}
use Rattle.std.proofs.lemmas.List.{get_or-map, length-map, map-append, take-append-drop, length-take-le, take-map}
use Rattle.std.proofs.lemmas.List.{drop-map}
use Rattle.std.proofs.lemmas.List.Elements.{All-take, All-drop}
use Rattle.edl.specs.declared.list.Event.{Event}
use Rattle.edl.specs.Entry.{EventEntry}
use Rattle.edl.specs.EntryShown.{entries_of, entry_shown}
use Rattle.edl_diff.specs.declared.track.Track.{Track}
use Rattle.edl_diff.specs.declared.layers.Piece.{Piece}
use Rattle.edl_diff.specs.Layers.{over, piece_at, top_from}
use Rattle.edl_diff.proofs.TopLemmas.{top_from-append}

pub no_top : (day : ℕ) (track : Track) (n : ℕ) (events : List Event) (f : ℕ) → length events ≡ 0
    → top_from day track n (entries_of events) f ≡ None
unfolding top_from
no_top day track n [] f none = refl
no_top day track n (e ∷ es) f none = absurd (omega arith)

-- what holds of each entry holds of an event
pub holds_at : (P : EventEntry → Type 0) (events : List Event) (i : ℕ) (x : Event) → All P (entries_of events)
    → i < length events → x ≡ get_or events i x → P (entry_shown x)
holds_at P events i x all lt is =
    let within : i < length (entries_of events) = omega (arith, length-map events entry_shown) in
    subst P (get_or-map entry_shown events i x (entry_shown x) lt ∙ ap entry_shown (sym is))
    (all i (entry_shown x) within)

-- a list of one event
pub one_event : (events : List Event) (x : Event) → length events ≡ 1 → x ≡ get_or events 0 x
    → entries_of events ≡ entry_shown x ∷ []
one_event [] x one is = absurd (omega arith)
one_event (e ∷ []) x one is = ap (λ (y : Event). entry_shown y ∷ []) (sym is)
one_event (e ∷ f ∷ es) x one is = absurd (omega arith)

-- the first events of a list, and those behind them
pub all_front : (P : EventEntry → Type 0) (events front : List Event) (n : ℕ) → front ≡ take n events
    → All P (entries_of events) → All P (entries_of front)
all_front P events front n is all =
    subst (λ (l : List EventEntry). All P l) (take-map entry_shown n events ∙ ap entries_of (sym is))
    (All-take P n (entries_of events) all)

pub all_back : (P : EventEntry → Type 0) (events back : List Event) (n : ℕ) → back ≡ drop n events
    → All P (entries_of events) → All P (entries_of back)
all_back P events back n is all =
    subst (λ (l : List EventEntry). All P l) (drop-map entry_shown n events ∙ ap entries_of (sym is))
    (All-drop P n (entries_of events) all)

-- the pieces of those behind lie over the pieces of the first
pub top_of_both : (day : ℕ) (track : Track) (n : ℕ) (events front back : List Event) (k f : ℕ) → front ≡ take k events
    → back ≡ drop k events
    → over (Some (top_from day track (n + length front) (entries_of back) f))
    (Some (top_from day track n (entries_of front) f))
    ≡ Some (top_from day track n (entries_of events) f)
top_of_both day track n events front back k f front_is back_is =
    let whole : front ++ back ≡ events =
    ap (λ (l : List Event). l ++ back) front_is ∙ ap (λ (l : List Event). take k events ++ l) back_is
    ∙ take-append-drop k events in
    let entries : entries_of front ++ entries_of back ≡ entries_of events =
    sym (map-append entry_shown front back) ∙ ap entries_of whole in
    let size : length (entries_of front) ≡ length front = length-map front entry_shown in
    ap (λ (m : ℕ). Some
    (option_or (top_from day track (n + m) (entries_of back) f) (top_from day track n (entries_of front) f)))
    (sym size)
    ∙ ap (λ (o : Option ℕ). Some o) (sym (top_from-append day track f n (entries_of front) (entries_of back)))
    ∙ ap (λ (l : List EventEntry). Some (top_from day track n l f)) entries

-- as two calls say it
pub laid_both : (day : ℕ) (track : Track) (n : ℕ) (events front back : List Event) (k : ℕ)
    (above under pieces : List Piece)
    → front ≡ take k events → back ≡ drop k events
    → ((f : ℕ) → f < day → piece_at under f ≡ Some (top_from day track n (entries_of front) f))
    → ((f : ℕ) → f < day → piece_at above f ≡ Some (top_from day track (n + length front) (entries_of back) f))
    → ((f : ℕ) → piece_at pieces f ≡ over (piece_at above f) (piece_at under f))
    → (f : ℕ) → f < day → piece_at pieces f ≡ Some (top_from day track n (entries_of events) f)
laid_both day track n events front back k above under pieces front_is back_is first second laid f lt =
    laid f
    ∙ ap (λ (o : Option (Option ℕ)). over o (piece_at under f)) (second f lt)
    ∙ ap (λ (o : Option (Option ℕ)). over (Some (top_from day track (n + length front) (entries_of back) f)) o)
    (first f lt)
    ∙ top_of_both day track n events front back k f front_is back_is
