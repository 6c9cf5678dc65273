-- Texts that stand in a source one behind another.
use Rattle.std.specs.Prelude.{◌≡◌, ℕ, List, [], ◌∷◌, ◌++◌}
use Rattle.std.specs.List.{flat_map}
use Rattle.edl.specs.Entry.{EventEntry}

-- each is a part of what stands behind the one before
unfoldable pub IsInOrder : List ℕ → List (List ℕ) → Type 0
IsInOrder source [] = Unit {0}
IsInOrder source (text ∷ texts) =
    (before : List ℕ) × (after : List ℕ) × (source ≡ before ++ (text ++ after)) × IsInOrder after texts

-- the texts of an event, in the order of its line and of its notes' lines
abbrev pub texts_in : EventEntry → List (List ℕ)
texts_in event = event.reel ∷ event.channels ∷ event.kind ∷ event.notes

abbrev pub texts_of_events : List EventEntry → List (List ℕ)
texts_of_events events = flat_map texts_in events
