-- Texts that C gets and gives: their places among some bytes.
use Rattle.std.specs.Prelude.{ℕ, ◌+◌, ◌≤◌, List, map, take, drop}
use Rattle.temolunai.specs.declared.texts.Place.{Place}

-- the text at a place
abbrev pub text_at : List ℕ → Place → List ℕ
text_at bytes place = take place.length (drop place.at bytes)

-- the place lies among so many bytes
abbrev pub IsWithin : ℕ → Place → Type 0
IsWithin count place = place.at + place.length ≤ count

-- the texts at all places
abbrev pub texts_at : List ℕ → List Place → List (List ℕ)
texts_at bytes places = map (text_at bytes) places
