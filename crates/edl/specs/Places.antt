-- Where the texts of a list stand in its source.
use Rattle.std.specs.Prelude.{◌≡◌, ℕ, ◌+◌, ◌<◌, List, [], ◌∷◌, ◌++◌, length}
use Rattle.edl.specs.Text.{lines_of, fields_of}
use Rattle.edl.specs.Line.{field}
use Rattle.edl.specs.Entry.{EventEntry}

-- line n of the source, counted from 1, says this
pub record IsLine (source : List ℕ) (n : ℕ) (text : List ℕ) : Type 0 where
  pub before : List (List ℕ)
  pub after : List (List ℕ)
  pub lines_are : lines_of source ≡ before ++ text ∷ after
  pub number_is : n ≡ length before + 1

-- each is all that a line behind line n says, one behind another
unfoldable pub AreLinesBehind : List ℕ → ℕ → List (List ℕ) → Type 0
AreLinesBehind source n [] = Unit {0}
AreLinesBehind source n (text ∷ texts) = (k : ℕ) × (n < k) × IsLine source k text × AreLinesBehind source k texts

-- the words of an event are the second, third and fourth field of its line, and its notes are lines behind that one
pub record StandsOnItsLine (source : List ℕ) (event : EventEntry) : Type 0 where
  pub line : List ℕ
  pub line_is : IsLine source event.line line
  pub reel : event.reel ≡ field (fields_of line) 1
  pub channels : event.channels ≡ field (fields_of line) 2
  pub kind : event.kind ≡ field (fields_of line) 3
  pub notes : AreLinesBehind source event.line event.notes
