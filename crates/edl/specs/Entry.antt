-- An event of a list.
use Rattle.std.specs.Prelude.{ℕ, Bool, ◌||◌, ◌==◌, List, Option, bytes_eq, codes}
use Rattle.std.specs.List.{list_any}
use Rattle.timecode.specs.Letters.{letter_V}

-- places are frames of the day; the end of the source is exclusive
pub record EventEntry : Type 0 where
  pub line : ℕ
  pub number : ℕ
  pub reel : List ℕ
  pub channels : List ℕ
  pub kind : List ℕ
  pub duration : Option ℕ
  pub source_first : ℕ
  pub source_end : ℕ
  pub record_first : ℕ
  pub length : ℕ
  pub speed : Bool
  pub notes : List (List ℕ)

-- an event is for the picture where its channels are `B` or have a `V` among them
abbrev pub is_picture : EventEntry → Bool
is_picture event = bytes_eq event.channels (codes "B") || list_any (λ letter. letter == letter_V) event.channels
