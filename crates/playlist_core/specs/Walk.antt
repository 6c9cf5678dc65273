-- For the proof of a walk over two days, and no part of the promise, which says what the walk finds by `not_among`:
-- the items of one day from a position on, gone through from the front.
use Rattle.std.specs.Prelude.{ℕ, nat_le, Bool, false, List, [], ◌∷◌, drop}
use Rattle.std.specs.List.{position_or_len}
use Rattle.playlist_core.specs.declared.item.Item.{Item}
use Rattle.playlist_core.specs.Difference.{same_item}

-- whether an item doesn't begin before a position
abbrev pub begin_at : ℕ → Item → Bool
begin_at position i = nat_le position i.pos

-- the items from the first such on
abbrev pub from_position : ℕ → List Item → List Item
from_position position is = drop (position_or_len (begin_at position) is) is

-- whether the first of the items is this one
abbrev pub first_is : List Item → Item → Bool
first_is [] x = false
first_is (i ∷ is) x = same_item i x
