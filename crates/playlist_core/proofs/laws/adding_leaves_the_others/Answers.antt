-- `adding_leaves_the_others`: to add an item leaves all others.
use Rattle.std.proofs.Common.{◌+◌, ◌∷◌, Bool, subst}
use Rattle.std.specs.Prelude.{nat_lt, IsPermutation}
use Rattle.std.specs.List.{position_or_len}
use Rattle.std.proofs.lemmas.List.Sorted.{IsPermutation-insert}
use Rattle.playlist_core.specs.declared.item.Item.{Item}
use Rattle.playlist_core.proofs.PlaceLemmas.{at_place}
use Rattle.playlist_core.proofs.laws.adding_leaves_the_others.Goals as goal

pub returns : goal.returns
returns c = λ day item.
    let behind : Item → Bool = λ i. nat_lt item.pos (i.pos + i.frames) in
    subst (IsPermutation (item ∷ day.items)) (at_place behind item day.items)
    (IsPermutation-insert day.items (position_or_len behind day.items) item)
