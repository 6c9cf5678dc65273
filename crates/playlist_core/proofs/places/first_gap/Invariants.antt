-- The loops of `first_gap` (the first frame of the day that no item covers).
use Rattle.std.proofs.Common.{◌≡◌, drop}
use Rattle.playlist_core.specs.Item.{planned}
use Rattle.playlist_core.proofs.GapLemmas.{gap_from}
use Rattle.playlist_core.proofs.places.first_gap.Given as goal

-- what is left decides
abbrev pub invariant-loop-item : goal.invariant-loop-item
invariant-loop-item l =
    gap_from planned l.frames l.covered (drop l.item-index l.items) ≡ gap_from planned l.frames 0 l.items
