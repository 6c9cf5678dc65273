-- The loops of `lie_beside` (whether no row covers a frame that one of the others covers).
use Rattle.std.proofs.Common.{◌≡◌, ℕ, ◌<◌, get_or, None}
use Rattle.playlist_core.specs.Picture.{first_painted, picture_of}
use Rattle.playlist_core.specs.Order.{AreApart}
use Rattle.asrun_match.specs.declared.aired.AiredRow.{AiredRow}
use Rattle.asrun_match.specs.Aired.{aired}
use Rattle.asrun_match.proofs.places.lie_beside.Given as goal

-- those so far are beside all rows
abbrev pub invariant-loop-other : goal.invariant-loop-other
invariant-loop-other l =
    (day : ℕ) → AreApart aired 0 day l.rows → AreApart aired 0 day l.others → (k : ℕ) (d : AiredRow) → k < l.other-index
    → first_painted (get_or l.others k d).pos (get_or l.others k d).frames (picture_of aired day l.rows) ≡ None
