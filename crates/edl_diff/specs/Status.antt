-- How two lists compare, frame by frame.
use Rattle.std.specs.Prelude.{ℕ, zero, suc, ◌+◌, Bool, not, ◌||◌, ◌==◌, if◌then◌else◌, List, [], ◌∷◌, bytes_eq, codes}
use Rattle.std.specs.Prelude.{Option, Some, None}
use Rattle.edl.specs.Entry.{EventEntry}
use Rattle.edl_diff.specs.declared.track.Track.{Track}
use Rattle.edl_diff.specs.declared.status.Status.{Status}
use Rattle.edl_diff.specs.declared.status.Status.TheVariants.{Empty, Same, Slip, Other, OnlyOne, OnlyOther}
use Rattle.edl_diff.specs.Shown.{Cell, shown}

-- black has two names
abbrev pub source_named : List ℕ → List ℕ
source_named reel = if bytes_eq reel (codes "BLACK") then codes "BL" else reel

unfoldable pub same_source : List ℕ → List ℕ → Bool
same_source reel other = bytes_eq (source_named reel) (source_named other)

-- each frame of black and of bars is like each other
unfoldable pub is_still : List ℕ → Bool
is_still reel = bytes_eq (source_named reel) (codes "BL") || bytes_eq reel (codes "BARS")

-- one source: at the same frame, or not
abbrev pub status_beside : Bool → Bool → Bool → Status
status_beside same still equal = if not same then Other else if still || equal then Same else Slip

-- Nothing is shown; one list alone shows something; or both do: another source, or the same one, at the same frame or
-- at another.
abbrev pub status_of : Option Cell → Option Cell → Status
status_of None None = Empty
status_of (Some cell) None = OnlyOne
status_of None (Some cell) = OnlyOther
status_of (Some cell) (Some other) =
    status_beside (same_source cell.reel other.reel) (is_still cell.reel) (cell.frame == other.frame)

-- the values of n frames from p on
abbrev pub from_frame : {A : Type 0} → (ℕ → A) → ℕ → ℕ → List A
from_frame value p zero = []
from_frame value p (suc n) = value p ∷ from_frame value (p + 1) n

abbrev pub status_at : ℕ → Track → List EventEntry → List EventEntry → ℕ → Status
status_at day track one other frame = status_of (shown day track one frame) (shown day track other frame)

-- the status of each frame of a day
abbrev pub statuses : ℕ → Track → List EventEntry → List EventEntry → List Status
statuses day track one other = from_frame (status_at day track one other) 0 day
