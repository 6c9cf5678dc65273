-- What a list shows: each track of it is painted, a frame of the day at a time.
use Rattle.std.specs.Prelude.{ℕ, ◌+◌, ◌-◌, ◌*◌, ◌/◌, Bool, nat_le, nat_lt, if◌then◌else◌, List, [], ◌∷◌, Option, Some}
use Rattle.std.specs.Prelude.{None}
use Rattle.edl.specs.Entry.{EventEntry}
use Rattle.edl_diff.specs.declared.track.Track.{Track}
use Rattle.edl_diff.specs.Track.{is_on}

-- how many frames a frame comes behind the first one, through the day's end
abbrev pub since : ℕ → ℕ → ℕ → ℕ
since day first frame = if nat_le first frame then frame - first else (day - first) + frame

-- it is one of the event's record
abbrev pub covers : ℕ → EventEntry → ℕ → Bool
covers day event frame = nat_lt (since day event.record_first frame) event.length

-- the source frame at the kth frame of an event's record, over which the source is spread evenly
unfoldable pub source_frame : EventEntry → ℕ → ℕ
source_frame event k = event.source_first + (k * (event.source_end - event.source_first)) / event.length

-- a frame of a reel
pub record Cell : Type 0 where
  pub reel : List ℕ
  pub frame : ℕ

-- what an event shows at the kth frame of its record
abbrev pub cell_of : EventEntry → ℕ → Cell
cell_of event k = record { reel = event.reel; frame = source_frame event k }

-- An event painted over a picture: each frame of its record shows its source, and each other frame stays.
abbrev pub paint : ℕ → EventEntry → (ℕ → Option Cell) → ℕ → Option Cell
paint day event picture frame =
    if covers day event frame then Some (cell_of event (since day event.record_first frame)) else picture frame

-- The events of a list that are on a track, painted in their order over a picture: each over those before it.
unfoldable pub painted : ℕ → Track → List EventEntry → (ℕ → Option Cell) → ℕ → Option Cell
painted day track [] picture = picture
painted day track (event ∷ events) picture =
    painted day track events (if is_on track event then paint day event picture else picture)

-- what a track of a list shows at a frame: its events are painted over nothing
abbrev pub shown : ℕ → Track → List EventEntry → ℕ → Option Cell
shown day track events = painted day track events (λ frame. None)
