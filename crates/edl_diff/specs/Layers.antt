-- Which event of a list is on top, and how a day is laid out in stretches over which one event is.
use Rattle.std.specs.Prelude.{◌≡◌, ℕ, ◌+◌, ◌-◌, ◌<◌, ◌≤◌, Bool, true, ◌&&◌, nat_lt, min, if◌then◌else◌, List, [], ◌∷◌}
use Rattle.std.specs.Prelude.{Option, Some, None, slice_get}
use Rattle.std.specs.Borrow.{Bor}
use Rattle.std.specs.Option.{option_or, option_and_then}
use Rattle.edl.specs.declared.list.Event.{Event}
use Rattle.edl.specs.Entry.{EventEntry}
use Rattle.edl.specs.EntryShown.{entry_shown}
use Rattle.edl_diff.specs.declared.track.Track.{Track}
use Rattle.edl_diff.specs.declared.layers.Piece.{Piece}
use Rattle.edl_diff.specs.declared.layers.Stretch.{Stretch}
use Rattle.edl_diff.specs.Track.{is_on}
use Rattle.edl_diff.specs.Shown.{Cell, cell_of, covers, since}

-- the event is painted at this frame
abbrev pub is_painted : ℕ → Track → EventEntry → ℕ → Bool
is_painted day track event frame = is_on track event && covers day event frame

-- the last event that is painted there
unfoldable pub top_of : ℕ → Track → List EventEntry → ℕ → Option EventEntry
top_of day track [] frame = None
top_of day track (event ∷ events) frame =
    option_or (top_of day track events frame) (if is_painted day track event frame then Some event else None)

-- and its number, counted from n
unfoldable pub top_from : ℕ → Track → ℕ → List EventEntry → ℕ → Option ℕ
top_from day track n [] frame = None
top_from day track n (event ∷ events) frame =
    option_or (top_from day track (n + 1) events frame) (if is_painted day track event frame then Some n else None)

-- the event of a number, counted from 0
abbrev pub event_numbered : List EventEntry → Option ℕ → Option EventEntry
event_numbered events number = option_and_then (slice_get events) number

-- an event, if there is one, as a contract sees it
abbrev pub event_shown : Option (Bor Event) → Option EventEntry
event_shown None = None
event_shown (Some event) = Some (entry_shown event.now)

-- what it shows at a frame of its record
abbrev pub cell_in : ℕ → Option EventEntry → ℕ → Option Cell
cell_in day None frame = None
cell_in day (Some event) frame = Some (cell_of event (since day event.record_first frame))

-- the places of an event lie in a day of so many frames
pub record IsPlaced (day : ℕ) (event : EventEntry) : Type 0 where
  pub ordered : event.source_first ≤ event.source_end
  pub source_end : event.source_end ≤ day
  pub record_first : event.record_first < day
  pub length : event.length < day

-- and each frame of a stretch is one of its record
pub record ShowsFrom (day from end : ℕ) (event : EventEntry) : Type 0 where
  pub placed : IsPlaced day event
  pub covered : (frame : ℕ) → from ≤ frame → frame < end → covers day event frame ≡ true

-- what stands at a frame of pieces: the event of the first one that ends behind it
abbrev pub piece_at : List Piece → ℕ → Option (Option ℕ)
piece_at [] frame = None
piece_at (piece ∷ pieces) frame = if nat_lt frame piece.end then Some piece.event else piece_at pieces frame

-- of pieces over others: an event of the first, and where there is none one of the others
abbrev pub over : Option (Option ℕ) → Option (Option ℕ) → Option (Option ℕ)
over None under = None
over (Some above) None = None
over (Some above) (Some under) = Some (option_or above under)

-- the stretch up to where the first piece of either ends
abbrev pub next_of : List Piece → List Piece → Option Stretch
next_of [] others = None
next_of (one ∷ ones) [] = None
next_of (one ∷ ones) (other ∷ others) =
    Some (record { end = min one.end other.end; one = one.event; other = other.event })

-- without the first piece, if it has ended
abbrev pub behind : ℕ → List Piece → List Piece
behind end [] = []
behind end (piece ∷ pieces) = if nat_lt end piece.end then piece ∷ pieces else pieces
