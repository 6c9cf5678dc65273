-- Time addresses and the order in which they are counted: SMPTE ST 12-1, time address in 24-, 25- and
-- 30-frame systems, non-drop-frame and drop-frame.
use Rattle.std.specs.Prelude.{ℕ, ◌+◌, ◌%◌, Bool, not, ◌&&◌, nat_lt, ◌==◌, if◌then◌else◌}
use Rattle.timecode.specs.declared.rates.Rate.{Rate}
use Rattle.timecode.specs.Rate.{nominal_frames, is_drop_frame}

-- HH:MM:SS:FF
pub record Address : Type 0 where
  pub hours : ℕ
  pub minutes : ℕ
  pub seconds : ℕ
  pub frames : ℕ

abbrev pub address : ℕ → ℕ → ℕ → ℕ → Address
address h m s f = record { hours = h; minutes = m; seconds = s; frames = f }

-- 00:00:00:00, at which a day begins
abbrev pub midnight : Address
midnight = address 0 0 0 0

abbrev pub same_address : Address → Address → Bool
same_address a b = (a.hours == b.hours) && (a.minutes == b.minutes) && (a.seconds == b.seconds)
    && (a.frames == b.frames)

-- one more frame: frames carry into seconds at n, seconds and minutes at 60, and hours at 24 begin the day again
abbrev pub counted_on : ℕ → Address → Address
counted_on n a =
    if nat_lt (a.frames + 1) n then address a.hours a.minutes a.seconds (a.frames + 1) else
    if nat_lt (a.seconds + 1) 60 then address a.hours a.minutes (a.seconds + 1) 0 else
    if nat_lt (a.minutes + 1) 60 then address a.hours (a.minutes + 1) 0 0 else
    if nat_lt (a.hours + 1) 24 then address (a.hours + 1) 0 0 0 else
    midnight

-- at the start of a minute, other than each tenth
abbrev pub begins_short_minute : Address → Bool
begins_short_minute a = (a.seconds == 0) && (a.frames == 0) && not (a.minutes % 10 == 0)

-- the address of the next frame: drop-frame counting begins each minute but 00, 10, 20, 30, 40 and 50 at frame 02
abbrev pub next_address : Rate → Address → Address
next_address rate a =
    let next = counted_on (nominal_frames rate) a in
    if is_drop_frame rate && begins_short_minute next then address next.hours next.minutes 0 2 else next

-- hours to 23, minutes and seconds to 59, frames below the counting rate
abbrev pub is_in_range : Rate → Address → Bool
is_in_range rate a =
    nat_lt a.hours 24 && nat_lt a.minutes 60 && nat_lt a.seconds 60 && nat_lt a.frames (nominal_frames rate)

-- frames 00 and 01 of the first second of each minute but 00, 10, 20, 30, 40 and 50, at drop-frame
abbrev pub is_dropped : Rate → Address → Bool
is_dropped rate a = is_drop_frame rate && (a.seconds == 0) && nat_lt a.frames 2 && not (a.minutes % 10 == 0)
