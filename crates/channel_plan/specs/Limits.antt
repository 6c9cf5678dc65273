-- How far the numbers of a centre go.
use Rattle.std.specs.Prelude.{ℕ}

-- those of channels
abbrev pub last_channel : ℕ
last_channel = 999

-- the slots of a channel
abbrev pub most_slots : ℕ
most_slots = 9999

-- those of broadcast days
abbrev pub last_day : ℕ
last_day = 99999
