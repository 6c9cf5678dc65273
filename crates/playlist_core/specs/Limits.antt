-- How much a day may have.
use Rattle.std.specs.Prelude.{ℕ}

-- items, and the highest number of one
abbrev pub most_items : ℕ
most_items = 9999

-- the frames over which the picture changes to an item
abbrev pub most_mix : ℕ
most_mix = 999

-- the number of a wipe
abbrev pub last_wipe : ℕ
last_wipe = 999
