-- What C passes and gets as numbers: a rate, and why a call gave nothing.
use Rattle.std.specs.Prelude.{ℕ, Option, Some, None, ◌==◌, if◌then◌else◌}
use Rattle.timecode.specs.declared.rates.Rate.{Rate}
use Rattle.timecode.specs.declared.rates.Rate.TheVariants.{F24, F25, F30, Df30}

-- 24, 25 and 30, and 29 is drop-frame at 30000/1001; no other number is a rate
abbrev pub rate_numbered : ℕ → Option Rate
rate_numbered number =
    if number == 24 then Some F24 else if number == 25 then Some F25 else
    if number == 30 then Some F30 else if number == 29 then Some Df30 else None

abbrev pub number_of_rate : Option Rate → ℕ
number_of_rate (Some F24) = 24
number_of_rate (Some F25) = 25
number_of_rate (Some F30) = 30
number_of_rate (Some Df30) = 29
number_of_rate None = 0

-- What stands in the place of a fault's number where a call did what it is for, and the faults that are C's own. The
-- others have their own numbers: 1 to 5 of labels, 11 to 14 of UMIDs, 21 to 30 of lists, 100 for want of memory.
abbrev pub done : ℕ
done = 0

abbrev pub no_such_rate : ℕ
no_such_rate = 6

abbrev pub no_room : ℕ
no_room = 7

abbrev pub no_range : ℕ
no_range = 8

abbrev pub instance_range : ℕ
instance_range = 9

abbrev pub too_long : ℕ
too_long = 10

-- the duration of an event that has none
abbrev pub no_duration : ℕ
no_duration = 4_294_967_295

-- an event that can't be written, and bytes that are no text or a place beyond them
abbrev pub not_writable : ℕ
not_writable = 31

abbrev pub no_text : ℕ
no_text = 32
