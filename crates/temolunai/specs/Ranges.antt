-- Ranges of frames as C gets them.
use Rattle.std.specs.Prelude.{ℕ, ◌-◌, ◌^◌, nat_le, nat_lt, if◌then◌else◌, Option, Some, None}
use Rattle.timecode.specs.declared.ranges.TimeRange.{TimeRange}
use Rattle.temolunai.specs.Numbers.{done, no_range}
use Rattle.temolunai.specs.declared.ranges.Range.{Range}
use Rattle.temolunai.specs.declared.ranges.RangeRead.{RangeRead}

-- the range that C passes
abbrev pub range_shown : Range → TimeRange
range_shown range = record { start = range.start; duration = range.duration }

-- the range that C gets, or that there is none
abbrev pub range_passed : TimeRange → Range
range_passed range = record { start = range.start; duration = range.duration }

abbrev pub range_read : Option TimeRange → RangeRead
range_read (Some range) = record { fault = done; range = range_passed range }
range_read None = record { fault = no_range; range = record { start = 0; duration = 0 } }

-- from the start up to the end, which isn't before it
abbrev pub range_up_to : ℕ → ℕ → Option TimeRange
range_up_to start end = if nat_le start end then Some (record { start = start; duration = end - start }) else None

-- a range whose duration has 32 bits
abbrev pub range_fitting : TimeRange → Option TimeRange
range_fitting range = if nat_lt range.duration (2 ^ 32) then Some range else None
