-- Ranges of frames: from `start` on, `duration` frames. The end is exclusive. What two ranges are to each other has
-- the names and the meaning of OpenTimelineIO's opentime.
use Rattle.std.specs.Prelude.{ℕ, ◌+◌, ◌-◌, ◌<◌, ◌≤◌, min, max}
use Rattle.timecode.specs.declared.ranges.TimeRange.{TimeRange}

abbrev pub end_of : TimeRange → ℕ
end_of range = range.start + range.duration

-- the last frame; of a range without frames its start
abbrev pub last_of : TimeRange → ℕ
last_of range = range.start + (range.duration - 1)

-- the frame stands in the range
abbrev pub Covers : TimeRange → ℕ → Type 0
Covers range frame = (range.start ≤ frame) × (frame < end_of range)

-- each starts before the other ends
abbrev pub Intersects : TimeRange → TimeRange → Type 0
Intersects a b = (a.start < end_of b) × (b.start < end_of a)

-- a starts before b does, and ends within b
abbrev pub Overlaps : TimeRange → TimeRange → Type 0
Overlaps a b = (a.start < b.start) × (b.start < end_of a) × (end_of a < end_of b)

-- a starts before b does, and ends after b does
abbrev pub ContainsRange : TimeRange → TimeRange → Type 0
ContainsRange a b = (a.start < b.start) × (end_of b < end_of a)

-- from the first number up to the second, which is exclusive; without frames where that isn't the larger
abbrev pub range_between : ℕ → ℕ → TimeRange
range_between start end = record { start = start; duration = end - start }

-- from the earlier start up to the later end
abbrev pub extended_by : TimeRange → TimeRange → TimeRange
extended_by a b = range_between (min a.start b.start) (max (end_of a) (end_of b))

-- from the later start up to the earlier end
abbrev pub common_part : TimeRange → TimeRange → TimeRange
common_part a b = range_between (max a.start b.start) (min (end_of a) (end_of b))
