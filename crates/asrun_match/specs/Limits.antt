-- How much may be told of a day.
use Rattle.std.specs.Prelude.{ℕ}

-- batches, and the highest number of one
abbrev pub most_batches : ℕ
most_batches = 64
