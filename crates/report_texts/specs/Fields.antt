-- The fields of a table's line.
use Rattle.std.specs.Prelude.{ℕ, ◌-◌, List, ◌++◌, Bool, length, replicate, decimal, nat_lt}
use Rattle.timecode.specs.declared.rates.Rate.{Rate}
use Rattle.timecode.specs.Counting.{day_length}

abbrev pub blanks : ℕ → List ℕ
blanks count = replicate count 32

-- at the left of so many places
abbrev pub left_in : ℕ → List ℕ → List ℕ
left_in width text = text ++ blanks (width - length text)

-- at the right of them
abbrev pub right_in : ℕ → List ℕ → List ℕ
right_in width text = blanks (width - length text) ++ text

-- a number in decimal, at their right
abbrev pub number_in : ℕ → ℕ → List ℕ
number_in width n = right_in width (decimal n)

-- whether a frame is one of the day, and so has a label
abbrev pub has_label : Rate → ℕ → Bool
has_label rate frame = nat_lt frame (day_length rate)
