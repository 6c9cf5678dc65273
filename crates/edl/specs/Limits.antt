-- How much a list may have.
use Rattle.std.specs.Prelude.{ℕ}

-- events that have a frame
abbrev pub most_events : ℕ
most_events = 9999

abbrev pub highest_event_number : ℕ
highest_event_number = 9999

-- the bytes of a list
abbrev pub most_list_bytes : ℕ
most_list_bytes = 1000000
