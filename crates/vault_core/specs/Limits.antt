-- How many rows a channel may have.
use Rattle.std.specs.Prelude.{ℕ}

abbrev pub most_tapes : ℕ
most_tapes = 9999

abbrev pub most_clips : ℕ
most_clips = 20000

abbrev pub most_offers : ℕ
most_offers = 9999
