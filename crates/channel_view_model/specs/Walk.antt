-- For the proof of a walk over tables, channel after channel, and no part of the promise, which says the rows of a
-- channel by `rows_of`: of rows of which those of channel c come first, where the others begin.
use Rattle.std.specs.Prelude.{ℕ, not, ◌==◌, take, drop}
use Rattle.std.specs.List.{position_or_len}
use Rattle.channel_view_model.specs.Tables.{Table}

abbrev pub others_at : {A : Type 0} → ℕ → Table A → ℕ
others_at c table = position_or_len (λ r. not (r.0 == c)) table

abbrev pub rows_in_front : {A : Type 0} → ℕ → Table A → Table A
rows_in_front c table = take (others_at c table) table

abbrev pub rows_behind : {A : Type 0} → ℕ → Table A → Table A
rows_behind c table = drop (others_at c table) table
