-- What the program has at hand of the tables that it serves.
use Rattle.std.specs.Prelude.{ℕ}

-- the most bytes that the tapes, the clips and the offers at hand take, by their rows
abbrev pub most_vault_bytes : ℕ
most_vault_bytes = 67108864
