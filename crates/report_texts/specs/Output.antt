-- What a writer has taken of some bytes.
use Rattle.std.specs.Prelude.{ℕ, List, take, Option}
use Rattle.std.specs.Io.KnownBytes.{Appends}

-- a beginning of them
abbrev pub AppendsPart : Option (List ℕ) → Option (List ℕ) → List ℕ → Type 0
AppendsPart written_old written_new bytes = (n : ℕ) × Appends written_old written_new (take n bytes)
