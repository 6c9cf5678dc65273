-- Outputs.
use Rattle.std.specs.Prelude.{ℕ, ◌++◌, List, drop, length}

-- the text at the beginning of the room, and behind it the room as it was
unfoldable pub put : List ℕ → List ℕ → List ℕ
put text room = text ++ drop (length text) room
