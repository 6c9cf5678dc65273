-- How long a message may be.
use Rattle.std.specs.Prelude.{ℕ}
use Rattle.edl.specs.Limits.{most_list_bytes}

-- the bytes of a body: those of a list
abbrev pub most_body_bytes : ℕ
most_body_bytes = most_list_bytes
