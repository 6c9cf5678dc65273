-- How long a connection may be waited for.
use Rattle.std.specs.Prelude.{ℕ, ◌*◌}

-- one read of it waits so many seconds at most, and one write
abbrev pub IsLimited : {C : Type 0} → (C → ℕ → Type 0) → (C → ℕ → Type 0) → C → ℕ → Type 0
IsLimited limits_reads limits_writes connection seconds =
    limits_reads connection (seconds * 1_000_000_000) × limits_writes connection (seconds * 1_000_000_000)
