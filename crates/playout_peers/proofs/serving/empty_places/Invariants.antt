-- The loops of `empty_places` (so many places, at which nobody is).
use Rattle.std.proofs.Common.{◌≡◌, ℕ, get_or}
use Rattle.std.specs.Prelude.{None}
use Rattle.playout_peers.proofs.serving.empty_places.Given as goal

-- nobody is at those that there are
abbrev pub invariant-loop : goal.invariant-loop
invariant-loop l = (i : ℕ) → get_or l.places.items i None ≡ None
