-- The loops of `are_pairs_apart` (whether no two rows have the same key, found out with no memory).
use Rattle.std.proofs.Common.{◌≡◌, drop}
use Rattle.vault_core.specs.Rules.{are_apart}
use Rattle.vault_core.proofs.keys.are_pairs_apart.Given as goal

-- what is left decides
abbrev pub invariant-loop-at : goal.invariant-loop-at
invariant-loop-at g l = are_apart g.K.Key.same (drop l.at l.rows) ≡ are_apart g.K.Key.same l.rows
