-- The loop of `Vaults::of` (the vaults of rows).
use Rattle.std.proofs.Common.{◌≡◌, map, take}
use Rattle.rows_at_hand.specs.Vaults.{vault_of}
use Rattle.rows_at_hand.proofs.vaults.Vaults.of.Given as goal

-- the vaults of the channels in front were made
abbrev pub invariant-loop-plan : goal.invariant-loop-plan
invariant-loop-plan l = l.each.items ≡ map (λ p. vault_of p.ch l.set) (take l.plan-index l.plan-items)
