-- The loop of `Vaults::lent_to` (what all channels lend to this one).
use Rattle.std.proofs.Common.{◌≡◌, take}
use Rattle.rows_at_hand.specs.Vaults.{lent_in}
use Rattle.rows_at_hand.proofs.vaults.Vaults.lent_to.Given as goal

-- what the vaults in front lend was found
abbrev pub invariant-loop-vault : goal.invariant-loop-vault
invariant-loop-vault l = l.lent.items ≡ lent_in l.channel (take l.vault-index l.vault-items)
