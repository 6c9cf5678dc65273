-- The loops of `umids_of` (the UMIDs of clips).
use Rattle.std.proofs.Common.{◌≡◌, take}
use Rattle.std.specs.Prelude.{map}
use Rattle.vault_core.specs.Clip.{umid_bytes}
use Rattle.vault_core.proofs.keys.umids_of.Given as goal

abbrev pub invariant-loop-clip : goal.invariant-loop-clip
invariant-loop-clip l = l.umids.items ≡ map umid_bytes (take l.clip-index l.clips)
