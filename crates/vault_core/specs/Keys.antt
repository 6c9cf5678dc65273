-- Keys that a row may have, of two rows: as they are tested where there is no memory to put all in order.
use Rattle.std.specs.Prelude.{ℕ, Bool, false, Option, Some, None, if◌then◌else◌}
use Rattle.vault_core.specs.declared.offer.Offer.{Offer}

-- both have one, and the two are equal
abbrev pub are_both : {K : Type 0} → (K → K → Bool) → Option K → Option K → Bool
are_both equal None other = false
are_both equal (Some key) None = false
are_both equal (Some key) (Some other) = equal key other

-- the clip and the grantee of an offer that is open
abbrev pub open_grant : Offer → Option (ℕ × ℕ)
open_grant o = if o.withdrawn then None else Some (o.clip, o.grantee)
