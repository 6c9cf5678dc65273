-- A lent clip by the offer that lends it.
use Rattle.std.specs.Prelude.{ℕ, ◌==◌, Option, Some, None, if◌then◌else◌}
use Rattle.vault_core.specs.declared.offer.Offer.{Offer}
use Rattle.grant_core.specs.declared.grant.Grant.{Grant}
use Rattle.channel_view_model.specs.Seen.{grant_of}

-- the lent clip of an offer, if it is to the channel
abbrev pub lent_to : ℕ → Option (ℕ × Offer) → Option Grant
lent_to channel None = None
lent_to channel (Some r) = if r.1.grantee == channel then Some (grant_of r) else None
