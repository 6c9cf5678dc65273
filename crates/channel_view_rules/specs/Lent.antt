-- What is lent to the channels, each offer as a lent clip.
use Rattle.std.specs.Prelude.{◌≡◌, ℕ, List, filter, ◌==◌}
use Rattle.vault_core.specs.declared.offer.Offer.{Offer}
use Rattle.grant_core.specs.declared.grant.Grant.{Grant}
use Rattle.channel_view_model.specs.Tables.{Table}
use Rattle.channel_view_model.specs.Seen.{grants_to}

-- of these, each channel has what the offers lend it
abbrev pub LendsAs : List Grant → Table Offer → Type 0
LendsAs lent offers = (c : ℕ) → filter (λ g. g.offer.grantee == c) lent ≡ grants_to c offers
