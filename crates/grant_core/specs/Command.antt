-- Part of the promise: the commands on a channel's offers: the row that each puts, and what is said of one that was
-- done already.
use Rattle.std.specs.Prelude.{◌≡◌, ◌+◌, true, false, length, Result}
use Rattle.channel_plan.specs.declared.refusal.Code.{Code}
use Rattle.channel_plan.specs.declared.refusal.Code.TheVariants.{AlreadyOffered, Withdrawn}
use Rattle.channel_plan.specs.declared.refusal.Refusal.{Refusal}
use Rattle.vault_core.specs.declared.offer.Offer.{Offer}
use Rattle.vault_core.specs.declared.command.Put.{Put}
use Rattle.vault_core.specs.declared.command.Put.TheVariants.{Added, Changed}
use Rattle.vault_core.specs.Own.{Own, OwnSeen}
use Rattle.vault_core.specs.Command.{MayBePut}
use Rattle.grant_core.specs.declared.command.OfferCommand.{OfferCommand}
use Rattle.grant_core.specs.declared.command.OfferCommand.TheVariants as offers
use Rattle.grant_core.specs.ClipRef.{clip_ref}
use Rattle.grant_core.specs.Offering.{offer_for, withdrawn_offer}

-- the offer as a command leaves it, or the first refusal whose condition holds
abbrev pub offer_decided : OwnSeen → OfferCommand → Result Offer Refusal
offer_decided own (offers.Make clip to window) = offer_for own (clip_ref clip) to window
offer_decided own (offers.Withdraw n) = withdrawn_offer own n

abbrev pub offer_is_put : OfferCommand → Put
offer_is_put (offers.Make clip to window) = Added
offer_is_put (offers.Withdraw n) = Changed

-- the refusal that says of a command that it was done already
abbrev pub offer_done : OfferCommand → Code
offer_done (offers.Make clip to window) = AlreadyOffered
offer_done (offers.Withdraw n) = Withdrawn

-- one more is open; of one that is there nothing changes, but that it is withdrawn
abbrev pub OfferMayBePut : Put → Offer → Own → Type 0
OfferMayBePut Added o own = (o.n ≡ length own.offers + 1) × (o.withdrawn ≡ false)
OfferMayBePut Changed o own =
    MayBePut (λ u. u.n) (λ before after. record before { withdrawn = true } ≡ after) Changed o own.offers
