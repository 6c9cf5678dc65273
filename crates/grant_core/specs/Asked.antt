-- What an offer and a withdrawal ask of their channel's clips and offers, and the rows and counts that answer it.
use Rattle.std.specs.Prelude.{◌≡◌, ℕ, true, false, Some, None, ◌==◌, if◌then◌else◌}
use Rattle.std.specs.Option.{option_and_then}
use Rattle.vault_core.specs.declared.offer.Offer.{Offer}
use Rattle.vault_core.specs.declared.asked_clips.ClipsAsked.{ClipsAsked}
use Rattle.vault_core.specs.Questions.{Questions}
use Rattle.vault_core.specs.Asked.{no_clips_asked, clips_asked_for_retire}
use Rattle.vault_core.specs.Offer.{is_open_to}
use Rattle.grant_core.specs.declared.clip_ref.ClipRef.{ClipRef}
use Rattle.grant_core.specs.declared.clip_ref.ClipRef.TheVariants.{Own as OwnClip, Lent, Unknown}
use Rattle.grant_core.specs.ClipRef.{clip_ref}
use Rattle.grant_core.specs.declared.command.OfferCommand.{OfferCommand}
use Rattle.grant_core.specs.declared.command.OfferCommand.TheVariants as offers
use Rattle.grant_core.specs.declared.asked_offers.OffersAsked.{OffersAsked}
use Rattle.grant_core.specs.declared.asked_offers.OffersFound.{OffersFound}

abbrev pub no_offers_asked : OffersAsked
no_offers_asked = record { count = false; number = None; open_to = None }

-- Of a new offer: how many there are, and which one of the clip to this grantee is open. Of a clip that isn't named by
-- an own reel nothing is asked.
abbrev pub offers_asked_for_offer : ClipRef → ℕ → OffersAsked
offers_asked_for_offer (OwnClip n) to =
    record { count = true; number = None; open_to = Some (record { clip = n; grantee = to }) }
offers_asked_for_offer Lent to = no_offers_asked
offers_asked_for_offer Unknown to = no_offers_asked

-- Of the clips, for a new offer: which one has its number.
abbrev pub clips_asked_for_offer : ClipRef → ClipsAsked
clips_asked_for_offer (OwnClip n) = clips_asked_for_retire n
clips_asked_for_offer Lent = no_clips_asked
clips_asked_for_offer Unknown = no_clips_asked

-- Of an offer to withdraw: which one has its number.
abbrev pub offers_asked_for_withdrawal : ℕ → OffersAsked
offers_asked_for_withdrawal n = record no_offers_asked { number = Some n }

-- What is asked is answered as the reading has it. What isn't asked is none.
pub record AreOfferAnswers (asked : OffersAsked) (offers : Questions Offer) (found : OffersFound) : Type 0 where
  pub count : found.count ≡ (if asked.count then offers.count else 0)
  pub with_number : found.with_number ≡ option_and_then (λ n. offers.first (λ o. o.n == n)) asked.number
  pub open_to : found.open_to ≡ option_and_then (λ it. offers.first (is_open_to it.clip it.grantee)) asked.open_to

-- What each command asks.
abbrev pub clips_asked_for_offers : OfferCommand → ClipsAsked
clips_asked_for_offers (offers.Make clip to window) = clips_asked_for_offer (clip_ref clip)
clips_asked_for_offers (offers.Withdraw n) = no_clips_asked

abbrev pub offers_asked : OfferCommand → OffersAsked
offers_asked (offers.Make clip to window) = offers_asked_for_offer (clip_ref clip) to
offers_asked (offers.Withdraw n) = offers_asked_for_withdrawal n
