-- An offer that is made or withdrawn, by the rows and counts that answer what it asks.
use Rattle.std.proofs.Common.{◌≡◌, ℕ, refl, sym, ◌∙◌, ap}
use Rattle.std.specs.Prelude.{is_some, Option, None, Result, Err}
use Rattle.channel_plan.specs.declared.plan.PlanRow.{PlanRow}
use Rattle.channel_plan.specs.declared.refusal.Code.TheVariants.{NoClip, LentClip}
use Rattle.channel_plan.specs.declared.refusal.Refusal.{Refusal}
use Rattle.channel_plan.specs.Refusal.{refused}
use Rattle.vault_core.specs.declared.clip.Clip.{Clip}
use Rattle.vault_core.specs.declared.offer.Offer.{Offer}
use Rattle.vault_core.specs.declared.asked_clips.ClipsFound.{ClipsFound}
use Rattle.vault_core.specs.Window.{Window}
use Rattle.vault_core.specs.Questions.{IsConsistent}
use Rattle.vault_core.specs.Own.{OwnSeen}
use Rattle.vault_core.specs.Asked.{clips_asked_for_retire, AreClipAnswers}
use Rattle.vault_core.specs.Offer.{is_open_to}
use Rattle.grant_core.specs.declared.clip_ref.ClipRef.TheVariants.{Own as OwnClip, Lent, Unknown}
use Rattle.grant_core.specs.declared.asked_offers.OffersFound.{OffersFound}
use Rattle.grant_core.specs.Offering.{offer_of, of_own_clip, grantee_for, to_grantee, offer_for, of_offer, as_withdrawn}
use Rattle.grant_core.specs.Offering.{withdrawn_offer}
use Rattle.grant_core.specs.Asked.{offers_asked_for_offer, offers_asked_for_withdrawal, AreOfferAnswers}

-- an offer that is withdrawn
pub withdrawn_is : (own : OwnSeen) (n : ℕ) (found : OffersFound)
    → AreOfferAnswers (offers_asked_for_withdrawal n) own.offers found
    → of_offer as_withdrawn found.with_number ≡ withdrawn_offer own n
unfolding withdrawn_offer
withdrawn_is own n found answers = ap (of_offer as_withdrawn) answers.with_number

-- what is offered, by what was found
abbrev pub offered_by : PlanRow → OffersFound → Option Clip → ℕ → Option Window → Result Offer Refusal
offered_by plan found clip to w =
    to_grantee (λ g. of_own_clip (offer_of plan g w (is_some found.open_to) found.count) clip) (grantee_for plan to)

pub own_offer_is : (own : OwnSeen) (plan : PlanRow) (n to : ℕ) (w : Option Window) (found : OffersFound)
    (clips : ClipsFound) → own.plan ≡ plan → IsConsistent own.offers
    → AreClipAnswers (clips_asked_for_retire n) own.clips clips
    → AreOfferAnswers (offers_asked_for_offer (OwnClip n) to) own.offers found
    → offered_by plan found clips.with_number to w ≡ offer_for own (OwnClip n) to w
unfolding offer_for
own_offer_is own plan n to w found clips plan_is consistent on_clips on_offers =
    let is_open : is_some found.open_to ≡ own.offers.some (is_open_to n to) =
    ap is_some on_offers.open_to ∙ sym (consistent.some (is_open_to n to)) in
    let count : found.count ≡ own.offers.count = on_offers.count in
    λ i. to_grantee (λ g. of_own_clip (offer_of (sym plan_is i) g w (is_open i) (count i)) (on_clips.with_number i))
    (grantee_for (sym plan_is i) to)

pub no_offer_is : (own : OwnSeen) (plan : PlanRow) (to : ℕ) (w : Option Window) (found : OffersFound) → own.plan ≡ plan
    → offered_by plan found None to w ≡ offer_for own Unknown to w
unfolding offer_for
no_offer_is own plan to w found plan_is = λ i. to_grantee (λ g. Err (refused NoClip)) (grantee_for (sym plan_is i) to)

pub lent_offer_is : (own : OwnSeen) (to : ℕ) (w : Option Window) → Err (refused LentClip) ≡ offer_for own Lent to w
unfolding offer_for
lent_offer_is own to w = refl
