-- Part of the promise: which offer a request makes, and which one it withdraws.
use Rattle.std.specs.Prelude.{ℕ, ◌+◌, Bool, true, ◌||◌, ◌==◌, nat_lt, nat_le, Option, Some, None, Result, Ok, Err}
use Rattle.std.specs.Prelude.{if◌then◌else◌}
use Rattle.channel_plan.specs.declared.plan.PlanRow.{PlanRow}
use Rattle.channel_plan.specs.declared.refusal.Code.{Code}
use Rattle.channel_plan.specs.declared.refusal.Code.TheVariants.{NoClip, ClipRetired, LentClip, ToSelf, BadChannel}
use Rattle.channel_plan.specs.declared.refusal.Code.TheVariants.{AlreadyOffered, NoOffer, Withdrawn, OffersFull}
use Rattle.channel_plan.specs.declared.refusal.Refusal.{Refusal}
use Rattle.channel_plan.specs.Refusal.{refused}
use Rattle.channel_plan.specs.Limits.{last_channel}
use Rattle.vault_core.specs.Limits.{most_offers}
use Rattle.vault_core.specs.declared.clip.Clip.{Clip}
use Rattle.vault_core.specs.declared.offer.Offer.{Offer}
use Rattle.vault_core.specs.Own.{Own, OwnSeen, with_withdrawn}
use Rattle.vault_core.specs.Window.{Window}
use Rattle.vault_core.specs.Offer.{granted_copy, is_open_to}
use Rattle.grant_core.specs.declared.clip_ref.ClipRef.{ClipRef}
use Rattle.grant_core.specs.declared.clip_ref.ClipRef.TheVariants.{Own as OwnClip, Lent, Unknown}

-- the offer of a clip that is there, for a window of days or for any; the channel has `count` offers, and `is_open`
-- says whether one of this clip to this grantee is open
abbrev pub offer_of : PlanRow → ℕ → Option Window → Bool → ℕ → Clip → Result Offer Refusal
offer_of plan to window is_open count k =
    if k.retired then Err (refused ClipRetired) else
    if is_open then Err (refused AlreadyOffered) else
    if nat_le most_offers count then Err (refused OffersFull) else
    Ok (granted_copy plan (count + 1) to window k)

abbrev pub of_own_clip : (Clip → Result Offer Refusal) → Option Clip → Result Offer Refusal
of_own_clip then_clip None = Err (refused NoClip)
of_own_clip then_clip (Some k) = then_clip k

-- the grantee: a channel number that isn't the channel's own; nobody looks whether it is in the plan
abbrev pub grantee_for : PlanRow → ℕ → Result ℕ Code
grantee_for plan to =
    if to == 0 || nat_lt last_channel to then Err BadChannel else
    if to == plan.ch then Err ToSelf else
    Ok to

abbrev pub to_grantee : (ℕ → Result Offer Refusal) → Result ℕ Code → Result Offer Refusal
to_grantee offered (Ok to) = offered to
to_grantee offered (Err code) = Err (refused code)

-- the offer that is made, or the first refusal whose condition holds: a lent clip isn't lent on, whatever it names; no
-- test looks at the window
unfoldable pub offer_for : OwnSeen → ClipRef → ℕ → Option Window → Result Offer Refusal
offer_for own Lent to window = Err (refused LentClip)
offer_for own Unknown to window = to_grantee (λ g. Err (refused NoClip)) (grantee_for own.plan to)
offer_for own (OwnClip n) to window =
    to_grantee (λ g. of_own_clip (offer_of own.plan g window (own.offers.some (is_open_to n to)) own.offers.count)
    (own.clips.first (λ k. k.n == n))) (grantee_for own.plan to)

-- an offer that is withdrawn
abbrev pub as_withdrawn : Offer → Result Offer Refusal
as_withdrawn o = if o.withdrawn then Err (refused Withdrawn) else Ok (record o { withdrawn = true })

abbrev pub of_offer : (Offer → Result Offer Refusal) → Option Offer → Result Offer Refusal
of_offer then_offer None = Err (refused NoOffer)
of_offer then_offer (Some o) = then_offer o

-- the offer of this number as it stands once it is withdrawn, or the first refusal whose condition holds; nobody looks
-- whether the grantee uses it
unfoldable pub withdrawn_offer : OwnSeen → ℕ → Result Offer Refusal
withdrawn_offer own n = of_offer as_withdrawn (own.offers.first (λ o. o.n == n))

-- what a call answers that withdraws an offer: its number
abbrev pub number_of_offer : Result Offer Refusal → Result ℕ Refusal
number_of_offer (Ok o) = Ok o.n
number_of_offer (Err e) = Err e

-- with the offer withdrawn that a call withdraws; a refusal withdraws none
abbrev pub with_taken_back : Result Offer Refusal → Own → Own
with_taken_back (Ok o) own = with_withdrawn o.n own
with_taken_back (Err e) own = own
