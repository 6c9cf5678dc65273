-- `offer_for`: the offer of a clip to the channel `to`, for a window of its days or for any, with the next number.
use Rattle.std.proofs.Common.{subst, sym}
use Rattle.vault_core.specs.Own.{own_seen}
use Rattle.vault_core.specs.Questions.{listed}
use Rattle.vault_core.specs.Asked.{AreClipAnswers}
use Rattle.vault_core.proofs.ReadingLemmas.{listed_is_consistent}
use Rattle.grant_core.specs.Asked.{AreOfferAnswers}
use Rattle.grant_core.proofs.calls.offer_for.Goals as goal

pub returns : goal.returns
returns c =
    let own = c.args.own.now in
    c.offer_for.ensures (own_seen own) (sym c.plan.ensures) (listed_is_consistent own.offers)
    (subst (λ asked. AreClipAnswers asked (listed own.clips) c.clips_found-clips.result) c.clips_asked_for_offer.ensures
    c.clips_found-clips.ensures)
    (subst (λ asked. AreOfferAnswers asked (listed own.offers) c.offers_found-offers.result) c.for_offer.ensures
    c.offers_found-offers.ensures)
