-- `OffersFound::offer_for`: the offer that is made, for a window of days or for any, with the next number.
use Rattle.std.proofs.Common.{◌∙◌, ap, sym, subst}
use Rattle.vault_core.specs.Asked.{AreClipAnswers}
use Rattle.grant_core.specs.Offering.{offer_for}
use Rattle.grant_core.specs.Asked.{clips_asked_for_offer, offers_asked_for_offer, AreOfferAnswers}
use Rattle.grant_core.proofs.OfferLemmas.{own_offer_is, no_offer_is, lent_offer_is}
use Rattle.grant_core.proofs.asked_offers.OffersFound.offer_for.Goals as goal

pub returns-in-Lent : goal.returns-in-Lent
returns-in-Lent c = λ own plan_is consistent on_clips on_offers.
    c.refuse.ensures ∙ lent_offer_is own c.args.to c.args.window
    ∙ ap (λ clip. offer_for own clip c.args.to c.args.window) (sym c.in-Lent.is)

pub returns-in-Unknown : goal.returns-in-Unknown
returns-in-Unknown c = λ own plan_is consistent on_clips on_offers.
    c.offer_named.ensures ∙ no_offer_is own c.args.plan.now c.args.to c.args.window c.args.self.now plan_is
    ∙ ap (λ clip. offer_for own clip c.args.to c.args.window) (sym c.in-Unknown.is)

pub returns-in-Own : goal.returns-in-Own
returns-in-Own c = λ own plan_is consistent on_clips on_offers.
    c.offer_named-in-Own.ensures
    ∙ own_offer_is own c.args.plan.now c.in-Own._number c.args.to c.args.window c.args.self.now c.args.clips.now plan_is
    consistent
    (subst (λ clip. AreClipAnswers (clips_asked_for_offer clip) own.clips c.args.clips.now) c.in-Own.is on_clips)
    (subst (λ clip. AreOfferAnswers (offers_asked_for_offer clip c.args.to) own.offers c.args.self.now) c.in-Own.is
    on_offers)
    ∙ ap (λ clip. offer_for own clip c.args.to c.args.window) (sym c.in-Own.is)
