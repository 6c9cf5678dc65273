-- `OffersFound::withdrawn`: the offer that a request withdraws, as it stands then, or the first refusal in this order.
use Rattle.std.proofs.Common.{◌∙◌, ap, sym}
use Rattle.grant_core.specs.Offering.{of_offer, as_withdrawn}
use Rattle.grant_core.proofs.OfferLemmas.{withdrawn_is}
use Rattle.grant_core.proofs.asked_offers.OffersFound.withdrawn.Goals as goal

pub returns-in-Some : goal.returns-in-Some
returns-in-Some c =
    λ own n answers. c.withdrawn.ensures ∙ ap (of_offer as_withdrawn) (sym c.in-Some.is)
    ∙ withdrawn_is own n c.args.self.now answers

pub returns-in-None : goal.returns-in-None
returns-in-None c =
    λ own n answers. c.refuse.ensures ∙ ap (of_offer as_withdrawn) (sym c.in-None.is)
    ∙ withdrawn_is own n c.args.self.now answers
