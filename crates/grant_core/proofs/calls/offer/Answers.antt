-- `offer`: makes the offer of `offer_for` and gives its number.
use Rattle.std.proofs.Common.{◌∙◌, sym}
use Rattle.grant_core.proofs.RuleLemmas.{own-offer}
use Rattle.grant_core.proofs.calls.offer.Goals as goal

pub push_offer-requires : goal.push_offer-requires
push_offer-requires c =
    own-offer c.args.own.now c.args.clip c.args.to c.args.window c.in_ok-offer.offer
    (sym c.offer_for.ensures ∙ c.in_ok-offer.was) c.keep_the_rules.ensures
