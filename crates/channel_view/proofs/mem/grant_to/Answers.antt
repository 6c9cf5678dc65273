-- `grant_to`: the owner's offer of this number, if it is to the channel.
use Rattle.std.proofs.Common.{◌≡◌, true, ◌∙◌, sym, ap}
use Rattle.std.specs.Prelude.{◌==◌, find}
use Rattle.vault_core.specs.declared.offer.Offer.{Offer}
use Rattle.vault_core.specs.Rules.{is_numbered_from}
use Rattle.channel_view_model.specs.Tables.{rows_alone, rows_of}
use Rattle.channel_view_rules.proofs.BisectLemmas.{rises}
use Rattle.channel_view.proofs.GrantPlaceLemmas.{if_lent, if_lent-is, if_lent-not, lent_found}
use Rattle.channel_view.proofs.mem.grant_to.Goals.{After-row_of}
use Rattle.channel_view.proofs.mem.grant_to.Goals as goal

pub channel_rows-requires : goal.channel_rows-requires
channel_rows-requires c = rises c.args.offers.now c.requires

-- the row at its place is the owner's offer of the number
row_is : (c : After-row_of) → is_numbered_from (λ (o : Offer). o.n) 1 (rows_of c.args.owner c.args.offers.now) ≡ true
    → c.row_of.result ≡ find (λ o. o.n == c.args.number) (rows_of c.args.owner c.args.offers.now)
row_is c numbered =
    let rows = ap rows_alone c.channel_rows.ensures in
    c.row_of.ensures (λ o. o.n) (ap (is_numbered_from (λ (o : Offer). o.n) 1) rows ∙ numbered)
    ∙ ap (λ os. find (λ o. o.n == c.from.result) os) rows
    ∙ ap (λ n. find (λ o. o.n == n) (rows_of c.args.owner c.args.offers.now)) c.from.ensures

pub returns-in_err-offer : goal.returns-in_err-offer
returns-in_err-offer c = λ numbered.
    c.from_residual.ensures
    ∙ ap (if_lent c.args.channel c.args.owner)
    (sym c.in_err-offer.was ∙ row_is ((goal.at.returns-in_err-offer c).After-row_of) numbered)
    ∙ lent_found c.args.channel c.args.owner c.args.number c.args.offers.now numbered

pub returns-then-offer-channel : goal.returns-then-offer-channel
returns-then-offer-channel c = λ numbered.
    if_lent-is c.args.channel c.args.owner c.in_ok-offer.offer c.if-offer-channel.true
    ∙ ap (if_lent c.args.channel c.args.owner)
    (sym c.in_ok-offer.was ∙ row_is ((goal.at.returns-then-offer-channel c).After-row_of) numbered)
    ∙ lent_found c.args.channel c.args.owner c.args.number c.args.offers.now numbered

pub returns-else-offer-channel : goal.returns-else-offer-channel
returns-else-offer-channel c = λ numbered.
    if_lent-not c.args.channel c.args.owner c.in_ok-offer.offer c.if-offer-channel.false
    ∙ ap (if_lent c.args.channel c.args.owner)
    (sym c.in_ok-offer.was ∙ row_is ((goal.at.returns-else-offer-channel c).After-row_of) numbered)
    ∙ lent_found c.args.channel c.args.owner c.args.number c.args.offers.now numbered
