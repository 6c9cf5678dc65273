-- `open_offer`: the channel's open offer of a clip to a grantee, where one is asked for.
use Rattle.std.proofs.Common.{refl, sym, ap, ◌∙◌}
use Rattle.std.specs.Option.{option_and_then}
use Rattle.vault_core.specs.Offer.{is_open_to}
use Rattle.channel_view_model.specs.Tables.{of_channel}
use Rattle.station_tables_statements.proofs.AskedLemmas.{found_part}
use Rattle.station_tables_statements.proofs.OfferLemmas.{shows_open_offer}
use Rattle.station_tables_records.proofs.OfferTextLemmas.{offer_texts}
use Rattle.station_tables_records.specs.OfferRows.{is_offer_open}
use Rattle.station_tables_statements.specs.Rows.{offers_in}
use Rattle.station_tables_records.specs.Inside.{inside}
use Rattle.station_tables_statements.specs.Calls.{set_in}
use Rattle.station_tables_statements.proofs.FoundLemmas.{first_alone_is}
use Rattle.station_tables_statements.proofs.WindowLemmas.{offers_found}
use Rattle.station_tables_statements.proofs.offers.open_offer.Goals as goal

pub find_rows-requires : goal.find_rows-requires
find_rows-requires g c = record { reading = offer_texts.open_to.reads }

pub returns-clause-offer : goal.returns-clause-offer
returns-clause-offer g c centre clean =
    let found = c.in_ok-offers.ensures in
    let made =
    offers_found g.S.Store _ _ _ _ _ found.reads c.in_ok-offers-2.ensures.looks clean centre
    (is_offer_open c.args.channel c.in-Some.it.clip c.in-Some.it.grantee) (λ _ o. refl) c.deref.result.now
    c.in_ok-offers-2.offers.items
    (λ between. c.deref.ensures.value
    ∙ found_part g.S.Store _ _ found.reads between (found.rows between) c.of_grant.ensures
    (is_offer_open c.args.channel c.in-Some.it.clip c.in-Some.it.grantee)
    (λ early held. let is = centre early held in
    shows_open_offer _ _ is.schema is.offers c.args.channel c.in-Some.it.clip c.in-Some.it.grantee))
    (λ there. c.in_ok-offers-2.ensures.offers there clean) in
    first_alone_is (is_offer_open c.args.channel c.in-Some.it.clip c.in-Some.it.grantee)
    (offers_in (inside g.S.Store c.args.tx.now).now.trees) c.deref-2.result.now c.first_alone.result
    c.first_alone.ensures (c.deref-2.ensures.value ∙ made)
    ∙ sym
    (ap
    (option_and_then
    (λ it. (of_channel c.args.channel (set_in (inside g.S.Store c.args.tx.now)).offers).first
    (is_open_to it.clip it.grantee))) c.in-Some.is)
