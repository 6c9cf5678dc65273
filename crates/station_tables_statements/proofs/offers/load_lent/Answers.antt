-- `load_lent`: the offers of others to the channel, by owner and number.
use Rattle.std.proofs.Common.{map, refl, ap, ◌∙◌}
use Rattle.std.proofs.lemmas.Result.{IfOk-weaker}
use Rattle.channel_view_model.specs.Seen.{grant_of}
use Rattle.station_tables_statements.proofs.AskedLemmas.{found_part}
use Rattle.station_tables_statements.proofs.OfferLemmas.{shows_lent}
use Rattle.station_tables_records.proofs.OfferTextLemmas.{offer_texts}
use Rattle.station_tables_records.specs.OfferRows.{is_offer_to}
use Rattle.station_tables_statements.proofs.LookLemmas.{look_after}
use Rattle.station_tables_statements.proofs.WindowLemmas.{reads_of, offers_found}
use Rattle.station_tables_statements.proofs.offers.load_lent.Goals as goal

pub find_rows-requires : goal.find_rows-requires
find_rows-requires g c = record { reading = offer_texts.lent.reads }

pub returns-clause-reads : goal.returns-clause-reads
returns-clause-reads g c =
    reads_of g.S.Store _ _ c.in_ok-offers-2.offers c.with_owners.result
    (look_after g.S.Store _ _ _ _ _ c.in_ok-offers.ensures.reads c.in_ok-offers-2.ensures.looks)

pub returns-clause-grants : goal.returns-clause-grants
returns-clause-grants g c centre clean =
    let found = c.in_ok-offers.ensures in
    let made =
    offers_found g.S.Store _ _ _ _ _ found.reads c.in_ok-offers-2.ensures.looks clean centre
    (is_offer_to c.args.channel) (λ _ o. refl) c.deref.result.now c.in_ok-offers-2.offers.items
    (λ between. c.deref.ensures.value
    ∙ found_part g.S.Store _ _ found.reads between (found.rows between) c.of_channel.ensures
    (is_offer_to c.args.channel)
    (λ early held. let is = centre early held in shows_lent _ _ is.schema is.offers c.args.channel))
    (λ there. c.in_ok-offers-2.ensures.offers there clean) in
    IfOk-weaker c.with_owners.result _ _ (λ grants is. is ∙ ap (map grant_of) (c.deref-2.ensures.value ∙ made))
    c.with_owners.ensures
