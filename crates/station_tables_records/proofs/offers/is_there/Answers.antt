-- `is_there`: whether the offer of a window is there.
use Rattle.std.proofs.Common.{◌∙◌, rules}
use Rattle.std.proofs.lemmas.Fn.{always_returns_same}
use Rattle.station_tables_records.proofs.OfferBisectLemmas.{searched_offer}
use Rattle.station_tables_records.proofs.offers.is_there.Goals as goal

pub returns : goal.returns
returns c =
    let s = c.args.row.now in
    c.is_ok.ensures.value
    ∙ searched_offer s.0 s.1.offer c.args.offers.now c.binary_search_by_key.result c.requires
    c.binary_search_by_key.ensures.bound
    (c.binary_search_by_key.ensures.position (λ o. (o.0, o.1.n))
    (always_returns_same _ _ _ (λ a r f called. search rules)))
