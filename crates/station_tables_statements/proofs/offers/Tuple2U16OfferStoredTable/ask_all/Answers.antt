-- All rows of the table `offer`, by their keys.
use Rattle.station_tables_records.specs.OfferRows.{offer_table, offer_fits}
use Rattle.station_tables_statements.proofs.AskedLemmas.{all_answers}
use Rattle.station_tables_statements.proofs.FirstLemmas.{all_offers}
use Rattle.station_tables_statements.proofs.offers.Tuple2U16OfferStoredTable.ask_all.Goals as goal

pub ask-requires : goal.ask-requires
ask-requires g c = record { reading = all_offers.reads }

pub returns : goal.returns
returns g c =
    let e = c.ask.ensures in
    let all =
    all_answers g.S.Store _ _ (λ v. v.items) offer_table offer_fits all_offers c.ask.result e.reads e.some e.none e.err
    in
    record
    { reads = e.reads; rise = e.rise; rows = all.rows; none = all.none; short = all.short; missing = λ no. absurd no }
