-- `insert_offer`: adds an offer of this channel, 1 to 999, whose number is new in it, and its window where it has one.
use Rattle.std.proofs.Common.{sym, subst, arith}
use Rattle.sqlite.specs.State.{HasCleanDisk}
use Rattle.station_tables_records.specs.Inside.{inside}
use Rattle.station_tables_records.specs.MadeOffers.{OfferSet, LacksSpan, without_window, with_span}
use Rattle.sqlite_keyed.specs.Lists.{insert_sorted}
use Rattle.station_tables_records.specs.OfferRows.{offer_cmp}
use Rattle.station_tables_records.specs.TwoTables.{HasBothNow, IsAtBoth}
use Rattle.station_tables_records.specs.TablePairs.{offer_rows_in, offer_tables}
use Rattle.station_tables_statements.proofs.SpanLemmas.{of_offers, offers_change}
use Rattle.station_tables_records.proofs.TwoTableLemmas.{both_then}
use Rattle.station_tables_records.proofs.OfferLemmas.{add_offer, offer_added, owned_added, lacks_span}
use Rattle.station_tables_statements.specs.Calls.{LacksSpanNow}
use Rattle.station_tables_statements.proofs.StandLemmas.{on_ok_so}
use Rattle.station_tables_statements.proofs.offers.insert_offer.Goals as goal

pub returns-clause-makes : goal.returns-clause-makes
returns-clause-makes g c lacks owned centre clean =
    let old = inside g.S.Store c.args.tx.now in
    let mid = inside g.S.Store c.insert_row.new.tx in
    let new = inside g.S.Store c.insert_window.new.tx in
    let ch = c.args.channel in
    let o = c.args.offer.now in
    let rows : OfferSet = offer_rows_in old.now.trees in
    let clean_mid : HasCleanDisk mid = omega (arith, c.insert_window.ensures.writes.survives.clean, clean) in
    let early : HasCleanDisk old = omega (arith, c.insert_row.ensures.writes.survives.clean, clean_mid) in
    let has : HasBothNow offer_tables old =
    λ first opened. record {
      schema = (centre first opened).schema;
      first = (centre first opened).offers;
      second =
          (centre first opened).spans;
    } in
    let one = c.in_ok-insert_row.ensures.makes lacks has clean_mid in
    let opened = one.shown.was_open in
    let was = centre early opened in
    let none = lacks early opened in
    let its = (owned early opened).2 in
    let put = of_offers (insert_sorted offer_cmp (ch, without_window o)) old mid was.spans one in
    let at : IsAtBoth offer_tables mid =
    record { is_open = one.shown.is_open; mode = one.shown.mode; tables = put.tables } in
    let no_window : LacksSpanNow ch o.n mid =
    λ first held. subst (λ (r : OfferSet). LacksSpan ch o.n r.spans) (sym put.rows_are)
    (lacks_span ch o.n rows none its) in
    on_ok_so c.insert_window.result (c.insert_window.ensures.makes no_window at clean)
    (λ two. offers_change (add_offer ch o) (insert_sorted offer_cmp (ch, o)) old new was
    (both_then (λ r. record r { offers = insert_sorted offer_cmp (ch, without_window o) r.offers })
    (λ r. record r { spans = with_span ch o.n o.window r.spans }) old mid new put two)
    (offer_added ch o rows none its) (λ still. owned_added ch o rows none its))
