-- `with_windows`: these offers, each with its channel, with their windows, each found by a text of its own.
use Rattle.std.proofs.Common.{◌≡◌, ◌+◌, suc, [], ◌∷◌, ◌++◌, map, take, sym, ap, ap₂, ◌∙◌, arith, ℕ}
use Rattle.std.proofs.lemmas.List.{take_all}
use Rattle.sqlite.specs.State.{HasCleanDisk}
use Rattle.vault_core.specs.declared.offer.Offer.{Offer}
use Rattle.station_tables_records.specs.Inside.{inside}
use Rattle.station_tables_records.specs.TablePairs.{offer_rows_in}
use Rattle.station_tables_records.specs.MadeOffers.{OfferSet, offer_made, window_at}
use Rattle.station_tables_statements.proofs.LookLemmas.{looks_on, read_after, centre_looked}
use Rattle.station_tables_statements.proofs.WindowLemmas.{looked_offers, made_one}
use Rattle.station_tables_statements.proofs.spans.with_windows.Goals as goal

pub loop-row-preserved : goal.loop-row-preserved
loop-row-preserved g c = record {
  looks =
      looks_on g.S.Store _ _ _ _
      (read_after g.S.Store _ _ _ _ _ c.loop-row.invariant.looks c.in_ok-window.ensures.reads);
  made = λ centre clean.
      let first = c.args.tx.now in
      let here = c.loop-row.tx in
      let i = c.loop-row.row-index in
      let offers = c.args.offers.now in
      let x : ℕ × Offer = c.row-item.result in
      let clean_here : HasCleanDisk (inside g.S.Store here) =
      omega (arith, c.in_ok-window.ensures.reads.survives.clean, clean) in
      let clean_first : HasCleanDisk (inside g.S.Store first) =
      omega (arith, c.loop-row.invariant.looks.survives.clean, clean_here) in
      let same = c.loop-row.invariant.looks.same clean_here in
      let rows : OfferSet = offer_rows_in (inside g.S.Store first).now.trees in
      let so_far = c.loop-row.invariant.made centre clean_here in
      let window : c.in_ok-window.window ≡ window_at x.0 x.1.n rows.spans =
      c.in_ok-window.ensures.window (centre_looked g.S.Store first here same clean_first centre) clean
      ∙ ap (λ (r : OfferSet). window_at x.0 x.1.n r.spans) (looked_offers g.S.Store first here same) in
      let one : (x.0, c.with_window.result) ≡ offer_made rows.spans x =
      ap (λ o. (x.0, o)) (c.with_window.ensures ∙ ap (λ w. record x.1 { window = w }) window) in
      let longer : suc i ≡ i + 1 = omega arith in
      c.in_ok-push.ensures.items
      ∙ ap₂ (λ l o. l ++ o ∷ []) so_far (one ∙ ap (offer_made rows.spans) c.row-item.is)
      ∙ sym (made_one (offer_made rows.spans) offers i x c.loop-row-test.true)
      ∙ ap (λ n. map (offer_made rows.spans) (take n offers)) longer;
}

pub returns-clause-offers : goal.returns-clause-offers
returns-clause-offers g c centre clean =
    c.loop-row.invariant.made centre clean
    ∙ ap (map (offer_made (offer_rows_in (inside g.S.Store c.args.tx.now).now.trees).spans))
    (take_all c.loop-row.row-index c.args.offers.now (omega (arith, c.loop-row-test.false)))
