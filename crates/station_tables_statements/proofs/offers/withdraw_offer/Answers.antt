-- `withdraw_offer`: withdraws a channel's offer with this number.
use Rattle.std.proofs.Common.{ℕ, Bool, true, ◌&&◌, List, [], ◌∷◌, refl, subst}
use Rattle.std.specs.Prelude.{◌==◌}
use Rattle.vault_core.specs.declared.offer.Offer.{Offer}
use Rattle.channel_view_model.specs.Tables.{alter_row}
use Rattle.station_tables_records.specs.MadeOffers.{OfferSet}
use Rattle.station_tables_records.specs.TablePairs.{offer_rows_in}
use Rattle.station_tables_records.proofs.InsideLemmas.{Executed, writes_inside, made_inside}
use Rattle.station_tables_records.specs.Values.{of_nat}
use Rattle.station_tables_records.proofs.Texts.{withdraw_offer_text}
use Rattle.station_tables_statements.proofs.OfferLemmas.{withdraws_offer}
use Rattle.station_tables_statements.proofs.SpanLemmas.{of_offers, offers_change}
use Rattle.station_tables_records.proofs.OfferLemmas.{made_changed, owned_changed}
use Rattle.station_tables_records.specs.Inside.{inside}
use Rattle.station_tables_statements.proofs.offers.withdraw_offer.Goals as goal

pub returns : goal.returns
returns g c =
    let old = inside g.S.Store c.args.tx.now in
    let new = inside g.S.Store c.execute.new.self in
    let ch = c.args.channel in
    let n = c.args.offer in
    let rows : OfferSet = offer_rows_in old.now.trees in
    let change : List (ℕ × Offer) → List (ℕ × Offer) =
    alter_row ch (λ o. o.n == n) (λ o. record o { withdrawn = true }) in
    let mine : ℕ × Offer → Bool = λ r. r.0 == ch && r.1.n == n in
    let taken : ℕ × Offer → ℕ × Offer = λ r. (r.0, record r.1 { withdrawn = true }) in
    let call : Executed g.S.Store c.args.tx.now c.execute.new.self withdraw_offer_text (of_nat ch ∷ of_nat n ∷ [])
    c.execute.result =
    subst
    (λ params. Executed g.S.Store c.args.tx.now c.execute.new.self withdraw_offer_text params c.execute.result)
    c.of_number.ensures
    (record {
      same_reference = c.execute.ensures.same_reference;
      ended = c.execute.ensures.ended;
      runs =
          c.execute.ensures.runs;
      survives = c.execute.ensures.survives;
    }) in record {
      writes = writes_inside _ _ _ _ _ call;
      makes = λ centre clean. made_inside _ _ _ _ _ call clean (λ early held count ran.
          offers_change (λ r. record r { offers = change r.offers }) change old new (centre early held)
          (of_offers change old new (centre early held).spans
          (withdraws_offer old new (centre early held).schema (centre early held).offers ch n count ran))
          (made_changed rows.spans mine taken (λ o. refl) (λ o. refl) rows.offers)
          (owned_changed mine taken (λ o. refl) (λ o. refl) rows));
    }
