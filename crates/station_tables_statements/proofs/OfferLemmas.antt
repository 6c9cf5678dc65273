-- What each statement on offers does to their table.
use Rattle.std.proofs.Common.{◌≡◌, ℕ, List, [], ◌∷◌, Ok, refl, sym, ap, ◌∙◌}
use Rattle.std.specs.Prelude.{◌==◌, true}
use Rattle.sqlite_value.specs.declared.value.Value.TheVariants.{Int}
use Rattle.sqlite_value.specs.Order.{Row}
use Rattle.sqlite_trees.specs.Tree.{rowid}
use Rattle.sqlite_rules.specs.declared.error.Rowids.TheVariants.{Given}
use Rattle.sqlite_rules.specs.Edit.{numbered, id_in}
use Rattle.sqlite_keyed.specs.Lists.{insert_sorted}
use Rattle.sqlite_keyed.proofs.ListLemmas.{all_weaker}
use Rattle.sqlite.specs.State.{State, Shown, ExecutesInside}
use Rattle.channel_view_model.specs.Tables.{alter_row}
use Rattle.vault_core.specs.declared.offer.Offer.{Offer}
use Rattle.station_tables_records.specs.Table.{IsTypedIn, rows_in, ChangesTable, ShowsPart}
use Rattle.station_tables_records.proofs.TableLemmas.{inserts_row, updates}
use Rattle.station_tables_records.proofs.SelectLemmas.{shows_part}
use Rattle.station_tables_records.specs.Schema.{centre_schema}
use Rattle.station_tables_records.proofs.Texts.{are_both_at, open_offer_text, lent_text, insert_offer_text}
use Rattle.station_tables_records.proofs.Texts.{withdraw_offer_text, withdrawn_offer}
use Rattle.station_tables_records.specs.Values.{of_nat}
use Rattle.station_tables_records.specs.Numbered.{is_row}
use Rattle.station_tables_records.specs.OfferRows.{offer_row, offer_cmp, offer_of, offer_table, is_offer_open}
use Rattle.station_tables_records.specs.OfferRows.{is_offer_to, LacksOffer}
use Rattle.station_tables_records.proofs.OfferTextLemmas.{offer_texts}
use Rattle.station_tables_records.specs.MadeOffers.{without_window}
use Rattle.station_tables_records.proofs.NumberedLemmas.{row_ties, same_row, key_stays, one_is}
use Rattle.station_tables_records.proofs.OfferRowLemmas.{offer_table_is, offer_rows, offer_is_open, offer_is_to}
use Rattle.station_tables_records.proofs.OfferRowLemmas.{offer_again, is_offer_row, cast_new_offer, withdrawn_one}
use Rattle.station_tables_records.proofs.OfferRowLemmas.{cast_withdrawn_offer}

module _ (old new : State) (has : old.now.schema ≡ centre_schema) where
  module _ (typed : IsTypedIn offer_table old.now.trees) where
    -- ---- SELECT of one channel

    pub shows_open_offer : (c clip grantee : ℕ) (rows : List Row)
        → Shown open_offer_text (of_nat c ∷ of_nat clip ∷ of_nat grantee ∷ []) old new rows
        → ShowsPart offer_table (is_offer_open c clip grantee) rows old.now.trees
    shows_open_offer c clip grantee rows shown =
        shows_part offer_table offer_table_is offer_rows.shows old new has
        (of_nat c ∷ of_nat clip ∷ of_nat grantee ∷ []) offer_texts.open_to (is_offer_open c clip grantee)
        (offer_is_open c clip grantee) rows typed shown

    -- of all channels, to one
    pub shows_lent : (grantee : ℕ) (rows : List Row) → Shown lent_text (of_nat grantee ∷ []) old new rows
        → ShowsPart offer_table (is_offer_to grantee) rows old.now.trees
    shows_lent grantee rows shown =
        shows_part offer_table offer_table_is offer_rows.shows old new has (of_nat grantee ∷ []) offer_texts.lent
        (is_offer_to grantee) (offer_is_to grantee) rows typed shown

    -- ---- INSERT

    pub puts_offer : (t : ℕ × Offer) (count : ℕ) → LacksOffer t.0 t.1.n (rows_in offer_table old.now.trees)
        → ExecutesInside 0 insert_offer_text (offer_row t) old new (Ok count)
        → ChangesTable offer_table (insert_sorted offer_cmp (t.0, without_window t.1)) old new
    puts_offer t count fresh ran =
        inserts_row offer_table offer_table_is old new has (offer_row t) offer_texts.insert (t.0, without_window t.1)
        (ap (λ row. row ∷ []) (cast_new_offer t)) (λ id. offer_again id t) (λ id. is_offer_row id t) count typed
        (all_weaker _ _ (λ u h. row_ties (λ (t : Offer). t.n) t u ∙ h) (rows_in offer_table old.now.trees) fresh) ran

    -- ---- UPDATE by key

    pub withdraws_offer : (c n count : ℕ)
        → ExecutesInside 0 withdraw_offer_text (of_nat c ∷ of_nat n ∷ []) old new (Ok count)
        → ChangesTable offer_table (alter_row c (λ k. k.n == n) (λ k. record k { withdrawn = true })) old new
    withdraws_offer c n count ran =
        let made : Row → Row = λ r. Int (id_in (rowid r)) ∷ offer_row (withdrawn_one (offer_of r)) in
        updates offer_table offer_table_is old new has withdraw_offer_text (of_nat c ∷ of_nat n ∷ [])
        offer_texts.withdraw.plain (are_both_at 1 2) withdrawn_offer (is_row (λ (t : Offer). t.n) c n)
        (one_is offer_rows c n []) (same_row (λ (t : Offer). t.n) c n)
        withdrawn_one made offer_texts.withdraw.is
        (key_stays (λ (t : Offer). t.n) (is_row (λ (t : Offer). t.n) c n) (λ t. record t { withdrawn = true })
        (λ t. refl)) (λ found is. refl)
        (λ rows found is. ap (λ row. numbered Given rows (row ∷ [])) (cast_withdrawn_offer found is))
        (λ found is. (
          sym is.0,
          offer_again (id_in (rowid found)) (withdrawn_one (offer_of found)),
          is_offer_row
              (id_in (rowid found)) (withdrawn_one (offer_of found)),
        )) count typed ran
