-- What each statement on windows does to their table, and what those on offers and windows do to the centre.
use Rattle.std.proofs.Common.{◌≡◌, ℕ, true, List, [], ◌∷◌, Ok, refl, sym, ap, ◌∙◌, subst, arith}
use Rattle.std.specs.List.{list_all}
use Rattle.sqlite_value.specs.Order.{Row}
use Rattle.sqlite_keyed.specs.Lists.{insert_sorted}
use Rattle.sqlite_keyed.proofs.ListLemmas.{all_weaker}
use Rattle.sqlite.specs.State.{State, Shown, ExecutesInside}
use Rattle.vault_core.specs.Window.{is_window}
use Rattle.vault_core.specs.declared.offer.Offer.{Offer}
use Rattle.station_tables_records.specs.Table.{IsTypedIn, rows_in, ChangesTable, ShowsTable, ShowsPart}
use Rattle.station_tables_records.proofs.TableLemmas.{inserts_row}
use Rattle.station_tables_records.proofs.SelectLemmas.{shows_part, shows_table}
use Rattle.station_tables_records.specs.Schema.{centre_schema, offer, span}
use Rattle.station_tables_records.proofs.Texts.{spans_text, span_of_text, insert_span_text}
use Rattle.station_tables_records.proofs.SpanTextLemmas.{span_texts}
use Rattle.station_tables_records.specs.Values.{of_nat}
use Rattle.station_tables_records.specs.declared.offer_rows.SpanRow.{SpanRow}
use Rattle.station_tables_records.specs.MadeOffers.{OfferSet, span_cmp, is_span, offers_made, has_offer, LacksSpan}
use Rattle.station_tables_records.specs.OfferRows.{offer_table}
use Rattle.station_tables_records.specs.SpanRows.{span_row, span_table}
use Rattle.station_tables_records.specs.TwoTables.{ChangesBoth}
use Rattle.station_tables_records.specs.TablePairs.{offer_rows_in, offer_tables, on_offer_rows, on_spans}
use Rattle.station_tables_records.proofs.TwoTableLemmas.{first_changed, second_changed}
use Rattle.station_tables_records.proofs.SpanRowLemmas.{span_table_is, span_rows, span_is, span_again, is_span_row}
use Rattle.station_tables_records.proofs.SpanRowLemmas.{span_ties, cast_new_span}
use Rattle.station_tables_statements.specs.Rows.{offers_in, rows_of_tables, OwnsSpans, IsCentre, Changes, on_offers}
use Rattle.station_tables_statements.proofs.AgreeLemmas.{changed_in}

module _ (old new : State) (has : old.now.schema ≡ centre_schema) where
  -- ---- SELECT

  pub shows_spans : (rows : List Row) → Shown spans_text [] old new rows → ShowsTable span_table rows old.now.trees
  shows_spans rows = shows_table span_table span_table_is span_rows.shows old new has [] span_texts.whole.selects rows

  module _ (typed : IsTypedIn span_table old.now.trees) where
    pub shows_span_of : (c n : ℕ) (rows : List Row) → Shown span_of_text (of_nat c ∷ of_nat n ∷ []) old new rows
        → ShowsPart span_table (is_span c n) rows old.now.trees
    shows_span_of c n rows shown =
        shows_part span_table span_table_is span_rows.shows old new has (of_nat c ∷ of_nat n ∷ []) span_texts.one
        (is_span c n) (span_is c n) rows typed shown

    -- ---- INSERT

    pub puts_span : (t : ℕ × SpanRow) (count : ℕ) → is_window t.1.window.first t.1.window.last ≡ true
        → LacksSpan t.0 t.1.offer (rows_in span_table old.now.trees)
        → ExecutesInside 0 insert_span_text (span_row t) old new (Ok count)
        → ChangesTable span_table (insert_sorted span_cmp t) old new
    puts_span t count window fresh ran =
        inserts_row span_table span_table_is old new has (span_row t) span_texts.insert t
        (ap (λ row. row ∷ []) (cast_new_span t)) (λ id. span_again id t) (λ id. is_span_row id t window) count typed
        (all_weaker _ _ (λ u h. span_ties t u ∙ h) (rows_in span_table old.now.trees) fresh) ran

-- ---- a change of one of both tables

pub of_offers : (f : List (ℕ × Offer) → List (ℕ × Offer)) (old new : State) → IsTypedIn span_table old.now.trees
    → ChangesTable offer_table f old new → ChangesBoth offer_tables (on_offer_rows f) old new
of_offers f old new spans c =
    first_changed old new f (on_offer_rows f) (λ offers spans. refl)
    (c.others.1.1.1.1.1.1.1.1.1.0 (λ e. omega (arith, e))) spans c

pub of_spans : (f : List (ℕ × SpanRow) → List (ℕ × SpanRow)) (old new : State) → IsTypedIn offer_table old.now.trees
    → ChangesTable span_table f old new → ChangesBoth offer_tables (on_spans f) old new
of_spans f old new offers c =
    second_changed old new f (on_spans f) (λ offers spans. refl) refl (c.others.1.1.1.1.0 (λ e. omega (arith, e)))
    offers c

-- a change of the rows of offers and windows is a change of the set
pub offers_change : (change : OfferSet → OfferSet) (f : List (ℕ × Offer) → List (ℕ × Offer)) (old new : State)
    → IsCentre old.now → ChangesBoth offer_tables change old new
    → offers_made (change (offer_rows_in old.now.trees)) ≡ f (offers_in old.now.trees)
    → (OwnsSpans old.now.trees
    → list_all (has_offer (change (offer_rows_in old.now.trees)).offers) (change (offer_rows_in old.now.trees)).spans
    ≡ true) → Changes (on_offers f) old new
offers_change change f old new was made law keeps =
    changed_in (offer.tree ∷ span.tree ∷ []) old new (on_offers f) made.tables.schema made.others
    (record {
      schema = refl;
      office = was.office;
      channels = was.channels;
      tapes = was.tapes;
      clips = was.clips;
      offers =
          made.tables.first;
      days = was.days;
      items = was.items;
      batches = was.batches;
      lines = was.lines;
      spans =
          made.tables.second;
    })
    (λ i. record (rows_of_tables old.now.trees) { offers = (ap offers_made made.rows_are ∙ law) i })
    (λ owned. (
      owned.0,
      owned.1,
      subst (λ (rows : OfferSet). list_all (has_offer rows.offers) rows.spans ≡ true)
          (sym made.rows_are) (keeps owned.2),
    )) made.sound made.shown
