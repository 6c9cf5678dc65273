-- A set of version 1 in the tables of version 2.
use Rattle.std.proofs.Common.{◌≡◌, List, [], ◌∷◌, map, refl, sym, ◌∙◌, subst}
use Rattle.std.specs.Prelude.{None}
use Rattle.std.specs.List.{AllByRecursion}
use Rattle.sqlite_keyed.specs.Lists.{sort_by}
use Rattle.sqlite_keyed.proofs.ListLemmas.{all_both, all-append}
use Rattle.sqlite_keyed.proofs.SortLemmas.{IsPermutation-sort_by}
use Rattle.std.proofs.lemmas.List.Sorted.{IsPermutation-sym}
use Rattle.sqlite_value.specs.Order.{Row}
use Rattle.sqlite_trees.specs.Tree.{Trees}
use Rattle.sqlite.specs.State.{State}
use Rattle.channel_view_model.specs.Centre.{Centre}
use Rattle.station_tables_records.specs.Content.{content}
use Rattle.station_tables_records.specs.Table.{rows_in}
use Rattle.station_tables_records.proofs.WriteLemmas.{all_permutes}
use Rattle.station_tables_records.specs.Schema.{first_tables, centre_schema, span}
use Rattle.station_tables_records.specs.OfferRows.{offer_of, offer_cmp, offer_table}
use Rattle.station_tables_records.proofs.OfferLemmas.{none_made, offer_total}
use Rattle.station_tables_statements.specs.Rows.{HoldsSet, IsCentre}
use Rattle.station_tables_statements.proofs.AgreeLemmas.{Agree, Beside, with_trees, agrees_beside, rows_agree}
use Rattle.station_tables_statements.proofs.AgreeLemmas.{owned_agrees}
use Rattle.station_tables_statements.proofs.AgreeLemmas.{centre_agrees}
use Rattle.station_tables_statements.specs.First.{HoldsFirstSet, rows_of_first_tables}
use Rattle.station_tables_writing.proofs.AddLemmas.{AddsSpans}
use Rattle.station_tables_writing.proofs.VersionLemmas.{SetsVersion}

-- a row of offers reads as an offer without a window
each_none : (rows : List Row) → AllByRecursion (λ o. o.1.window ≡ None) (map offer_of rows)
each_none [] = tt
each_none (r ∷ rows) = (refl, each_none rows)

none_in : (rows : List Row) → AllByRecursion (λ o. o.1.window ≡ None) (content offer_cmp offer_of rows)
none_in rows =
    all_permutes _ (map offer_of rows) (sort_by offer_cmp (map offer_of rows))
    (IsPermutation-sym _ _ (IsPermutation-sort_by offer_cmp offer_total (map offer_of rows))) (each_none rows)

module _ (old mid new : State) (rows : Centre) (held : HoldsFirstSet rows old.now) (adds : AddsSpans old mid)
    (sets : SetsVersion mid new) where
  -- the old trees, and that of windows
  abbrev added : Trees
  added = with_trees (span.tree ∷ []) old.now.trees (λ k. [])

  -- and with the new version
  abbrev risen : Trees
  risen = with_trees (0 ∷ []) added new.now.trees

  agree : Agree new.now.trees risen
  agree =
      agrees_beside (0 ∷ []) added new.now.trees
      (all_both (Beside (0 ∷ []) mid.now.trees new.now.trees) (λ t. mid.now.trees t.tree ≡ added t.tree)
      (Beside (0 ∷ []) added new.now.trees) (λ t beside same away. beside away ∙ same) centre_schema.tables
      sets.others
      (all-append (λ t. mid.now.trees t.tree ≡ added t.tree) first_tables (span ∷ []) adds.others (adds.empty, tt)))

  pub migrated : HoldsSet rows new.now
  migrated = record {
    centre =
        subst IsCentre (λ i. record { schema = sym sets.schema_is i; trees = new.now.trees })
        (centre_agrees new.now.trees risen agree (record {
          schema = refl;
          office = sets.office;
          channels = held.first.channels;
          tapes = held.first.tapes;
          clips = held.first.clips;
          offers = held.first.offers;
          days = held.first.days;
          items = held.first.items;
          batches = held.first.batches;
          lines = held.first.lines;
          spans = record { read = tt; rowids = tt; keys = tt };
        }));
    sound = sets.sound;
    -- without windows, the offers are those of the old table
    rows_are = rows_agree new.now.trees risen agree
        ∙ (λ i. record (rows_of_first_tables old.now.trees)
        { offers = none_made (rows_in offer_table old.now.trees) (none_in (old.now.trees 9)) i }) ∙ held.rows_are;
    owned = owned_agrees new.now.trees risen agree (held.owned.0, held.owned.1, refl);
    rules = held.rules;
  }
