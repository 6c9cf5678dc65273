-- The tables as they are made, and as they are found.
use Rattle.std.proofs.Common.{◌≡◌, ◌≢◌, ℤ, pos, List, [], ◌∷◌, map, length, refl, sym, ap, ◌∙◌, subst, arith}
use Rattle.std.proofs.Common.{IsPermutation}
use Rattle.std.specs.Prelude.{slice_index_or}
use Rattle.std.specs.List.{AllByRecursion}
use Rattle.std.proofs.lemmas.List.Sorted.{length_permutation}
use Rattle.sqlite_value.specs.Order.{Row}
use Rattle.sqlite_trees.specs.Tree.{Trees}
use Rattle.sqlite_sql.specs.Term.{eval_all}
use Rattle.sqlite_keyed.proofs.ListLemmas.{all_both}
use Rattle.sqlite.specs.Effect.{Database}
use Rattle.sqlite.proofs.Callers.{one_permutation}
use Rattle.station_tables_records.specs.Content.{IsTyped}
use Rattle.station_tables_records.specs.Schema.{centre_schema}
use Rattle.station_tables_records.specs.BatchRows.{batch_table}
use Rattle.station_tables_records.specs.LineRows.{line_table}
use Rattle.station_tables_records.proofs.Texts.{office_columns}
use Rattle.station_tables_records.specs.TapeRows.{tape_table}
use Rattle.station_tables_records.specs.ClipRows.{clip_table}
use Rattle.station_tables_records.specs.OfferRows.{offer_table}
use Rattle.station_tables_records.specs.SpanRows.{span_table}
use Rattle.station_tables_records.specs.ChannelRows.{channel_table}
use Rattle.station_tables_records.specs.OfficeRow.{HasVersion, IsOfficeRow, version_of, new_office_row}
use Rattle.station_tables_statements.specs.Rows.{IsCentre, OwnsRows, rows_of_tables, no_rows}
use Rattle.station_tables_records.specs.DayRows.{day_table}
use Rattle.station_tables_records.specs.ItemRows.{item_table}
use Rattle.station_tables_records.specs.Table.{TypedTable, IsBare}
use Rattle.station_tables_statements.proofs.AgreeLemmas.{Agree, Beside, rows_agree, owned_agrees, centre_agrees}
use Rattle.station_tables_statements.proofs.AgreeLemmas.{with_trees}
use Rattle.station_tables_statements.proofs.AgreeLemmas.{agrees_beside}
use Rattle.station_tables_records.proofs.OfficeRowLemmas.{shown_office_reads, new_office_is}

-- a table without a row
bare_typed : {T : Type 0} (t : TypedTable T) → IsTyped t.cmp t.of t.IsRow []
bare_typed t = record { read = tt; rowids = tt; keys = tt }

-- the ten tables with the row of `office` are a centre with no rows
pub new_centre : (old new : Database) → IsBare centre_schema old → new.schema ≡ centre_schema
    → new.trees 0 ≡ new_office_row ∷ []
    → AllByRecursion (λ u. u.tree ≢ 0 → new.trees u.tree ≡ old.trees u.tree) centre_schema.tables
    → IsCentre new × (rows_of_tables new.trees ≡ no_rows) × OwnsRows new.trees
new_centre old new bare is office others =
    let trees : Trees = with_trees (0 ∷ []) (λ k. []) new.trees in
    let agree : Agree new.trees trees = agrees_beside (0 ∷ []) (λ k. []) new.trees
    (all_both (Beside (0 ∷ []) old.trees new.trees) (λ t. old.trees t.tree ≡ []) (Beside (0 ∷ []) (λ k. []) new.trees)
    (λ t beside empty away. beside away ∙ empty) centre_schema.tables others bare.empty) in
    let centre : IsCentre (record { schema = centre_schema; trees = trees }) = record {
      schema = refl;
      office = subst (HasVersion (pos 2)) (sym office) new_office_is;
      channels = bare_typed channel_table;
      tapes = bare_typed tape_table;
      clips = bare_typed clip_table;
      offers = bare_typed offer_table;
      days = bare_typed day_table;
      items = bare_typed item_table;
      batches = bare_typed batch_table;
      lines = bare_typed line_table;
      spans = bare_typed span_table;
    } in (
      subst IsCentre (λ i. record { schema = sym is i; trees = new.trees })
          (centre_agrees new.trees trees agree centre),
      rows_agree new.trees trees agree,
      owned_agrees new.trees trees agree (refl, record { owned = refl; batches = refl; lines = refl }, refl),
    )

-- Where the rows that the open's text shows of `office` are one row of a version, the table's are.
pub version_found : (version : ℤ) (all rows : List Row)
    → IsPermutation (map (λ (r : Row). eval_all office_columns ([] ∷ r ∷ [])) all) rows → HasVersion version rows
    → HasVersion version all
version_found version [] rows moved has = absurd (omega (arith, length_permutation _ _ moved, ap length has.alone))
version_found version (r ∷ []) rows moved has =
    let shown : eval_all office_columns ([] ∷ r ∷ []) ∷ [] ≡ has.row ∷ [] =
    sym (one_permutation _ rows moved) ∙ has.alone in
    let first : eval_all office_columns ([] ∷ r ∷ []) ≡ has.row = ap (λ (l : List Row). slice_index_or l 0 []) shown in
    record {
      row = r;
      alone = refl;
      is_row = shown_office_reads r (subst IsOfficeRow (sym first) has.is_row);
      version_is = ap version_of first ∙ has.version_is;
    }
version_found version (r ∷ s ∷ more) rows moved has =
    absurd (omega (arith, length_permutation _ _ moved, ap length has.alone))
