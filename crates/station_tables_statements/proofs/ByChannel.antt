-- The two tables with most rows, items and lines, as they are read channel by channel.
use Rattle.std.proofs.Common.{◌≡◌, ◌⊎◌, inl, inr, ℕ, List, [], ◌∷◌, IsTrue}
use Rattle.std.specs.Prelude.{◌==◌}
use Rattle.sqlite_value.specs.declared.keys.Key.{Key}
use Rattle.sqlite_value.specs.Order.{Row}
use Rattle.sqlite_sql.specs.Term.{Term}
use Rattle.sqlite_schema.specs.declared.schema.Table.{Table}
use Rattle.sqlite.specs.declared.error.Error.{Error}
use Rattle.sqlite.specs.State.{State, Shown, FailsToQuery, IsTooLate}
use Rattle.station_tables_records.specs.Asking.{IsReading}
use Rattle.station_tables_records.specs.Plain.{plain_query}
use Rattle.station_tables_records.specs.Schema.{first_and, first_schema, centre_schema, span}
use Rattle.station_tables_records.specs.Table.{TypedTable, IsTable, IsShortage}
use Rattle.station_tables_records.specs.Values.{of_nat}
use Rattle.station_tables_records.proofs.AiredTexts.{channel_lines_text}
use Rattle.station_tables_records.proofs.FailLemmas.{fails_either}
use Rattle.station_tables_records.proofs.Opens.{Opens}
use Rattle.station_tables_records.proofs.SelectLemmas.{ShowsColumns}
use Rattle.station_tables_records.proofs.Texts.{is_first_at}
use Rattle.station_tables_records.specs.AreTables.{item_table_is, line_table_is}
use Rattle.station_tables_records.specs.ItemRows.{item_table}
use Rattle.station_tables_records.specs.LineRows.{line_table}
use Rattle.station_tables_records.proofs.ItemRowLemmas.{item_columns_are}
use Rattle.station_tables_records.proofs.LineRowLemmas.{line_columns_are}
use Rattle.station_tables_statements.specs.AreByChannel.{item_by_channel, line_by_channel}
use Rattle.station_tables_statements.specs.ByChannel.{is_channel, count_row, ShowsChannel}
use Rattle.station_tables_statements.proofs.CountLemmas.{count_fails_either}
use Rattle.station_tables_statements.proofs.PartTexts.{OpensChannel, count_query, part_texts, channel_items_text}
use Rattle.station_tables_statements.proofs.PartTexts.{count_items_text, count_lines_text, shows_channel, shows_count}

-- What a text with a channel shows of a table, and one that counts its rows, on tables of either version.
pub record ReadsByChannel {T : Type 0} (t : TypedTable T) (text count_text : List ℕ) : Type 1 where
  pub reads : IsReading text
  pub shows : (old new : State) → (old.now.schema ≡ centre_schema) ⊎ (old.now.schema ≡ first_schema)
      → (c : ℕ) (rows : List Row) → Shown text (of_nat c ∷ []) old new rows → ShowsChannel t c rows old.now.trees
  pub fails : (old new : State)
      → (IsTrue old.is_open → (old.now.schema ≡ centre_schema) ⊎ (old.now.schema ≡ first_schema)) → (c : ℕ) (e : Error)
      → FailsToQuery text (of_nat c ∷ []) old new e ⊎ IsTooLate text (of_nat c ∷ []) old new e → IsShortage e
  pub count_reads : IsReading count_text
  pub counts : (old new : State) → (old.now.schema ≡ centre_schema) ⊎ (old.now.schema ≡ first_schema)
      → (rows : List Row) → Shown count_text [] old new rows → rows ≡ count_row (old.now.trees t.base.tree)
  pub count_fails : (old new : State)
      → (IsTrue old.is_open → (old.now.schema ≡ centre_schema) ⊎ (old.now.schema ≡ first_schema)) → (e : Error)
      → FailsToQuery count_text [] old new e ⊎ IsTooLate count_text [] old new e → IsShortage e

by_channel_of : {T : Type 0} (t : TypedTable T) → IsTable t → (channel : T → ℕ)
    → ((c : ℕ) (r : Row) → t.IsRow r → is_channel c r ≡ (channel (t.of r) == c))
    → {project : List Term} {order : List (Term × Key)} → ShowsColumns t project order
    → {text count_text : List ℕ}
    → ((more : List Table) → OpensChannel (first_and more) text (plain_query t.base.tree (is_first_at 1) project order))
    → ((more : List Table) → Opens (first_and more) count_text (count_query t.base.tree))
    → ReadsByChannel t text count_text
by_channel_of t law channel is {project} {order} columns {text} {count_text} opens counted = record {
  reads = (opens []).selects.reads;
  shows = λ old new either c rows shown. elim either [
    | inl has ↦ shows_channel old new centre_schema has t law channel is columns c (opens (span ∷ [])).selects rows
        shown
    | inr has ↦ shows_channel old new first_schema has t law channel is columns c (opens []).selects rows shown
  ];
  fails =
      λ old new either c. fails_either old new centre_schema first_schema text (of_nat c ∷ []) t.base.tree
      (is_first_at 1) project order
      (opens (span ∷ [])).selects ((opens (span ∷ [])).fits c) (opens []).selects ((opens []).fits c) either;
  count_reads = (counted []).selects.reads;
  counts = λ old new either rows shown. elim either [
    | inl has ↦ shows_count old new centre_schema has t.base.tree (counted (span ∷ [])).selects rows shown
    | inr has ↦ shows_count old new first_schema has t.base.tree (counted []).selects rows shown
  ];
  count_fails =
      λ old new either. count_fails_either old new centre_schema first_schema count_text t.base.tree
      (counted (span ∷ [])) (counted []) either;
}

pub items_by_channel : ReadsByChannel item_table channel_items_text count_items_text
items_by_channel =
    by_channel_of item_table item_table_is (λ r. r.0) item_by_channel item_columns_are (λ more. part_texts.items)
    (λ more. part_texts.count_items)

pub lines_by_channel : ReadsByChannel line_table channel_lines_text count_lines_text
lines_by_channel =
    by_channel_of line_table line_table_is (λ r. r.0) line_by_channel line_columns_are (λ more. part_texts.lines)
    (λ more. part_texts.count_lines)
