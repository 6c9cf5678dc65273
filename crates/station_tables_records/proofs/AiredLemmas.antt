-- What each statement on batches and their lines does to their tables.
use Rattle.std.proofs.Common.{◌≡◌, ℕ, List, [], ◌∷◌, Ok, refl, ap, ◌∙◌, arith}
use Rattle.std.specs.Prelude.{◌==◌, ◌^◌, nat_lt, true}
use Rattle.sqlite_value.specs.Order.{Row}
use Rattle.sqlite_keyed.specs.Lists.{insert_sorted}
use Rattle.sqlite_keyed.proofs.ListLemmas.{all_weaker}
use Rattle.sqlite_trees.specs.Tree.{Trees}
use Rattle.sqlite.specs.State.{State, Shown, ExecutesInside}
use Rattle.station_tables_records.specs.MadeDays.{Rise}
use Rattle.station_tables_records.specs.declared.aired_rows.BatchRow.{BatchRow}
use Rattle.station_tables_records.specs.declared.aired_rows.AiredLine.{AiredLine}
use Rattle.station_tables_records.specs.MadeAirings.{batch_cmp, line_cmp, is_batch_of, is_line_in, LacksLine}
use Rattle.station_tables_records.specs.Table.{IsTypedIn, rows_in, ChangesTable, ShowsPart}
use Rattle.station_tables_records.proofs.TableLemmas.{inserts_row}
use Rattle.station_tables_records.proofs.SelectLemmas.{shows_part}
use Rattle.station_tables_records.specs.Schema.{centre_schema}
use Rattle.station_tables_records.proofs.AiredTexts.{channel_batches_text, batches_of_text, channel_lines_text}
use Rattle.station_tables_records.proofs.AiredTexts.{lines_of_text, insert_batch_text, insert_line_text}
use Rattle.station_tables_records.specs.Values.{of_nat}
use Rattle.station_tables_records.specs.BatchRows.{batch_row, batch_table, LacksBatch}
use Rattle.station_tables_records.specs.LineRows.{line_row, line_table}
use Rattle.station_tables_records.specs.TwoTables.{ChangesBoth, HasBoth}
use Rattle.station_tables_records.specs.TablePairs.{aired_rows_in, aired_tables, on_batches, on_lines}
use Rattle.station_tables_records.proofs.AiredTextLemmas.{aired_texts}
use Rattle.station_tables_records.proofs.BatchRowLemmas.{batch_table_is, batch_columns_are, batch_is_by, batch_is_of}
use Rattle.station_tables_records.proofs.BatchRowLemmas.{batch_again, is_batch_row, batch_ties, cast_new_batch}
use Rattle.station_tables_records.proofs.LineRowLemmas.{line_table_is, line_columns_are, line_is_by, line_is_in}
use Rattle.station_tables_records.proofs.LineRowLemmas.{line_again, is_line_row, line_ties, cast_new_line}
use Rattle.station_tables_records.proofs.TwoTableLemmas.{first_changed, second_changed}
use Rattle.station_tables_records.proofs.DayLemmas.{rows_rise}

module _ (old new : State) (has : old.now.schema ≡ centre_schema) where
  -- ---- SELECT of one channel's batches and lines

  pub shows_channel_batches : IsTypedIn batch_table old.now.trees → (c : ℕ) (rows : List Row)
      → Shown channel_batches_text (of_nat c ∷ []) old new rows
      → ShowsPart batch_table (λ b. b.0 == c) rows old.now.trees
  shows_channel_batches typed c rows shown =
      shows_part batch_table batch_table_is batch_columns_are old new has (of_nat c ∷ []) aired_texts.channel_batches
      (λ b. b.0 == c) (batch_is_by c) rows typed shown

  pub shows_channel_lines : IsTypedIn line_table old.now.trees → (c : ℕ) (rows : List Row)
      → Shown channel_lines_text (of_nat c ∷ []) old new rows → ShowsPart line_table (λ r. r.0 == c) rows old.now.trees
  shows_channel_lines typed c rows shown =
      shows_part line_table line_table_is line_columns_are old new has (of_nat c ∷ []) aired_texts.channel_lines
      (λ r. r.0 == c) (line_is_by c) rows typed shown

  -- ---- SELECT of one day's batches and lines

  pub shows_batches_of : IsTypedIn batch_table old.now.trees → (c n : ℕ) (rows : List Row)
      → Shown batches_of_text (of_nat c ∷ of_nat n ∷ []) old new rows
      → ShowsPart batch_table (is_batch_of c n) rows old.now.trees
  shows_batches_of typed c n rows shown =
      shows_part batch_table batch_table_is batch_columns_are old new has (of_nat c ∷ of_nat n ∷ [])
      aired_texts.day_batches (is_batch_of c n) (batch_is_of c n) rows typed shown

  pub shows_lines_of : IsTypedIn line_table old.now.trees → (c n : ℕ) (rows : List Row)
      → Shown lines_of_text (of_nat c ∷ of_nat n ∷ []) old new rows
      → ShowsPart line_table (is_line_in c n) rows old.now.trees
  shows_lines_of typed c n rows shown =
      shows_part line_table line_table_is line_columns_are old new has (of_nat c ∷ of_nat n ∷ []) aired_texts.day_lines
      (is_line_in c n) (line_is_in c n) rows typed shown

  -- ---- INSERT

  pub puts_batch : IsTypedIn batch_table old.now.trees → (t : ℕ × BatchRow) (count : ℕ)
      → LacksBatch t.0 t.1.day t.1.number (rows_in batch_table old.now.trees)
      → ExecutesInside 0 insert_batch_text (batch_row t) old new (Ok count)
      → ChangesTable batch_table (insert_sorted batch_cmp t) old new
  puts_batch typed t count fresh ran =
      inserts_row batch_table batch_table_is old new has (batch_row t) aired_texts.insert_batch t
      (ap (λ row. row ∷ []) (cast_new_batch t)) (λ id. batch_again id t) (λ id. is_batch_row id t) count typed
      (all_weaker _ _ (λ u h. batch_ties t u ∙ h) (rows_in batch_table old.now.trees) fresh) ran

  pub puts_line : IsTypedIn line_table old.now.trees → (t : ℕ × AiredLine) (count : ℕ) → nat_lt t.1.line (2 ^ 32) ≡ true
      → LacksLine t.0 t.1.day t.1.batch t.1.line (rows_in line_table old.now.trees)
      → ExecutesInside 0 insert_line_text (line_row t) old new (Ok count)
      → ChangesTable line_table (insert_sorted line_cmp t) old new
  puts_line typed t count small fresh ran =
      inserts_row line_table line_table_is old new has (line_row t) aired_texts.insert_line t
      (ap (λ row. row ∷ []) (cast_new_line t)) (λ id. line_again id t) (λ id. is_line_row id t small) count typed
      (all_weaker _ _ (λ u h. line_ties t u ∙ h) (rows_in line_table old.now.trees) fresh) ran

-- ---- a change of one table, as one of both

module _ (old new : State) (was : HasBoth aired_tables old.now) where
  changes_batches : (f : List (ℕ × BatchRow) → List (ℕ × BatchRow)) → ChangesTable batch_table f old new
      → ChangesBoth aired_tables (on_batches f) old new
  changes_batches f c =
      first_changed old new f (on_batches f) (λ batches lines. refl)
      (c.others.1.1.1.1.1.1.1.1.0 (λ same. absurd (omega (arith, same)))) was.second c

  changes_lines : (f : List (ℕ × AiredLine) → List (ℕ × AiredLine)) → ChangesTable line_table f old new
      → ChangesBoth aired_tables (on_lines f) old new
  changes_lines f c =
      second_changed old new f (on_lines f) (λ batches lines. refl) refl
      (c.others.1.1.1.1.1.1.1.0 (λ same. absurd (omega (arith, same)))) was.first c

  pub inserts_batch : (t : ℕ × BatchRow) (count : ℕ)
      → LacksBatch t.0 t.1.day t.1.number (aired_rows_in old.now.trees).batches
      → ExecutesInside 0 insert_batch_text (batch_row t) old new (Ok count)
      → ChangesBoth aired_tables (on_batches (insert_sorted batch_cmp t)) old new
  inserts_batch t count fresh ran =
      changes_batches (insert_sorted batch_cmp t) (puts_batch old new was.schema was.first t count fresh ran)

  pub inserts_line : (t : ℕ × AiredLine) (count : ℕ) → nat_lt t.1.line (2 ^ 32) ≡ true
      → LacksLine t.0 t.1.day t.1.batch t.1.line (aired_rows_in old.now.trees).lines
      → ExecutesInside 0 insert_line_text (line_row t) old new (Ok count)
      → ChangesBoth aired_tables (on_lines (insert_sorted line_cmp t)) old new
  inserts_line t count small fresh ran =
      changes_lines (insert_sorted line_cmp t) (puts_line old new was.schema was.second t count small fresh ran)

-- ---- the rows of both tables rise

pub batches_rise : (trees : Trees) → IsTypedIn batch_table trees → Rise batch_cmp (aired_rows_in trees).batches
batches_rise trees typed = rows_rise batch_table batch_table_is trees typed

pub lines_rise : (trees : Trees) → IsTypedIn line_table trees → Rise line_cmp (aired_rows_in trees).lines
lines_rise trees typed = rows_rise line_table line_table_is trees typed
