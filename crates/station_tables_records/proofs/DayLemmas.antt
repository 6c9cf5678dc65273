-- What each statement on days and items does to their tables.
use Rattle.std.proofs.Common.{◌≡◌, ℕ, Bool, true, List, [], ◌∷◌, map, Ok, refl, sym, ap, ◌∙◌, arith}
use Rattle.sqlite_value.specs.declared.value.Value.TheVariants.{Int}
use Rattle.sqlite_value.specs.Order.{Row}
use Rattle.sqlite_trees.specs.Tree.{rowid}
use Rattle.sqlite_rules.specs.declared.error.Rowids.TheVariants.{Given}
use Rattle.sqlite_rules.specs.Edit.{numbered, id_in}
use Rattle.sqlite_keyed.specs.Lists.{insert_sorted, update_where, delete_where, sort_by}
use Rattle.sqlite_keyed.proofs.ListLemmas.{all_weaker}
use Rattle.std.proofs.lemmas.List.Sorted.{IsPermutation-sym}
use Rattle.sqlite_keyed.proofs.SortLemmas.{IsPermutation-sort_by}
use Rattle.sqlite_trees.specs.Tree.{Trees}
use Rattle.sqlite.specs.State.{State, Shown, ExecutesInside}
use Rattle.station_tables_records.specs.declared.day_rows.DayRow.{DayRow}
use Rattle.station_tables_records.specs.declared.day_rows.ItemRow.{ItemRow}
use Rattle.station_tables_records.specs.MadeDays.{Rise, day_cmp, item_cmp, is_day, is_day_in, is_item_of, is_item_in}
use Rattle.station_tables_records.specs.MadeDays.{LacksItem, has_texts}
use Rattle.station_tables_records.specs.Table.{TypedTable, IsTable, IsTypedIn, rows_in, ChangesTable, ShowsPart}
use Rattle.station_tables_records.proofs.TableLemmas.{inserts_row, updates, deletes}
use Rattle.station_tables_records.proofs.SelectLemmas.{shows_part}
use Rattle.station_tables_records.proofs.SortLemmas.{is_sorted-sort_by}
use Rattle.station_tables_records.proofs.KeyLemmas.{rise_from_sorted}
use Rattle.station_tables_records.proofs.WriteLemmas.{ascending_permutes, apart_back}
use Rattle.station_tables_records.specs.Schema.{centre_schema}
use Rattle.station_tables_records.proofs.Texts.{are_both_at}
use Rattle.station_tables_records.proofs.DayTexts.{days_within_text, items_within_text, insert_day_text}
use Rattle.station_tables_records.proofs.DayTexts.{set_sealed_text}
use Rattle.station_tables_records.proofs.DayTexts.{insert_item_text, delete_item_text, are_three, set_day, found_id}
use Rattle.station_tables_records.specs.Values.{of_nat, of_bool}
use Rattle.station_tables_records.specs.DayRows.{day_row, day_of, day_table, LacksDay}
use Rattle.station_tables_records.specs.TwoTables.{ChangesBoth, HasBoth}
use Rattle.station_tables_records.specs.TablePairs.{day_rows_in, day_tables, on_days, on_items}
use Rattle.station_tables_records.specs.ItemRows.{item_row, item_table}
use Rattle.station_tables_records.proofs.DayTextLemmas.{day_texts}
use Rattle.station_tables_records.proofs.TwoTableLemmas.{first_changed, second_changed}
use Rattle.station_tables_records.proofs.NumberedLemmas.{row_ties, same_row, key_stays}
use Rattle.station_tables_records.proofs.DayRowLemmas.{day_table_is, day_rows, day_is, day_is_within, day_again}
use Rattle.station_tables_records.proofs.DayRowLemmas.{is_day_row, cast_new_day, set_one, cast_set_day}
use Rattle.station_tables_records.proofs.ItemRowLemmas.{item_table_is, item_columns_are, item_is, item_is_within}
use Rattle.station_tables_records.proofs.ItemRowLemmas.{item_again, is_item_row, item_ties, same_item_ties}
use Rattle.station_tables_records.proofs.ItemRowLemmas.{cast_new_item}

module _ (old new : State) (has : old.now.schema ≡ centre_schema) where
  -- ---- SELECT of one channel's days and items

  pub shows_days_within : IsTypedIn day_table old.now.trees → (c first last : ℕ) (rows : List Row)
      → Shown days_within_text (of_nat c ∷ of_nat first ∷ of_nat last ∷ []) old new rows
      → ShowsPart day_table (is_day_in c first last) rows old.now.trees
  shows_days_within typed c first last rows shown =
      shows_part day_table day_table_is day_rows.shows old new has (of_nat c ∷ of_nat first ∷ of_nat last ∷ [])
      day_texts.days_within (is_day_in c first last) (day_is_within c first last) rows typed shown

  pub shows_items_within : IsTypedIn item_table old.now.trees → (c first last : ℕ) (rows : List Row)
      → Shown items_within_text (of_nat c ∷ of_nat first ∷ of_nat last ∷ []) old new rows
      → ShowsPart item_table (is_item_in c first last) rows old.now.trees
  shows_items_within typed c first last rows shown =
      shows_part item_table item_table_is item_columns_are old new has (of_nat c ∷ of_nat first ∷ of_nat last ∷ [])
      day_texts.items_within (is_item_in c first last) (item_is_within c first last) rows typed shown

  -- ---- INSERT

  pub puts_day : IsTypedIn day_table old.now.trees → (t : ℕ × DayRow) (count : ℕ)
      → LacksDay t.0 t.1.number (rows_in day_table old.now.trees)
      → ExecutesInside 0 insert_day_text (day_row t) old new (Ok count)
      → ChangesTable day_table (insert_sorted day_cmp t) old new
  puts_day typed t count fresh ran =
      inserts_row day_table day_table_is old new has (day_row t) day_texts.insert_day t
      (ap (λ row. row ∷ []) (cast_new_day t)) (λ id. day_again id t) (λ id. is_day_row id t) count typed
      (all_weaker _ _ (λ u h. row_ties (λ (t : DayRow). t.number) t u ∙ h) (rows_in day_table old.now.trees) fresh) ran

  pub puts_item : IsTypedIn item_table old.now.trees → (t : ℕ × ItemRow) (count : ℕ) → has_texts t.1.item ≡ true
      → LacksItem t.0 t.1.day t.1.item.n (rows_in item_table old.now.trees)
      → ExecutesInside 0 insert_item_text (item_row t) old new (Ok count)
      → ChangesTable item_table (insert_sorted item_cmp t) old new
  puts_item typed t count texts fresh ran =
      inserts_row item_table item_table_is old new has (item_row t) day_texts.insert_item t
      (ap (λ row. row ∷ []) (cast_new_item t)) (λ id. item_again id t texts) (λ id. is_item_row id t texts) count
      typed
      (all_weaker _ _ (λ u h. item_ties t u ∙ h) (rows_in item_table old.now.trees) fresh) ran

  -- ---- UPDATE by key

  pub sets_sealed : IsTypedIn day_table old.now.trees → (c n : ℕ) (sealed : Bool) (count : ℕ)
      → ExecutesInside 0 set_sealed_text (of_nat c ∷ of_nat n ∷ of_bool sealed ∷ []) old new (Ok count)
      → ChangesTable day_table (update_where (is_day c n) (λ t. (t.0, record t.1 { sealed = sealed }))) old new
  sets_sealed typed c n sealed count ran =
      let made : Row → Row = λ r. Int (id_in (rowid r)) ∷ day_row (set_one sealed (day_of r)) in
      updates day_table day_table_is old new has set_sealed_text (of_nat c ∷ of_nat n ∷ of_bool sealed ∷ [])
      day_texts.set_sealed.plain (are_both_at 1 2) set_day (is_day c n) (day_is c n (of_bool sealed ∷ []))
      (same_row (λ (t : DayRow). t.number) c n)
      (set_one sealed) made day_texts.set_sealed.is
      (key_stays (λ (t : DayRow). t.number) (is_day c n) (λ t. record t { sealed = sealed }) (λ t. refl))
      (λ found is. refl)
      (λ rows found is. ap (λ row. numbered Given rows (row ∷ [])) (cast_set_day sealed found is))
      (λ found is. (
        sym is.0,
        day_again (id_in (rowid found)) (set_one sealed (day_of found)),
        is_day_row (id_in (rowid found))
            (set_one sealed (day_of found)),
      )) count typed ran

  -- ---- DELETE by key

  pub drops_item : IsTypedIn item_table old.now.trees → (c n k count : ℕ)
      → ExecutesInside 0 delete_item_text (of_nat c ∷ of_nat n ∷ of_nat k ∷ []) old new (Ok count)
      → ChangesTable item_table (delete_where (is_item_of c n k)) old new
  drops_item typed c n k count ran =
      deletes item_table item_table_is old new has delete_item_text (of_nat c ∷ of_nat n ∷ of_nat k ∷ [])
      day_texts.delete_item.plain are_three found_id (is_item_of c n k) (item_is c n k) (same_item_ties c n k)
      day_texts.delete_item.is (λ found is. refl) count typed ran

-- ---- a change of one table, as one of both

module _ (old new : State) (was : HasBoth day_tables old.now) where
  changes_days : (f : List (ℕ × DayRow) → List (ℕ × DayRow)) → ChangesTable day_table f old new
      → ChangesBoth day_tables (on_days f) old new
  changes_days f c =
      first_changed old new f (on_days f) (λ days items. refl)
      (c.others.1.1.1.1.1.1.0 (λ same. absurd (omega (arith, same)))) was.second c

  changes_items : (f : List (ℕ × ItemRow) → List (ℕ × ItemRow)) → ChangesTable item_table f old new
      → ChangesBoth day_tables (on_items f) old new
  changes_items f c =
      second_changed old new f (on_items f) (λ days items. refl) refl
      (c.others.1.1.1.1.1.0 (λ same. absurd (omega (arith, same)))) was.first c

  pub inserts_day : (t : ℕ × DayRow) (count : ℕ) → LacksDay t.0 t.1.number (day_rows_in old.now.trees).days
      → ExecutesInside 0 insert_day_text (day_row t) old new (Ok count)
      → ChangesBoth day_tables (on_days (insert_sorted day_cmp t)) old new
  inserts_day t count fresh ran =
      changes_days (insert_sorted day_cmp t) (puts_day old new was.schema was.first t count fresh ran)

  pub seals_day : (c n : ℕ) (sealed : Bool) (count : ℕ)
      → ExecutesInside 0 set_sealed_text (of_nat c ∷ of_nat n ∷ of_bool sealed ∷ []) old new (Ok count)
      → ChangesBoth day_tables (on_days (update_where (is_day c n) (λ t. (t.0, record t.1 { sealed = sealed })))) old
      new
  seals_day c n sealed count ran =
      changes_days (update_where (is_day c n) (λ t. (t.0, record t.1 { sealed = sealed })))
      (sets_sealed old new was.schema was.first c n sealed count ran)

  pub inserts_item : (t : ℕ × ItemRow) (count : ℕ) → has_texts t.1.item ≡ true
      → LacksItem t.0 t.1.day t.1.item.n (day_rows_in old.now.trees).items
      → ExecutesInside 0 insert_item_text (item_row t) old new (Ok count)
      → ChangesBoth day_tables (on_items (insert_sorted item_cmp t)) old new
  inserts_item t count texts fresh ran =
      changes_items (insert_sorted item_cmp t) (puts_item old new was.schema was.second t count texts fresh ran)

  pub deletes_item : (c n k count : ℕ)
      → ExecutesInside 0 delete_item_text (of_nat c ∷ of_nat n ∷ of_nat k ∷ []) old new (Ok count)
      → ChangesBoth day_tables (on_items (delete_where (is_item_of c n k))) old new
  deletes_item c n k count ran =
      changes_items (delete_where (is_item_of c n k)) (drops_item old new was.schema was.second c n k count ran)

-- ---- the rows of a table rise

pub rows_rise : {T : Type 0} → (t : TypedTable T) → IsTable t → (trees : Trees) → IsTypedIn t trees
    → Rise t.cmp (rows_in t trees)
rows_rise {T} t law trees typed =
    let values : List T = map t.of (trees t.base.tree) in
    rise_from_sorted t.cmp law.total (sort_by t.cmp values)
    (ascending_permutes _ (apart_back t.cmp law.total) values (sort_by t.cmp values)
    (IsPermutation-sym _ _ (IsPermutation-sort_by t.cmp law.total values)) typed.keys)
    (is_sorted-sort_by t.cmp law.total values)

pub days_rise : (trees : Trees) → IsTypedIn day_table trees → Rise day_cmp (day_rows_in trees).days
days_rise trees typed = rows_rise day_table day_table_is trees typed

pub items_rise : (trees : Trees) → IsTypedIn item_table trees → Rise item_cmp (day_rows_in trees).items
items_rise trees typed = rows_rise item_table item_table_is trees typed
