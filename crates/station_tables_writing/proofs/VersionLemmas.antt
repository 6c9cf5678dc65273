-- The version of the tables, as it is set.
use Rattle.std.proofs.Common.{◌≡◌, ◌≢◌, ℕ, ℤ, pos, true, List, [], ◌∷◌, map, length, Ok, refl, sym, ap, ◌∙◌, subst}
use Rattle.std.proofs.Common.{arith}
use Rattle.std.specs.declared.cmp.Ordering.{Ordering}
use Rattle.std.specs.Ordering.{nat_cmp}
use Rattle.std.specs.Prelude.{slice_index_or}
use Rattle.std.specs.List.{AllByRecursion}
use Rattle.std.proofs.lemmas.Cmp.{nat_cmp_total, on_total}
use Rattle.std.proofs.lemmas.List.Sorted.{length_permutation}
use Rattle.sqlite_keyed.specs.Lists.{update_where}
use Rattle.sqlite_keyed.proofs.SortLemmas.{IsPermutation-sort_by}
use Rattle.sqlite_value.specs.declared.value.Value.{Value}
use Rattle.sqlite_value.specs.declared.value.Value.TheVariants.{Null, Int}
use Rattle.sqlite_value.specs.Order.{Row}
use Rattle.sqlite_rules.specs.declared.error.Rowids.TheVariants.{Given}
use Rattle.sqlite_rules.specs.Edit.{numbered}
use Rattle.sqlite_rules.specs.Cast.{cast_row}
use Rattle.sqlite.specs.Effect.{IsDatabase}
use Rattle.sqlite.specs.State.{State, Shows, ExecutesInside}
use Rattle.station_tables_records.specs.Content.{IsTyped, content}
use Rattle.station_tables_records.specs.Table.{TypedTable, IsTable, IsTypedIn, ChangesTable}
use Rattle.station_tables_records.proofs.TableLemmas.{updates}
use Rattle.station_tables_records.specs.Schema.{office, centre_schema}
use Rattle.station_tables_records.specs.OfficeRow.{HasVersion, IsOfficeRow, version_of, new_office_row}
use Rattle.station_tables_records.proofs.OfficeRowLemmas.{office_table_is, cast_new_office}
use Rattle.station_tables_records.proofs.Texts.{set_version_text, risen_office}
use Rattle.station_tables_records.proofs.TextLemmas.{office_texts}

-- the version is 2, and the other tables are as they were.
pub record SetsVersion (old new : State) : Type 0 where
  pub schema_is : new.now.schema ≡ centre_schema
  pub office : HasVersion (pos 2) (new.now.trees 0)
  pub others : AllByRecursion (λ t. t.tree ≢ 0 → new.now.trees t.tree ≡ old.now.trees t.tree) centre_schema.tables
  pub sound : IsDatabase new.now
  pub shown : Shows old new new.now old.committed true

-- The table as versions, all of one key: so it has no two rows.
abbrev any_cmp : ℤ → ℤ → Ordering
any_cmp a b = nat_cmp 0 0

abbrev version_table : TypedTable ℤ
version_table =
    record { schema = centre_schema; place = 0; base = office; of = version_of; IsRow = IsOfficeRow; cmp = any_cmp }

version_table_is : IsTable version_table
version_table_is =
    record {
      total = on_total (λ (v : ℤ). 0) nat_cmp_total;
      there = refl;
      unworked = office_table_is.unworked;
      numbered =
          office_table_is.numbered;
    }

-- a table of one row
one_typed : (version : ℤ) (rows : List Row) → HasVersion version rows → IsTyped any_cmp version_of IsOfficeRow rows
one_typed version rows has =
    subst (IsTyped any_cmp version_of IsOfficeRow) (sym has.alone)
    (record { read = (has.is_row, tt); rowids = (tt, tt); keys = (tt, tt) })

one_version : (version : ℤ) (rows : List Row) → HasVersion version rows → content any_cmp version_of rows ≡ version ∷ []
one_version version rows has = ap (content any_cmp version_of) has.alone ∙ ap (λ v. v ∷ []) has.version_is

-- and back
version_alone : (version : ℤ) (rows : List Row) → IsTyped any_cmp version_of IsOfficeRow rows
    → content any_cmp version_of rows ≡ version ∷ [] → HasVersion version rows
version_alone version [] typed are = absurd (omega (arith, ap length are))
version_alone version (r ∷ []) typed are =
    record
    { row = r; alone = refl; is_row = typed.read.0; version_is = ap (λ (l : List ℤ). slice_index_or l 0 (pos 0)) are }
version_alone version (r ∷ s ∷ more) typed are =
    absurd
    (omega (
      arith,
      length_permutation _ _
          (IsPermutation-sort_by any_cmp version_table_is.total (map version_of (r ∷ s ∷ more))),
      ap length are,
    ))

module _ (old new : State) (has : old.now.schema ≡ centre_schema) (version : ℤ)
    (is : HasVersion version (old.now.trees 0)) where
  abbrev cast_one : Value → Row
  cast_one v = cast_row office (v ∷ Null ∷ Int (pos 2) ∷ [])

  pub sets_version : (count : ℕ) → ExecutesInside 0 set_version_text [] old new (Ok count) → SetsVersion old new
  sets_version count ran =
      let typed : IsTypedIn version_table old.now.trees = one_typed version (old.now.trees 0) is in
      let change : ChangesTable version_table (update_where (λ _. true) (λ _. pos 2)) old new =
      updates version_table version_table_is old new has set_version_text [] office_texts.set_version.plain []
      risen_office (λ _. true) (λ r is. refl) (λ a b p q. refl)
      (λ _. pos 2) (λ r. new_office_row) office_texts.set_version.is (λ a b. refl) (λ found is. refl)
      (λ rows found is. ap (λ row. numbered Given rows (row ∷ [])) (ap cast_one is.one ∙ cast_new_office))
      (λ found is. (sym is.one, refl, record { one = refl; version = refl })) count typed ran in
      record {
        schema_is = change.schema_is;
        office =
            version_alone (pos 2) (new.now.trees 0) change.typed
            (change.rows_are ∙ ap (update_where (λ _. true) (λ _. pos 2)) (one_version version (old.now.trees 0) is));
        others = change.others;
        sound = change.sound;
        shown = change.shown;
      }
