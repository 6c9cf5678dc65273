-- The row of `office`.
use Rattle.std.proofs.Common.{◌≡◌, pos, [], ◌∷◌, refl, sym, ap, ◌∙◌}
use Rattle.std.proofs.lemmas.Cmp.{int_cmp_total}
use Rattle.sqlite_value.specs.declared.value.Value.TheVariants.{Int}
use Rattle.sqlite_rules.specs.Edit.{id_in}
use Rattle.station_tables_records.specs.Table.{IsTable}
use Rattle.sqlite_value.specs.Order.{Row}
use Rattle.sqlite_sql.specs.Term.{eval_all}
use Rattle.sqlite_rules.specs.Cast.{cast_row}
use Rattle.station_tables_records.proofs.StatementLemmas.{cast_null, cast_int}
use Rattle.station_tables_records.specs.Schema.{office}
use Rattle.station_tables_records.proofs.Texts.{office_columns}
use Rattle.station_tables_records.specs.OfficeRow.{IsOfficeRow, office_table, new_office_row, HasVersion}

-- it is a table
pub office_table_is : IsTable office_table
office_table_is =
    record {
      total = int_cmp_total;
      there = refl;
      unworked = λ keys tree olds news. refl;
      numbered =
          λ r is. is.one ∙ sym (ap (λ v. Int (id_in v)) is.one);
    }

-- what the open's text shows of a row reads as the row does
pub shown_office_reads : (r : Row) → IsOfficeRow (eval_all office_columns ([] ∷ r ∷ [])) → IsOfficeRow r
shown_office_reads r is = record { one = is.one; version = is.version }

-- the row that INSERT puts is the one that it was given
pub cast_new_office : cast_row office new_office_row ≡ new_office_row
cast_new_office i = cast_int (pos 1) i ∷ cast_null i ∷ cast_int (pos 2) i ∷ []

-- the table with that row alone
pub new_office_is : HasVersion (pos 2) (new_office_row ∷ [])
new_office_is =
    record { row = new_office_row; alone = refl; is_row = record { one = refl; version = refl }; version_is = refl }
