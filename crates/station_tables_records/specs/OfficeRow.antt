-- The row of the table `office`: the version of the tables. Its key `one` is its rowid, so the row is one, NULL in the
-- place of that column, and the version. No reading looks at the second place: the open's text shows `one` there.
use Rattle.std.specs.Prelude.{◌≡◌, ℤ, pos, List, [], ◌∷◌}
use Rattle.sqlite_value.specs.declared.value.Value.TheVariants.{Null, Int}
use Rattle.sqlite_value.specs.Order.{Row, column}
use Rattle.std.specs.Ordering.{int_cmp}
use Rattle.station_tables_records.specs.Table.{TypedTable}
use Rattle.station_tables_records.specs.Schema.{office}
use Rattle.station_tables_records.specs.Columns.{table_at}
use Rattle.station_tables_records.specs.Values.{int_in}

abbrev pub version_of : Row → ℤ
version_of r = int_in (column r 2)

pub record IsOfficeRow (r : Row) : Type 0 where
  pub one : column r 0 ≡ Int (pos 1)
  pub version : column r 2 ≡ Int (version_of r)

-- the row as it lies in the table of a new centre
abbrev pub new_office_row : Row
new_office_row = Int (pos 1) ∷ Null ∷ Int (pos 2) ∷ []

-- by its key
abbrev pub office_table : TypedTable ℤ
office_table = table_at 0 office (λ r. int_in (column r 0)) IsOfficeRow int_cmp

-- The table holds one row, of this version.
pub record HasVersion (version : ℤ) (rows : List Row) : Type 0 where
  pub row : Row
  pub alone : rows ≡ row ∷ []
  pub is_row : IsOfficeRow row
  pub version_is : version_of row ≡ version
