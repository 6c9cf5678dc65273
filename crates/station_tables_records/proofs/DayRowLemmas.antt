-- Rows of `day` and the days that they read as.
use Rattle.std.proofs.Common.{◌≡◌, ℕ, ℤ, pos, Bool, ◌&&◌, [], ◌∷◌, refl, ap, ap₂, ◌∙◌, take, ◌++◌}
use Rattle.sqlite_value.specs.declared.value.Value.{Value}
use Rattle.sqlite_value.specs.declared.value.Value.TheVariants.{Null, Int}
use Rattle.sqlite_value.specs.Order.{Row, column}
use Rattle.sqlite_trees.specs.Tree.{rowid}
use Rattle.sqlite_schema.specs.declared.schema.Kind.TheVariants.{Integer}
use Rattle.sqlite_rules.specs.Edit.{id_in}
use Rattle.sqlite_rules.specs.Cast.{cast, cast_row}
use Rattle.station_tables_records.specs.declared.day_rows.DayRow.{DayRow}
use Rattle.station_tables_records.specs.MadeDays.{is_day, is_day_in}
use Rattle.station_tables_records.specs.Plain.{keeps}
use Rattle.station_tables_records.proofs.StatementLemmas.{cast_null, cast_int}
use Rattle.station_tables_records.specs.Schema.{day}
use Rattle.station_tables_records.proofs.Texts.{are_both_at, are_within_at}
use Rattle.station_tables_records.proofs.DayTexts.{day_columns}
use Rattle.station_tables_records.specs.Values.{of_nat, of_bool}
use Rattle.station_tables_records.specs.DayRows.{day_of, day_row, day_table}
use Rattle.station_tables_records.proofs.ColumnLemmas.{columns_are, has_put}
use Rattle.station_tables_records.proofs.NumberedLemmas.{NumbersRows, numbered_rows, one_is}
use Rattle.station_tables_records.proofs.ValueLemmas.{is_number, is_from, is_up_to, bool_again, cast_bool}
pub use Rattle.station_tables_records.specs.AreTables.{day_table_is}

-- a row that was put reads as its day
pub day_again : (id : ℤ) (t : ℕ × DayRow) → day_of (Int id ∷ day_row t) ≡ t
day_again id t i = (t.0, record t.1 { sealed = bool_again t.1.sealed i })

pub is_day_row : (id : ℤ) (t : ℕ × DayRow) → day_table.IsRow (Int id ∷ day_row t)
is_day_row id t = has_put day_of day_row id t t refl (day_again id t)

-- what the texts show of it
pub day_rows : NumbersRows (λ (t : DayRow). t.number) day_table day_columns
day_rows =
    numbered_rows day_table day_row day_table_is (λ a b. refl) (λ params r is. is) (λ params r is. is)
    (λ params r. refl) (λ params r. refl) (λ id r is. day_again id (day_of r))
    (λ params r is. columns_are r (day_row (day_of r)) is) (λ r is. is.1.0) (λ r is. is.1.1.0)

-- WHERE ch = ?1 AND day = ?2
pub day_is : (c n : ℕ) (others r : Row) → day_table.IsRow r
    → keeps (of_nat c ∷ of_nat n ∷ others) (are_both_at 1 2) r ≡ is_day c n (day_of r)
day_is c n = one_is day_rows c n

-- WHERE ch = ?1 AND day BETWEEN ?2 AND ?3
pub day_is_within : (c first last : ℕ) (r : Row) → day_table.IsRow r
    → keeps (of_nat c ∷ of_nat first ∷ of_nat last ∷ []) (are_within_at 1 2) r ≡ is_day_in c first last (day_of r)
day_is_within c first last r is =
    ap₂ ◌&&◌ (is_number (column r 1) (day_of r).0 c is.1.0)
    (ap₂ ◌&&◌ (is_from (column r 2) (day_of r).1.number first is.1.1.0)
    (is_up_to (column r 2) (day_of r).1.number last is.1.1.0))

-- a row of these columns is cast to itself
cast_day : (first : Value) → cast Integer first ≡ first → (t : ℕ × DayRow)
    → cast_row day (first ∷ day_row t) ≡ first ∷ day_row t
cast_day first same t i = same i ∷ cast_int (pos t.0) i ∷ cast_int (pos t.1.number) i ∷ cast_bool t.1.sealed i ∷ []

-- the row that INSERT puts is the one that it was given
pub cast_new_day : (t : ℕ × DayRow) → cast_row day (Null ∷ day_row t) ≡ Null ∷ day_row t
cast_new_day = cast_day Null cast_null

-- the day, sealed or open
abbrev pub set_one : Bool → ℕ × DayRow → ℕ × DayRow
set_one sealed t = (t.0, record t.1 { sealed = sealed })

-- the row that UPDATE puts in the place of one is that of the day, sealed or open
pub cast_set_day : (sealed : Bool) (found : Row) → day_table.IsRow found
    → cast_row day (column found 0 ∷ column found 1 ∷ column found 2 ∷ of_bool sealed ∷ [])
    ≡ Int (id_in (rowid found)) ∷ day_row (set_one sealed (day_of found))
cast_set_day sealed found is =
    ap (λ l. cast_row day (take 3 l ++ of_bool sealed ∷ [])) (columns_are found (day_row (day_of found)) is)
    ∙ cast_day (Int (id_in (rowid found))) (cast_int (id_in (rowid found))) (set_one sealed (day_of found))
