-- Rows of `aired` and the lines that they read as.
use Rattle.std.proofs.Common.{◌≡◌, ℕ, ℤ, pos, true, ◌&&◌, [], ◌∷◌, refl, ap₂, ◌∙◌, is_eq, arith, nat_cmp, Equal}
use Rattle.std.specs.Prelude.{◌==◌, ◌^◌, nat_lt}
use Rattle.std.specs.Ordering.{ordering_then}
use Rattle.std.proofs.lemmas.Bool.Decides.{nat_tests}
use Rattle.sqlite_value.specs.declared.value.Value.TheVariants.{Null, Int, Text as Words}
use Rattle.sqlite_value.specs.Order.{Row, column, value_cmp}
use Rattle.sqlite_rules.specs.Cast.{cast_row}
use Rattle.station_tables_records.specs.declared.aired_rows.AiredLine.{AiredLine}
use Rattle.station_tables_records.specs.MadeAirings.{line_cmp, is_line, is_line_in}
use Rattle.station_tables_records.specs.Plain.{keeps}
use Rattle.station_tables_records.proofs.StatementLemmas.{cast_null, cast_int}
use Rattle.station_tables_records.proofs.SelectLemmas.{ShowsColumns}
use Rattle.station_tables_records.specs.Schema.{aired}
use Rattle.station_tables_records.proofs.Texts.{are_both_at, is_first_at}
use Rattle.station_tables_records.proofs.AiredTexts.{line_columns, by_four}
use Rattle.station_tables_records.specs.Values.{of_nat}
use Rattle.station_tables_records.specs.LineRows.{line_of, line_row, line_key, IsLineRow, line_table}
use Rattle.station_tables_records.proofs.ColumnLemmas.{columns_are, has_put, shows_columns}
use Rattle.station_tables_records.proofs.ValueLemmas.{nats_cmp, is_number, equals, both_eq, flipped}
use Rattle.station_tables_records.proofs.BatchRowLemmas.{threes_cmp}
pub use Rattle.station_tables_records.specs.AreTables.{line_table_is}

-- a row that was put reads as its line
pub line_again : (id : ℤ) (t : ℕ × AiredLine) → line_of (Int id ∷ line_row t) ≡ t
line_again id t = refl

pub is_line_row : (id : ℤ) (t : ℕ × AiredLine) → nat_lt t.1.line (2 ^ 32) ≡ true → IsLineRow (Int id ∷ line_row t)
is_line_row id t small = (has_put line_of line_row id t t refl refl, small)

-- four columns that are numbers, in ORDER BY
fours_cmp : (a b m n x y u v : ℕ)
    → ordering_then (value_cmp (of_nat a) (of_nat b))
    (ordering_then (value_cmp (of_nat m) (of_nat n))
    (ordering_then (value_cmp (of_nat x) (of_nat y)) (ordering_then (value_cmp (of_nat u) (of_nat v)) Equal)))
    ≡ ordering_then (nat_cmp a b) (ordering_then (nat_cmp m n) (ordering_then (nat_cmp x y) (nat_cmp u v)))
fours_cmp a b m n x y u v = ap₂ ordering_then (nats_cmp a b) (threes_cmp m n x y u v)

-- what a text shows of it
pub line_columns_are : ShowsColumns line_table line_columns by_four
line_columns_are =
    shows_columns line_table line_key line_row (λ params r is. is) (λ params r is. is) (λ params r. refl)
    (λ params r. refl) (λ id r is. refl)
    (λ terms params r is i. (
      is.0.1.0 i ∷ is.0.1.1.0 i ∷ is.0.1.1.1.0 i ∷ is.0.1.1.1.1.0 i
          ∷ [],
      columns_are r (line_row (line_of r)) is.0 i,
    ))
    (λ terms i j a b. fours_cmp a.0 b.0 a.1.day b.1.day a.1.batch b.1.batch a.1.line b.1.line)

-- WHERE ch = ?1
pub line_is_by : (c : ℕ) (r : Row) → IsLineRow r → keeps (of_nat c ∷ []) (is_first_at 1) r ≡ ((line_of r).0 == c)
line_is_by c r is = equals (column r 1) (line_of r).0 c is.0.1.0

-- WHERE ch = ?1 AND day = ?2
pub line_is_in : (c n : ℕ) (r : Row) → IsLineRow r
    → keeps (of_nat c ∷ of_nat n ∷ []) (are_both_at 1 2) r ≡ is_line_in c n (line_of r)
line_is_in c n r is =
    ap₂ ◌&&◌ (is_number (column r 1) (line_of r).0 c is.0.1.0) (equals (column r 2) (line_of r).1.day n is.0.1.1.0)

-- two rows tie where one has the other's key
pub line_ties : (a b : ℕ × AiredLine) → is_eq (line_cmp a b) ≡ is_line a.0 a.1.day a.1.batch a.1.line b
line_ties a b =
    both_eq _ _
    ∙ ap₂ ◌&&◌ (flipped a.0 b.0)
    (both_eq _ _
    ∙ ap₂ ◌&&◌ (flipped a.1.day b.1.day)
    (both_eq _ _ ∙ ap₂ ◌&&◌ (flipped a.1.batch b.1.batch) (flipped a.1.line b.1.line)))

-- rows of one key tie
pub same_line_ties : (c n k l : ℕ) (a b : ℕ × AiredLine) → is_line c n k l a ≡ true → is_line c n k l b ≡ true
    → is_eq (line_cmp a b) ≡ true
same_line_ties c n k l a b p q = line_ties a b ∙ grind (arith, nat_tests, p, q)

-- the row that INSERT puts is the one that it was given
pub cast_new_line : (t : ℕ × AiredLine) → cast_row aired (Null ∷ line_row t) ≡ Null ∷ line_row t
cast_new_line t i =
    cast_null i ∷ cast_int (pos t.0) i ∷ cast_int (pos t.1.day) i ∷ cast_int (pos t.1.batch) i
    ∷ cast_int (pos t.1.line) i ∷ cast_int (pos t.1.row.pos) i ∷ cast_int (pos t.1.row.frames) i
    ∷ Words t.1.row.src ∷ cast_int (pos t.1.row.src_first) i ∷ []
