-- Rows of `batch` and the batches that they read as.
use Rattle.std.proofs.Common.{◌≡◌, ℕ, ℤ, pos, true, ◌&&◌, [], ◌∷◌, refl, ap₂, ◌∙◌, is_eq, arith, nat_cmp, Equal}
use Rattle.std.specs.Prelude.{◌==◌}
use Rattle.std.specs.Ordering.{ordering_then}
use Rattle.std.proofs.lemmas.Bool.Decides.{nat_tests}
use Rattle.sqlite_value.specs.declared.value.Value.TheVariants.{Null, Int}
use Rattle.sqlite_value.specs.Order.{Row, column, value_cmp}
use Rattle.sqlite_rules.specs.Cast.{cast_row}
use Rattle.station_tables_records.specs.declared.aired_rows.BatchRow.{BatchRow}
use Rattle.station_tables_records.specs.MadeAirings.{batch_cmp, is_batch, is_batch_of}
use Rattle.station_tables_records.specs.Plain.{keeps}
use Rattle.station_tables_records.proofs.StatementLemmas.{cast_null, cast_int}
use Rattle.station_tables_records.proofs.SelectLemmas.{ShowsColumns}
use Rattle.station_tables_records.specs.Schema.{batch}
use Rattle.station_tables_records.proofs.Texts.{are_both_at, is_first_at}
use Rattle.station_tables_records.proofs.DayTexts.{by_three}
use Rattle.station_tables_records.proofs.AiredTexts.{batch_columns}
use Rattle.station_tables_records.specs.Values.{of_nat}
use Rattle.station_tables_records.specs.BatchRows.{batch_of, batch_row, batch_key, batch_table}
use Rattle.station_tables_records.proofs.ColumnLemmas.{columns_are, has_put, shows_columns}
use Rattle.station_tables_records.proofs.ValueLemmas.{then-Equal, nats_cmp, is_number, equals, both_eq, flipped}
pub use Rattle.station_tables_records.specs.AreTables.{batch_table_is}

-- a row that was put reads as its batch
pub batch_again : (id : ℤ) (t : ℕ × BatchRow) → batch_of (Int id ∷ batch_row t) ≡ t
batch_again id t = refl

pub is_batch_row : (id : ℤ) (t : ℕ × BatchRow) → batch_table.IsRow (Int id ∷ batch_row t)
is_batch_row id t = has_put batch_of batch_row id t t refl refl

-- three columns that are numbers, in ORDER BY
pub threes_cmp : (a b m n x y : ℕ)
    → ordering_then (value_cmp (of_nat a) (of_nat b))
    (ordering_then (value_cmp (of_nat m) (of_nat n)) (ordering_then (value_cmp (of_nat x) (of_nat y)) Equal))
    ≡ ordering_then (nat_cmp a b) (ordering_then (nat_cmp m n) (nat_cmp x y))
threes_cmp a b m n x y =
    ap₂ ordering_then (nats_cmp a b) (ap₂ ordering_then (nats_cmp m n) (then-Equal _ ∙ nats_cmp x y))

-- what a text shows of it
pub batch_columns_are : ShowsColumns batch_table batch_columns by_three
batch_columns_are =
    shows_columns batch_table batch_key batch_row (λ params r is. is) (λ params r is. is) (λ params r. refl)
    (λ params r. refl) (λ id r is. refl)
    (λ terms params r is i. (is.1.0 i ∷ is.1.1.0 i ∷ is.1.1.1.0 i ∷ [], columns_are r (batch_row (batch_of r)) is i))
    (λ terms i j a b. threes_cmp a.0 b.0 a.1.day b.1.day a.1.number b.1.number)

-- WHERE ch = ?1
pub batch_is_by : (c : ℕ) (r : Row) → batch_table.IsRow r
    → keeps (of_nat c ∷ []) (is_first_at 1) r ≡ ((batch_of r).0 == c)
batch_is_by c r is = equals (column r 1) (batch_of r).0 c is.1.0

-- WHERE ch = ?1 AND day = ?2
pub batch_is_of : (c n : ℕ) (r : Row) → batch_table.IsRow r
    → keeps (of_nat c ∷ of_nat n ∷ []) (are_both_at 1 2) r ≡ is_batch_of c n (batch_of r)
batch_is_of c n r is =
    ap₂ ◌&&◌ (is_number (column r 1) (batch_of r).0 c is.1.0) (equals (column r 2) (batch_of r).1.day n is.1.1.0)

-- two rows tie where one has the other's key
pub batch_ties : (a b : ℕ × BatchRow) → is_eq (batch_cmp a b) ≡ is_batch a.0 a.1.day a.1.number b
batch_ties a b =
    both_eq _ _
    ∙ ap₂ ◌&&◌ (flipped a.0 b.0) (both_eq _ _ ∙ ap₂ ◌&&◌ (flipped a.1.day b.1.day) (flipped a.1.number b.1.number))

-- rows of one key tie
pub same_batch_ties : (c n k : ℕ) (a b : ℕ × BatchRow) → is_batch c n k a ≡ true → is_batch c n k b ≡ true
    → is_eq (batch_cmp a b) ≡ true
same_batch_ties c n k a b p q = batch_ties a b ∙ grind (arith, nat_tests, p, q)

-- the row that INSERT puts is the one that it was given
pub cast_new_batch : (t : ℕ × BatchRow) → cast_row batch (Null ∷ batch_row t) ≡ Null ∷ batch_row t
cast_new_batch t i = cast_null i ∷ cast_int (pos t.0) i ∷ cast_int (pos t.1.day) i ∷ cast_int (pos t.1.number) i ∷ []
