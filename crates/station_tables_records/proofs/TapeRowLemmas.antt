-- Rows of `tape` and the tapes that they read as.
use Rattle.std.proofs.Common.{◌≡◌, ℕ, ℤ, pos, ◌&&◌, List, [], ◌∷◌, refl, ap, ap₂, ◌∙◌, take, ◌++◌}
use Rattle.sqlite_value.specs.declared.value.Value.{Value}
use Rattle.sqlite_value.specs.declared.value.Value.TheVariants.{Null, Int, Text as Words}
use Rattle.sqlite_value.specs.Order.{Row, column}
use Rattle.sqlite_trees.specs.Tree.{rowid}
use Rattle.sqlite_schema.specs.declared.schema.Kind.TheVariants.{Integer}
use Rattle.sqlite_rules.specs.Edit.{id_in}
use Rattle.sqlite_rules.specs.Cast.{cast, cast_row}
use Rattle.sqlite.specs.Values.{or_null}
use Rattle.station_tables_records.specs.Plain.{keeps}
use Rattle.station_tables_records.proofs.StatementLemmas.{cast_null, cast_int}
use Rattle.vault_core.specs.declared.tape.Tape.{Tape}
use Rattle.station_tables_records.specs.Schema.{tape}
use Rattle.station_tables_records.proofs.Texts.{are_both_at, tape_columns}
use Rattle.station_tables_records.specs.Values.{of_nat}
use Rattle.station_tables_records.specs.TapeRows.{tape_of, tape_row, tape_table, is_tape_with, is_tape_in}
use Rattle.station_tables_records.proofs.ColumnLemmas.{columns_are, column_is, has_put}
use Rattle.station_tables_records.proofs.NumberedLemmas.{NumbersRows, numbered_rows}
use Rattle.station_tables_records.proofs.ValueLemmas.{is_number, equals_text, equals_slot, maybe_again, cast_maybe}
pub use Rattle.station_tables_records.specs.AreTables.{tape_table_is}

-- a row that was put reads as its tape
pub tape_again : (id : ℤ) (t : ℕ × Tape) → tape_of (Int id ∷ tape_row t) ≡ t
tape_again id t i = (t.0, record t.1 { slot = maybe_again t.1.slot i })

pub is_tape_row : (id : ℤ) (t : ℕ × Tape) → tape_table.IsRow (Int id ∷ tape_row t)
is_tape_row id t = has_put tape_of tape_row id t t refl (tape_again id t)

-- what the texts show of it
pub tape_rows : NumbersRows (λ (t : Tape). t.n) tape_table tape_columns
tape_rows =
    numbered_rows tape_table tape_row tape_table_is (λ a b. refl) (λ params r is. is) (λ params r is. is)
    (λ params r. refl) (λ params r. refl) (λ id r is. tape_again id (tape_of r))
    (λ params r is. columns_are r (tape_row (tape_of r)) is) (λ r is. is.1.0) (λ r is. is.1.1.0)

-- WHERE ch = ?1 AND barcode = ?2
pub tape_is_with : (c : ℕ) (barcode : List ℕ) (r : Row) → tape_table.IsRow r
    → keeps (of_nat c ∷ Words barcode ∷ []) (are_both_at 1 3) r ≡ is_tape_with c barcode (tape_of r)
tape_is_with c barcode r is =
    ap₂ ◌&&◌ (is_number (column r 1) (tape_of r).0 c is.1.0)
    (equals_text (column r 3) (tape_of r).1.barcode barcode (column_is 3 r (tape_row (tape_of r)) is))

-- WHERE ch = ?1 AND slot = ?2
pub tape_is_in : (c slot : ℕ) (r : Row) → tape_table.IsRow r
    → keeps (of_nat c ∷ of_nat slot ∷ []) (are_both_at 1 4) r ≡ is_tape_in c slot (tape_of r)
tape_is_in c slot r is =
    ap₂ ◌&&◌ (is_number (column r 1) (tape_of r).0 c is.1.0)
    (equals_slot (column r 4) (tape_of r).1.slot slot (column_is 4 r (tape_row (tape_of r)) is))

-- a row of these columns is cast to itself
cast_tape : (first : Value) → cast Integer first ≡ first → (t : ℕ × Tape)
    → cast_row tape (first ∷ tape_row t) ≡ first ∷ tape_row t
cast_tape first same t i =
    same i ∷ cast_int (pos t.0) i ∷ cast_int (pos t.1.n) i ∷ Words t.1.barcode ∷ cast_maybe t.1.slot i ∷ []

-- the row that INSERT puts is the one that it was given
pub cast_new_tape : (t : ℕ × Tape) → cast_row tape (Null ∷ tape_row t) ≡ Null ∷ tape_row t
cast_new_tape = cast_tape Null cast_null

-- this tape in the place of one, with the number of that
abbrev pub in_place : Tape → ℕ × Tape → ℕ × Tape
in_place t u = (u.0, record t { n = u.1.n })

-- the row that UPDATE puts in the place of one is that of the tape in its place
pub cast_changed_tape : (found : Row) (t : Tape) → tape_table.IsRow found
    → cast_row tape (column found 0 ∷ column found 1 ∷ column found 2 ∷ Words t.barcode ∷ or_null of_nat t.slot ∷ [])
    ≡ Int (id_in (rowid found)) ∷ tape_row (in_place t (tape_of found))
cast_changed_tape found t is =
    ap (λ l. cast_row tape (take 3 l ++ Words t.barcode ∷ or_null of_nat t.slot ∷ []))
    (columns_are found (tape_row (tape_of found)) is)
    ∙ cast_tape (Int (id_in (rowid found))) (cast_int (id_in (rowid found))) (in_place t (tape_of found))
