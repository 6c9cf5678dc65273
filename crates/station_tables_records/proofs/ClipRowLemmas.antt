-- Rows of `clip` and the clips that they read as.
use Rattle.std.proofs.Common.{◌≡◌, ℕ, ℤ, pos, true, ◌&&◌, [], ◌∷◌, refl, ap, ap₂, ◌∙◌, IsTrue, take, ◌++◌}
use Rattle.sqlite_value.specs.declared.value.Value.{Value}
use Rattle.sqlite_value.specs.declared.value.Value.TheVariants.{Null, Int, Text as Words, Blob as Bytes}
use Rattle.sqlite_value.specs.Order.{Row, column}
use Rattle.sqlite_trees.specs.Tree.{rowid}
use Rattle.sqlite_schema.specs.declared.schema.Kind.TheVariants.{Integer}
use Rattle.sqlite_rules.specs.Edit.{id_in}
use Rattle.sqlite_rules.specs.Cast.{cast, cast_row}
use Rattle.station_tables_records.specs.Plain.{keeps}
use Rattle.station_tables_records.proofs.StatementLemmas.{cast_null, cast_int}
use Rattle.umid.specs.BasicUmid.{UmidParts, IsBasicUmid, is_umid, basic_umid, parts_in}
use Rattle.umid.proofs.UmidLemmas.{parts_in-basic_umid, IsBasicUmid-from_is_umid}
use Rattle.vault_core.specs.declared.clip.Clip.{Clip}
use Rattle.vault_core.specs.Clip.{umid_bytes}
use Rattle.station_tables_records.specs.Schema.{clip}
use Rattle.station_tables_records.proofs.Texts.{are_both_at, clip_columns}
use Rattle.station_tables_records.specs.Values.{of_nat}
use Rattle.station_tables_records.specs.ClipRows.{clip_of, clip_row, clip_table, is_clip_with}
use Rattle.station_tables_records.proofs.ColumnLemmas.{columns_are, column_is, has_put}
use Rattle.station_tables_records.proofs.NumberedLemmas.{NumbersRows, numbered_rows}
use Rattle.station_tables_records.proofs.ValueLemmas.{is_number, equals_bytes, bool_again, cast_bool}
pub use Rattle.station_tables_records.specs.AreTables.{clip_table_is}

-- a UMID's bytes
pub umid_again : (u : UmidParts) → parts_in (basic_umid u) ≡ u
umid_again = parts_in-basic_umid

pub umid_is : (u : UmidParts) → IsTrue (is_umid u) → IsBasicUmid (basic_umid u) u
umid_is = IsBasicUmid-from_is_umid

-- a row that was put reads as its clip
pub clip_again : (id : ℤ) (t : ℕ × Clip) → clip_of (Int id ∷ clip_row t) ≡ t
clip_again id t i = (t.0, record t.1 { umid = umid_again t.1.umid i; retired = bool_again t.1.retired i })

pub is_clip_row : (id : ℤ) (t : ℕ × Clip) → clip_table.IsRow (Int id ∷ clip_row t)
is_clip_row id t = has_put clip_of clip_row id t t refl (clip_again id t)

-- what the texts show of it
pub clip_rows : NumbersRows (λ (t : Clip). t.n) clip_table clip_columns
clip_rows =
    numbered_rows clip_table clip_row clip_table_is (λ a b. refl) (λ params r is. is) (λ params r is. is)
    (λ params r. refl) (λ params r. refl) (λ id r is. clip_again id (clip_of r))
    (λ params r is. columns_are r (clip_row (clip_of r)) is) (λ r is. is.1.0) (λ r is. is.1.1.0)

-- WHERE ch = ?1 AND umid = ?2
pub clip_is_with : (c : ℕ) (umid : UmidParts) (r : Row) → clip_table.IsRow r
    → keeps (of_nat c ∷ Bytes (basic_umid umid) ∷ []) (are_both_at 1 5) r ≡ is_clip_with c umid (clip_of r)
unfolding umid_bytes
clip_is_with c umid r is =
    ap₂ ◌&&◌ (is_number (column r 1) (clip_of r).0 c is.1.0)
    (equals_bytes (column r 5) (basic_umid (clip_of r).1.umid) (basic_umid umid)
    (column_is 5 r (clip_row (clip_of r)) is))

-- a row of these columns is cast to itself
cast_clip : (first : Value) → cast Integer first ≡ first → (t : ℕ × Clip)
    → cast_row clip (first ∷ clip_row t) ≡ first ∷ clip_row t
cast_clip first same t i =
    same i ∷ cast_int (pos t.0) i ∷ cast_int (pos t.1.n) i ∷ cast_int (pos t.1.tape) i ∷ Words t.1.title
    ∷ Bytes (basic_umid t.1.umid) ∷ cast_int (pos t.1.src_first) i ∷ cast_int (pos t.1.frames) i
    ∷ cast_bool t.1.retired i ∷ []

-- the row that INSERT puts is the one that it was given
pub cast_new_clip : (t : ℕ × Clip) → cast_row clip (Null ∷ clip_row t) ≡ Null ∷ clip_row t
cast_new_clip = cast_clip Null cast_null

-- the clip, retired
abbrev pub retired_one : ℕ × Clip → ℕ × Clip
retired_one t = (t.0, record t.1 { retired = true })

-- the row that UPDATE puts in the place of one is that of the clip, retired
pub cast_retired_clip : (found : Row) → clip_table.IsRow found
    → cast_row clip
    (column found 0 ∷ column found 1 ∷ column found 2 ∷ column found 3 ∷ column found 4 ∷ column found 5
    ∷ column found 6 ∷ column found 7 ∷ Int (pos 1) ∷ [])
    ≡ Int (id_in (rowid found)) ∷ clip_row (retired_one (clip_of found))
cast_retired_clip found is =
    ap (λ l. cast_row clip (take 8 l ++ Int (pos 1) ∷ [])) (columns_are found (clip_row (clip_of found)) is)
    ∙ cast_clip (Int (id_in (rowid found))) (cast_int (id_in (rowid found))) (retired_one (clip_of found))
