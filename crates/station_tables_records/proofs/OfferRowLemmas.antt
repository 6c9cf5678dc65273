-- Rows of `offer` and the offers that they read as.
use Rattle.std.proofs.Common.{◌≡◌, ℕ, ℤ, pos, Bool, true, false, ◌&&◌, [], ◌∷◌, None, refl, ap, ap₂, ◌∙◌, take, ◌++◌}
use Rattle.std.specs.Prelude.{not, ◌==◌}
use Rattle.sqlite_value.specs.declared.value.Value.{Value}
use Rattle.sqlite_value.specs.declared.value.Value.TheVariants.{Null, Int, Text as Words, Blob as Bytes}
use Rattle.sqlite_value.specs.declared.keys.Collation.TheVariants.{Binary}
use Rattle.sqlite_value.specs.Order.{Row, column}
use Rattle.sqlite_sql.specs.Ops.{binary, is_true}
use Rattle.sqlite_sql.specs.declared.ops.BinaryOp.TheVariants.{Compare}
use Rattle.sqlite_sql.specs.declared.ops.CompareOp.TheVariants.{Eq}
use Rattle.sqlite_trees.specs.Tree.{rowid}
use Rattle.sqlite_schema.specs.declared.schema.Kind.TheVariants.{Integer}
use Rattle.sqlite_rules.specs.Edit.{id_in}
use Rattle.sqlite_rules.specs.Cast.{cast, cast_row}
use Rattle.timecode.specs.Rate.{rate_text}
use Rattle.station_tables_records.specs.Plain.{keeps}
use Rattle.station_tables_records.proofs.StatementLemmas.{cast_null, cast_int}
use Rattle.umid.specs.BasicUmid.{basic_umid}
use Rattle.vault_core.specs.declared.offer.Offer.{Offer}
use Rattle.station_tables_records.specs.Schema.{offer}
use Rattle.station_tables_records.proofs.Texts.{is_first_at, is_open_at, offer_columns}
use Rattle.station_tables_records.specs.Values.{of_nat, of_bool}
use Rattle.station_tables_records.specs.OfferRows.{offer_of, offer_row, offer_table, is_offer_open, is_offer_to}
use Rattle.station_tables_records.proofs.ColumnLemmas.{columns_are, column_is, has_put}
use Rattle.station_tables_records.proofs.NumberedLemmas.{NumbersRows, numbered_rows}
use Rattle.station_tables_records.proofs.ChannelRowLemmas.{rate_back}
use Rattle.station_tables_records.proofs.ClipRowLemmas.{umid_again}
use Rattle.station_tables_records.proofs.ValueLemmas.{is_number, equals, bool_again, cast_bool}
pub use Rattle.station_tables_records.specs.AreTables.{offer_table_is}

-- a row that was put reads as its offer, without the window
pub offer_again : (id : ℤ) (t : ℕ × Offer) → offer_of (Int id ∷ offer_row t) ≡ (t.0, record t.1 { window = None })
offer_again id t i = (
  t.0,
  record t.1 {
    umid = umid_again t.1.umid i;
    rate = rate_back t.1.rate i;
    window = None;
    withdrawn =
        bool_again t.1.withdrawn i;
  },
)

pub is_offer_row : (id : ℤ) (t : ℕ × Offer) → offer_table.IsRow (Int id ∷ offer_row t)
is_offer_row id t = has_put offer_of offer_row id t (t.0, record t.1 { window = None }) refl (offer_again id t)

-- what the texts show of it
pub offer_rows : NumbersRows (λ (t : Offer). t.n) offer_table offer_columns
offer_rows =
    numbered_rows offer_table offer_row offer_table_is (λ a b. refl) (λ params r is. is) (λ params r is. is)
    (λ params r. refl) (λ params r. refl) (λ id r is. offer_again id (offer_of r))
    (λ params r is. columns_are r (offer_row (offer_of r)) is) (λ r is. is.1.0) (λ r is. is.1.1.0)

-- WHERE grantee = ?1
pub offer_is_to : (grantee : ℕ) (r : Row) → offer_table.IsRow r
    → keeps (of_nat grantee ∷ []) (is_first_at 3) r ≡ is_offer_to grantee (offer_of r)
offer_is_to grantee r is =
    equals (column r 3) (offer_of r).1.grantee grantee (column_is 3 r (offer_row (offer_of r)) is)

-- withdrawn = 0
not_withdrawn : (value : Value) (b : Bool) → value ≡ of_bool b
    → is_true (binary (Compare Eq Binary) value (of_nat 0)) && true ≡ not b
not_withdrawn value true is = equals value 1 0 is
not_withdrawn value false is = equals value 0 0 is

open_last : (a b c d : Bool) → (a && (b && (c && d))) ≡ (a && (d && (b && c)))
open_last true true true d = open_end d
  where
    open_end : (d : Bool) → d ≡ (d && true)
    open_end true = refl
    open_end false = refl
open_last true true false d = never d
  where
    never : (d : Bool) → false ≡ (d && false)
    never true = refl
    never false = refl
open_last true false c d = never d
  where
    never : (d : Bool) → false ≡ (d && false)
    never true = refl
    never false = refl
open_last false b c d = refl

-- WHERE ch = ?1 AND clip = ?2 AND grantee = ?3 AND withdrawn = 0
pub offer_is_open : (c clip grantee : ℕ) (r : Row) → offer_table.IsRow r
    → keeps (of_nat c ∷ of_nat clip ∷ of_nat grantee ∷ []) is_open_at r ≡ is_offer_open c clip grantee (offer_of r)
offer_is_open c clip grantee r is =
    let columns = offer_row (offer_of r) in
    ap₂ ◌&&◌ (is_number (column r 1) (offer_of r).0 c is.1.0)
    (ap₂ ◌&&◌ (is_number (column r 4) (offer_of r).1.clip clip (column_is 4 r columns is))
    (ap₂ ◌&&◌ (is_number (column r 3) (offer_of r).1.grantee grantee (column_is 3 r columns is))
    (not_withdrawn (column r 10) (offer_of r).1.withdrawn (column_is 10 r columns is))))
    ∙ open_last ((offer_of r).0 == c) ((offer_of r).1.clip == clip) ((offer_of r).1.grantee == grantee)
    (not (offer_of r).1.withdrawn)

-- a row of these columns is cast to itself
cast_offer : (first : Value) → cast Integer first ≡ first → (t : ℕ × Offer)
    → cast_row offer (first ∷ offer_row t) ≡ first ∷ offer_row t
cast_offer first same t i =
    same i ∷ cast_int (pos t.0) i ∷ cast_int (pos t.1.n) i ∷ cast_int (pos t.1.grantee) i ∷ cast_int (pos t.1.clip) i
    ∷ Words t.1.title
    ∷ Bytes (basic_umid t.1.umid) ∷ Words (rate_text t.1.rate) ∷ cast_int (pos t.1.src_first) i
    ∷ cast_int (pos t.1.frames) i ∷ cast_bool t.1.withdrawn i ∷ []

-- the row that INSERT puts is the one that it was given
pub cast_new_offer : (t : ℕ × Offer) → cast_row offer (Null ∷ offer_row t) ≡ Null ∷ offer_row t
cast_new_offer = cast_offer Null cast_null

-- the offer, withdrawn
abbrev pub withdrawn_one : ℕ × Offer → ℕ × Offer
withdrawn_one t = (t.0, record t.1 { withdrawn = true })

-- the row that UPDATE puts in the place of one is that of the offer, withdrawn
pub cast_withdrawn_offer : (found : Row) → offer_table.IsRow found
    → cast_row offer
    (column found 0 ∷ column found 1 ∷ column found 2 ∷ column found 3 ∷ column found 4 ∷ column found 5
    ∷ column found 6 ∷ column found 7 ∷ column found 8 ∷ column found 9 ∷ Int (pos 1) ∷ [])
    ≡ Int (id_in (rowid found)) ∷ offer_row (withdrawn_one (offer_of found))
cast_withdrawn_offer found is =
    ap (λ l. cast_row offer (take 10 l ++ Int (pos 1) ∷ [])) (columns_are found (offer_row (offer_of found)) is)
    ∙ cast_offer (Int (id_in (rowid found))) (cast_int (id_in (rowid found))) (withdrawn_one (offer_of found))
