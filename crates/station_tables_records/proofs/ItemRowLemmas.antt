-- Rows of `item` and the items that they read as.
use Rattle.std.proofs.Common.{◌≡◌, ℕ, ℤ, pos, Bool, true, false, ◌&&◌, [], ◌∷◌, refl, sym, ap, ap₂, ◌∙◌, is_eq, arith}
use Rattle.std.specs.Prelude.{unwrap_or}
use Rattle.std.proofs.lemmas.Bool.Decides.{nat_tests}
use Rattle.sqlite_value.specs.declared.value.Value.TheVariants.{Null, Int, Text as Words}
use Rattle.sqlite_value.specs.Order.{Row, column}
use Rattle.sqlite_rules.specs.Cast.{cast_row}
use Rattle.playlist_core.specs.declared.source.Source.{Source}
use Rattle.playlist_core.specs.declared.source.Source.TheVariants.{Black}
use Rattle.playlist_core.specs.declared.item.EditKind.{EditKind}
use Rattle.playlist_core.specs.declared.item.EditKind.TheVariants.{Cut}
use Rattle.playlist_core.specs.Source.{source_reel, source_of_reel}
use Rattle.playlist_core.specs.Item.{kind_text, kind_of, is_kind}
use Rattle.station_tables_records.specs.declared.day_rows.ItemRow.{ItemRow}
use Rattle.station_tables_records.specs.MadeDays.{item_cmp, is_item_of, is_item_in, is_source, has_texts}
use Rattle.station_tables_records.proofs.ReelLemmas.{source_again, kind_again}
use Rattle.station_tables_records.specs.Plain.{keeps}
use Rattle.station_tables_records.proofs.StatementLemmas.{cast_null, cast_int}
use Rattle.station_tables_records.proofs.SelectLemmas.{ShowsColumns}
use Rattle.station_tables_records.specs.Schema.{item}
use Rattle.station_tables_records.proofs.Texts.{are_within_at}
use Rattle.station_tables_records.proofs.DayTexts.{item_columns, are_three, by_three}
use Rattle.station_tables_records.specs.Values.{of_nat, text_in}
use Rattle.station_tables_records.specs.ItemRows.{item_of, item_row, item_key, item_table}
use Rattle.station_tables_records.proofs.ColumnLemmas.{columns_are, column_is, has_put, shows_columns}
use Rattle.station_tables_records.proofs.BatchRowLemmas.{threes_cmp}
use Rattle.station_tables_records.proofs.ValueLemmas.{is_number, equals, is_from, is_up_to, both_eq, flipped}
pub use Rattle.station_tables_records.specs.AreTables.{item_table_is}

-- what a text names reads as it
pub source_back : (s : Source) → is_source s ≡ true → unwrap_or (source_of_reel (source_reel s)) Black ≡ s
source_back s is = ap (λ o. unwrap_or o Black) (source_again s is)

pub kind_back : (k : EditKind) → is_kind k ≡ true → unwrap_or (kind_of (kind_text k)) Cut ≡ k
kind_back k is = ap (λ o. unwrap_or o Cut) (kind_again k is)

first_text : (a b : Bool) → (a && b) ≡ true → a ≡ true
first_text true b both = refl
first_text false b both = both

second_text : (a b : Bool) → (a && b) ≡ true → b ≡ true
second_text true b both = both
second_text false b both = absurd (Rattle.std.proofs.Common.true≢false (sym both))

-- a row that was put reads as its item
pub item_again : (id : ℤ) (t : ℕ × ItemRow) → has_texts t.1.item ≡ true → item_of (Int id ∷ item_row t) ≡ t
item_again id t texts i = (
  t.0,
  record t.1 {
    item = record t.1.item {
      src = source_back t.1.item.src (first_text _ _ texts) i;
      kind = kind_back t.1.item.kind (second_text (is_source t.1.item.src) _ texts) i;
    };
  },
)

pub is_item_row : (id : ℤ) (t : ℕ × ItemRow) → has_texts t.1.item ≡ true → item_table.IsRow (Int id ∷ item_row t)
is_item_row id t texts = has_put item_of item_row id t t refl (item_again id t texts)

-- what is shown of a row reads as it does
shown_again : (id : ℤ) (r : Row) → item_table.IsRow r → item_of (Int id ∷ item_row (item_of r)) ≡ item_of r
shown_again id r is i = (
  (item_of r).0,
  record (item_of r).1 {
    item = record (item_of r).1.item {
      src = ap (λ v. unwrap_or (source_of_reel (text_in v)) Black) (sym (column_is 6 r (item_row (item_of r)) is)) i;
      kind = ap (λ v. unwrap_or (kind_of (text_in v)) Cut) (sym (column_is 8 r (item_row (item_of r)) is)) i;
    };
  },
)

-- what a text shows of it
pub item_columns_are : ShowsColumns item_table item_columns by_three
item_columns_are =
    shows_columns item_table item_key item_row (λ params r is. is) (λ params r is. is) (λ params r. refl)
    (λ params r. refl) shown_again
    (λ terms params r is i. (is.1.0 i ∷ is.1.1.0 i ∷ is.1.1.1.0 i ∷ [], columns_are r (item_row (item_of r)) is i))
    (λ terms i j a b. threes_cmp a.0 b.0 a.1.day b.1.day a.1.item.n b.1.item.n)

-- WHERE ch = ?1 AND day = ?2 AND n = ?3
pub item_is : (c n k : ℕ) (r : Row) → item_table.IsRow r
    → keeps (of_nat c ∷ of_nat n ∷ of_nat k ∷ []) are_three r ≡ is_item_of c n k (item_of r)
item_is c n k r is =
    ap₂ ◌&&◌ (is_number (column r 1) (item_of r).0 c is.1.0)
    (ap₂ ◌&&◌ (is_number (column r 2) (item_of r).1.day n is.1.1.0)
    (equals (column r 3) (item_of r).1.item.n k is.1.1.1.0))

-- WHERE ch = ?1 AND day BETWEEN ?2 AND ?3
pub item_is_within : (c first last : ℕ) (r : Row) → item_table.IsRow r
    → keeps (of_nat c ∷ of_nat first ∷ of_nat last ∷ []) (are_within_at 1 2) r ≡ is_item_in c first last (item_of r)
item_is_within c first last r is =
    ap₂ ◌&&◌ (is_number (column r 1) (item_of r).0 c is.1.0)
    (ap₂ ◌&&◌ (is_from (column r 2) (item_of r).1.day first is.1.1.0)
    (is_up_to (column r 2) (item_of r).1.day last is.1.1.0))

-- two rows tie where one has the other's key
pub item_ties : (a b : ℕ × ItemRow) → is_eq (item_cmp a b) ≡ is_item_of a.0 a.1.day a.1.item.n b
item_ties a b =
    both_eq _ _
    ∙ ap₂ ◌&&◌ (flipped a.0 b.0) (both_eq _ _ ∙ ap₂ ◌&&◌ (flipped a.1.day b.1.day) (flipped a.1.item.n b.1.item.n))

-- rows of one key tie
pub same_item_ties : (c n k : ℕ) (a b : ℕ × ItemRow) → is_item_of c n k a ≡ true → is_item_of c n k b ≡ true
    → is_eq (item_cmp a b) ≡ true
same_item_ties c n k a b p q = item_ties a b ∙ grind (arith, nat_tests, p, q)

-- the row that INSERT puts is the one that it was given
pub cast_new_item : (t : ℕ × ItemRow) → cast_row item (Null ∷ item_row t) ≡ Null ∷ item_row t
cast_new_item t i =
    cast_null i ∷ cast_int (pos t.0) i ∷ cast_int (pos t.1.day) i ∷ cast_int (pos t.1.item.n) i
    ∷ cast_int (pos t.1.item.pos) i ∷ cast_int (pos t.1.item.frames) i ∷ Words (source_reel t.1.item.src)
    ∷ cast_int (pos t.1.item.src_first) i ∷ Words (kind_text t.1.item.kind) ∷ cast_int (pos t.1.item.mix) i ∷ []
