-- Rows of channels by their numbers: their order, what ties, what a text by key finds.
use Rattle.std.proofs.Common.{◌≡◌, ℕ, ℤ, ◌+◌, ◌*◌, List, [], Bool, true, false, cond, ◌&&◌, ◌∷◌, refl, ap₂, ◌∙◌, is_eq}
use Rattle.std.proofs.Common.{arith, nat_cmp, Equal}
use Rattle.std.specs.Ordering.{ordering_then}
use Rattle.std.proofs.lemmas.Bool.Decides.{nat_tests}
use Rattle.sqlite_value.specs.declared.value.Value.TheVariants.{Int}
use Rattle.sqlite_value.specs.Order.{Row, column, value_cmp}
use Rattle.sqlite_trees.specs.Tree.{rowid}
use Rattle.sqlite_sql.specs.Term.{Term, eval_all}
use Rattle.sqlite_rules.specs.Edit.{id_in}
use Rattle.sqlite.specs.State.{State, Shown}
use Rattle.station_tables_records.specs.Plain.{keeps, plain_query, first_query}
use Rattle.station_tables_records.specs.Table.{TypedTable, IsTable, IsTypedIn, ShowsPart, ShowsLast}
use Rattle.station_tables_records.proofs.Selects.{Selects}
use Rattle.station_tables_records.proofs.SelectLemmas.{ShowsColumns, shows_part}
use Rattle.station_tables_records.proofs.LastLemmas.{ShowsFalling, shows_last}
use Rattle.station_tables_records.specs.Values.{of_nat}
use Rattle.station_tables_records.proofs.Texts.{is_first_at, are_both_at, are_within_at, by_pair, by_falling_pair}
use Rattle.station_tables_records.specs.Numbered.{numbered_cmp, numbered_key, is_of, is_row, is_on_page}
use Rattle.station_tables_records.proofs.ColumnLemmas.{shows_columns}
use Rattle.station_tables_records.proofs.ValueLemmas.{then-Equal, nats_cmp, is_number, is_from, is_up_to, equals}
use Rattle.station_tables_records.proofs.ValueLemmas.{both_eq, flipped}

-- two columns that are numbers, in ORDER BY
pub pairs_cmp : (a b m n : ℕ)
    → ordering_then (value_cmp (of_nat a) (of_nat b)) (ordering_then (value_cmp (of_nat m) (of_nat n)) Equal)
    ≡ ordering_then (nat_cmp a b) (nat_cmp m n)
pairs_cmp a b m n = ap₂ ordering_then (nats_cmp a b) (then-Equal _ ∙ nats_cmp m n)

module _ {A : Type 0} (number : A → ℕ) where
  -- WHERE ch = ?1 AND n = ?2
  pub row_is : (c n : ℕ) (others r : Row) (a : ℕ × A) → column r 1 ≡ of_nat a.0 → column r 2 ≡ of_nat (number a.1)
      → keeps (of_nat c ∷ of_nat n ∷ others) (are_both_at 1 2) r ≡ is_row number c n a
  row_is c n others r a ch num = ap₂ ◌&&◌ (is_number (column r 1) a.0 c ch) (equals (column r 2) (number a.1) n num)

  -- two rows tie where one has the other's key
  pub row_ties : (a b : ℕ × A) → is_eq (numbered_cmp number a b) ≡ is_row number a.0 (number a.1) b
  row_ties a b = both_eq _ _ ∙ ap₂ ◌&&◌ (flipped a.0 b.0) (flipped (number a.1) (number b.1))

  -- rows of one key tie
  pub same_row : (c n : ℕ) (a b : ℕ × A) → is_row number c n a ≡ true → is_row number c n b ≡ true
      → is_eq (numbered_cmp number a b) ≡ true
  same_row c n a b p q = row_ties a b ∙ grind (arith, nat_tests, p, q)

  -- a change that leaves the numbers leaves the order
  module _ (p : ℕ × A → Bool) (f : A → A) (keeps_number : (x : A) → number (f x) ≡ number x) where
    channel_stays : (b : Bool) (a : ℕ × A) → (cond b (a.0, f a.1) a).0 ≡ a.0
    channel_stays true a = refl
    channel_stays false a = refl

    number_stays : (b : Bool) (a : ℕ × A) → number (cond b (a.0, f a.1) a).1 ≡ number a.1
    number_stays true a = keeps_number a.1
    number_stays false a = refl

    pub key_stays : (a b : ℕ × A)
        → numbered_cmp number (cond (p a) (a.0, f a.1) a) (cond (p b) (b.0, f b.1) b) ≡ numbered_cmp number a b
    key_stays a b =
        ap₂ ordering_then (ap₂ nat_cmp (channel_stays (p a) a) (channel_stays (p b) b))
        (ap₂ nat_cmp (number_stays (p a) a) (number_stays (p b) b))

-- what a text shows of each row
abbrev pub Columns : Type 0
Columns = List Term

-- What the texts of a table show of it, by the channel of a row and its number there.
pub record NumbersRows {A : Type 0} (number : A → ℕ) (t : TypedTable (ℕ × A)) (columns : Columns) : Type 0 where
  pub is_table : IsTable t
  pub shows : ShowsColumns t columns by_pair
  pub falls : ShowsFalling t shows by_falling_pair
  pub ch : (r : Row) → t.IsRow r → column r 1 ≡ of_nat (t.of r).0
  pub n : (r : Row) → t.IsRow r → column r 2 ≡ of_nat (number (t.of r).1)

-- They show the rowid and the columns of what a row reads as, the first two of which are the channel and the number.
pub numbered_rows : {A : Type 0} {number : A → ℕ} (t : TypedTable (ℕ × A)) {columns : Columns} (row : ℕ × A → Row)
    → IsTable t → ((a b : ℕ × A) → numbered_cmp number a b ≡ t.cmp a b)
    → ((params r : Row) → t.IsRow r → t.IsRow (eval_all columns (params ∷ r ∷ [])))
    → ((params r : Row) → t.IsRow (eval_all columns (params ∷ r ∷ [])) → t.IsRow r)
    → ((params r : Row) → t.of (eval_all columns (params ∷ r ∷ [])) ≡ t.of r)
    → ((params r : Row) → rowid (eval_all columns (params ∷ r ∷ [])) ≡ rowid r)
    → ((id : ℤ) (r : Row) → t.IsRow r → t.of (Int id ∷ row (t.of r)) ≡ t.of r)
    → ((params r : Row) → t.IsRow r → eval_all columns (params ∷ r ∷ []) ≡ Int (id_in (rowid r)) ∷ row (t.of r))
    → ((r : Row) → t.IsRow r → column r 1 ≡ of_nat (t.of r).0)
    → ((r : Row) → t.IsRow r → column r 2 ≡ of_nat (number (t.of r).1)) → NumbersRows number t columns
numbered_rows {number = number} t row is_table cmp still back same ids again shows ch n = record {
  is_table = is_table;
  shows =
      shows_columns t (numbered_key number) row still back same ids again
      (λ terms params r is i. (ch r is i ∷ n r is i ∷ [], shows params r is i))
      (λ terms i j a b. pairs_cmp a.0 b.0 (number a.1) (number b.1) ∙ cmp a b);
  falls =
      record {
        shows = λ terms params r is i. (ch r is i ∷ n r is i ∷ [], shows params r is i);
        orders =
            λ terms i j a b. pairs_cmp b.0 a.0 (number b.1) (number a.1) ∙ cmp b a;
      };
  ch = ch;
  n = n;
}

module _ {A : Type 0} {number : A → ℕ} {t : TypedTable (ℕ × A)} {columns : Columns}
    (rows_are : NumbersRows number t columns) where
  -- WHERE ch = ?1
  all_is : (c : ℕ) (r : Row) → t.IsRow r → keeps (of_nat c ∷ []) (is_first_at 1) r ≡ is_of c (t.of r)
  all_is c r is = equals (column r 1) (t.of r).0 c (rows_are.ch r is)

  -- WHERE ch = ?1 AND n = ?2
  pub one_is : (c n : ℕ) (others r : Row) → t.IsRow r
      → keeps (of_nat c ∷ of_nat n ∷ others) (are_both_at 1 2) r ≡ is_row number c n (t.of r)
  one_is c n others r is = row_is number c n others r (t.of r) (rows_are.ch r is) (rows_are.n r is)

  -- WHERE ch = ?1 AND n BETWEEN ?2 AND ?3
  page_is : (c p : ℕ) (r : Row) → t.IsRow r
      → keeps (of_nat c ∷ of_nat (p * 64 + 1) ∷ of_nat (p * 64 + 64) ∷ []) (are_within_at 1 2) r
      ≡ is_on_page number c p (t.of r)
  page_is c p r is =
      let n = rows_are.n r is in
      ap₂ ◌&&◌ (is_number (column r 1) (t.of r).0 c (rows_are.ch r is))
      (ap₂ ◌&&◌ (is_from (column r 2) (number (t.of r).1) (p * 64 + 1) n)
      (is_up_to (column r 2) (number (t.of r).1) (p * 64 + 64) n))

  module _ (old new : State) (has : old.now.schema ≡ t.schema) (typed : IsTypedIn t old.now.trees) {text : List ℕ} where
    pub shows_all : Selects t.schema text (plain_query t.base.tree (is_first_at 1) columns by_pair)
        → (c : ℕ) (rows : List Row) → Shown text (of_nat c ∷ []) old new rows → ShowsPart t (is_of c) rows old.now.trees
    shows_all selects c rows shown =
        shows_part t rows_are.is_table rows_are.shows old new has (of_nat c ∷ []) selects (is_of c) (all_is c) rows
        typed shown

    pub shows_page : Selects t.schema text (plain_query t.base.tree (are_within_at 1 2) columns by_pair)
        → (c p : ℕ) (rows : List Row)
        → Shown text (of_nat c ∷ of_nat (p * 64 + 1) ∷ of_nat (p * 64 + 64) ∷ []) old new rows
        → ShowsPart t (is_on_page number c p) rows old.now.trees
    shows_page selects c p rows shown =
        shows_part t rows_are.is_table rows_are.shows old new has
        (of_nat c ∷ of_nat (p * 64 + 1) ∷ of_nat (p * 64 + 64) ∷ []) selects (is_on_page number c p) (page_is c p) rows
        typed shown

    pub shows_one : Selects t.schema text (plain_query t.base.tree (are_both_at 1 2) columns by_pair)
        → (c n : ℕ) (rows : List Row) → Shown text (of_nat c ∷ of_nat n ∷ []) old new rows
        → ShowsPart t (is_row number c n) rows old.now.trees
    shows_one selects c n rows shown =
        shows_part t rows_are.is_table rows_are.shows old new has (of_nat c ∷ of_nat n ∷ []) selects (is_row number c n)
        (one_is c n []) rows typed shown

    pub last_shown : Selects t.schema text (first_query t.base.tree (is_first_at 1) columns by_falling_pair)
        → (c : ℕ) (rows : List Row) → Shown text (of_nat c ∷ []) old new rows → ShowsLast t (is_of c) rows old.now.trees
    last_shown selects c rows shown =
        shows_last t rows_are.is_table rows_are.shows rows_are.falls old new has (of_nat c ∷ []) selects (is_of c)
        (all_is c) rows typed shown
