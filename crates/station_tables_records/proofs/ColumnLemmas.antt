-- The columns of a row, and what a text shows of rows that have the columns of what they read as.
use Rattle.std.proofs.Common.{◌≡◌, ℕ, ℤ, suc, List, [], ◌∷◌, refl, sym, ap, ap₂, ◌∙◌}
use Rattle.sqlite_value.specs.declared.keys.Key.{Key}
use Rattle.sqlite_value.specs.declared.value.Value.TheVariants.{Int}
use Rattle.sqlite_value.specs.Order.{Row, column}
use Rattle.sqlite_trees.specs.Tree.{rowid}
use Rattle.sqlite_sql.specs.Term.{Term, eval_all}
use Rattle.sqlite_sql.specs.Query.{output, output_cmp}
use Rattle.sqlite_rules.specs.Edit.{id_in}
use Rattle.station_tables_records.specs.Plain.{plain_query}
use Rattle.station_tables_records.specs.Table.{TypedTable}
use Rattle.station_tables_records.proofs.SelectLemmas.{ShowsColumns}
use Rattle.station_tables_records.specs.Columns.{HasValues, HasColumns}

-- as many columns of the row as there are values, from column n on
abbrev pub columns_from : ℕ → Row → Row → Row
columns_from n r [] = []
columns_from n r (v ∷ vs) = column r n ∷ columns_from (suc n) r vs

values_are : (n : ℕ) (r vs : Row) → HasValues n r vs → columns_from n r vs ≡ vs
values_are n r [] has = refl
values_are n r (v ∷ vs) has = ap₂ ◌∷◌ has.0 (values_are (suc n) r vs has.1)

abbrev behind : Row → Row
behind [] = []
behind (v ∷ vs) = vs

have_values : (n : ℕ) (r vs : Row) → columns_from n r vs ≡ vs → HasValues n r vs
have_values n r [] are = tt
have_values n r (v ∷ vs) are = (ap (λ l. column l 0) are, have_values (suc n) r vs (ap behind are))

-- the rowid and the columns behind it
pub columns_are : (r columns : Row) → HasColumns r columns
    → column r 0 ∷ columns_from 1 r columns ≡ Int (id_in (column r 0)) ∷ columns
columns_are r columns has = values_are 0 r (Int (id_in (column r 0)) ∷ columns) has

-- one of these
pub column_is : (n : ℕ) (r columns : Row) → HasColumns r columns
    → column (column r 0 ∷ columns_from 1 r columns) n ≡ column (Int (id_in (column r 0)) ∷ columns) n
column_is n r columns has = ap (λ l. column l n) (columns_are r columns has)

-- a row that was put has the columns of what it reads as
pub has_put : {A : Type 0} (of : Row → A) (row : A → Row) (id : ℤ) (t u : A)
    → columns_from 1 (Int id ∷ row t) (row (of (Int id ∷ row t))) ≡ row u → of (Int id ∷ row t) ≡ u
    → HasColumns (Int id ∷ row t) (row (of (Int id ∷ row t)))
has_put of row id t u same again =
    have_values 0 (Int id ∷ row t) (Int id ∷ row (of (Int id ∷ row t)))
    (ap (λ l. Int id ∷ l) (same ∙ ap row (sym again)))

-- A text that shows the rowid and these columns, of rows that read as what is shown of them does.
abbrev pub shows_columns : {A : Type 0} (t : TypedTable A) (key row : A → Row) {project : List Term}
    {order : List (Term × Key)}
    → ((params r : Row) → t.IsRow r → t.IsRow (eval_all project (params ∷ r ∷ [])))
    → ((params r : Row) → t.IsRow (eval_all project (params ∷ r ∷ [])) → t.IsRow r)
    → ((params r : Row) → t.of (eval_all project (params ∷ r ∷ [])) ≡ t.of r)
    → ((params r : Row) → rowid (eval_all project (params ∷ r ∷ [])) ≡ rowid r)
    → ((id : ℤ) (r : Row) → t.IsRow r → t.of (Int id ∷ row (t.of r)) ≡ t.of r)
    → ((terms : List Term) (params r : Row) → t.IsRow r
    → output (plain_query t.base.tree terms project order) (params ∷ r ∷ [])
    ≡ (key (t.of r), Int (id_in (rowid r)) ∷ row (t.of r)))
    → ((terms : List Term) (i j : ℤ) (a b : A)
    → output_cmp (plain_query t.base.tree terms project order) (key a, Int i ∷ row a) (key b, Int j ∷ row b)
    ≡ t.cmp a b) → ShowsColumns t project order
shows_columns t key row still back same ids again shows orders =
    record {
      still = still;
      back = back;
      same = same;
      ids = ids;
      key = key;
      shown = λ id a. Int id ∷ row a;
      again =
          again;
      shows = shows;
      orders = orders;
    }
