-- The texts of the statements on days and items, and what they mean.
use Rattle.std.specs.Prelude.{ℕ, List, [], ◌∷◌, codes}
use Rattle.sqlite_value.specs.declared.keys.Collation.TheVariants.{Binary}
use Rattle.sqlite_value.specs.declared.keys.Key.{Key}
use Rattle.sqlite_value.specs.declared.value.Value.TheVariants.{Null}
use Rattle.sqlite_sql.specs.declared.ops.BinaryOp.TheVariants.{Compare}
use Rattle.sqlite_sql.specs.declared.ops.CompareOp.TheVariants.{Eq}
use Rattle.sqlite_sql.specs.Term.{Term, lit, col, op2}
use Rattle.sqlite_sql.specs.Query.{Query}
use Rattle.station_tables_records.specs.Plain.{plain_query, rising_key}
use Rattle.station_tables_records.proofs.Texts.{by_pair}

-- All rows of a table, the rowid first, in the order of the key.

abbrev pub days_text : List ℕ
days_text = codes "SELECT rowid, ch, day, sealed FROM day ORDER BY ch, day"

abbrev pub items_text : List ℕ
items_text = codes "SELECT rowid, ch, day, n, pos, frames, src, src_first, kind, mix FROM item ORDER BY ch, day, n"

-- The same of one channel, of days with numbers from one to another.

abbrev pub days_within_text : List ℕ
days_within_text =
    codes "SELECT rowid, ch, day, sealed FROM day WHERE ch = ?1 AND day BETWEEN ?2 AND ?3 ORDER BY ch, day"

abbrev pub items_within_text : List ℕ
items_within_text =
    codes
    "SELECT rowid, ch, day, n, pos, frames, src, src_first, kind, mix FROM item WHERE ch = ?1 AND day BETWEEN ?2 AND ?3 ORDER BY ch, day, n"

-- One row.

abbrev pub insert_day_text : List ℕ
insert_day_text = codes "INSERT INTO day (ch, day, sealed) VALUES (?1, ?2, ?3)"

abbrev pub set_sealed_text : List ℕ
set_sealed_text = codes "UPDATE day SET sealed = ?3 WHERE ch = ?1 AND day = ?2"

abbrev pub insert_item_text : List ℕ
insert_item_text =
    codes
    "INSERT INTO item (ch, day, n, pos, frames, src, src_first, kind, mix) VALUES (?1, ?2, ?3, ?4, ?5, ?6, ?7, ?8, ?9)"

abbrev pub delete_item_text : List ℕ
delete_item_text = codes "DELETE FROM item WHERE ch = ?1 AND day = ?2 AND n = ?3"

-- WHERE the first three columns are parameters 1, 2 and 3 (`col 1` is the row, `col 0` are the parameters from 0)
abbrev pub are_three : List Term
are_three =
    op2 (Compare Eq Binary) (col 1 1) (col 0 0) ∷ op2 (Compare Eq Binary) (col 1 2) (col 0 1)
    ∷ op2 (Compare Eq Binary) (col 1 3) (col 0 2) ∷ []

-- ORDER BY the first three columns
abbrev pub by_three : List (Term × Key)
by_three = (col 1 1, rising_key) ∷ (col 1 2, rising_key) ∷ (col 1 3, rising_key) ∷ []

-- What is shown, and what is put.

abbrev pub day_columns : List Term
day_columns = col 1 0 ∷ col 1 1 ∷ col 1 2 ∷ col 1 3 ∷ []

abbrev pub new_day : List Term
new_day = lit Null ∷ col 0 0 ∷ col 0 1 ∷ col 0 2 ∷ []

-- the row's rowid, and then the row that replaces it
abbrev pub set_day : List Term
set_day = col 1 0 ∷ col 1 0 ∷ col 1 1 ∷ col 1 2 ∷ col 0 2 ∷ []

abbrev pub item_columns : List Term
item_columns = col 1 0 ∷ col 1 1 ∷ col 1 2 ∷ col 1 3 ∷ col 1 4 ∷ col 1 5 ∷ col 1 6 ∷ col 1 7 ∷ col 1 8 ∷ col 1 9 ∷ []

abbrev pub new_item : List Term
new_item = lit Null ∷ col 0 0 ∷ col 0 1 ∷ col 0 2 ∷ col 0 3 ∷ col 0 4 ∷ col 0 5 ∷ col 0 6 ∷ col 0 7 ∷ col 0 8 ∷ []

-- the rowid of each row that is found
abbrev pub found_id : List Term
found_id = col 1 0 ∷ []

-- The queries: of all rows, and of those that pass.

abbrev pub days_query : List Term → Query
days_query terms = plain_query 13 terms day_columns by_pair

abbrev pub items_query : List Term → Query
items_query terms = plain_query 15 terms item_columns by_three
