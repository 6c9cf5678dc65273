-- The texts of the statements on batches and their lines, and what they mean.
use Rattle.std.specs.Prelude.{ℕ, List, [], ◌∷◌, codes}
use Rattle.sqlite_value.specs.declared.keys.Key.{Key}
use Rattle.sqlite_value.specs.declared.value.Value.TheVariants.{Null}
use Rattle.sqlite_sql.specs.Term.{Term, lit, col}
use Rattle.sqlite_sql.specs.Query.{Query}
use Rattle.station_tables_records.specs.Plain.{plain_query, rising_key}
use Rattle.station_tables_records.proofs.DayTexts.{by_three}

-- All rows of a table, the rowid first, in the order of the key.

abbrev pub batches_text : List ℕ
batches_text = codes "SELECT rowid, ch, day, n FROM batch ORDER BY ch, day, n"

abbrev pub lines_text : List ℕ
lines_text =
    codes "SELECT rowid, ch, day, batch, line, pos, frames, src, src_first FROM aired ORDER BY ch, day, batch, line"

-- The same of one channel.

abbrev pub channel_batches_text : List ℕ
channel_batches_text = codes "SELECT rowid, ch, day, n FROM batch WHERE ch = ?1 ORDER BY ch, day, n"

abbrev pub channel_lines_text : List ℕ
channel_lines_text =
    codes
    "SELECT rowid, ch, day, batch, line, pos, frames, src, src_first FROM aired WHERE ch = ?1 ORDER BY ch, day, batch, line"

-- The same of one day.

abbrev pub batches_of_text : List ℕ
batches_of_text = codes "SELECT rowid, ch, day, n FROM batch WHERE ch = ?1 AND day = ?2 ORDER BY ch, day, n"

abbrev pub lines_of_text : List ℕ
lines_of_text =
    codes
    "SELECT rowid, ch, day, batch, line, pos, frames, src, src_first FROM aired WHERE ch = ?1 AND day = ?2 ORDER BY ch, day, batch, line"

-- One row.

abbrev pub insert_batch_text : List ℕ
insert_batch_text = codes "INSERT INTO batch (ch, day, n) VALUES (?1, ?2, ?3)"

abbrev pub insert_line_text : List ℕ
insert_line_text =
    codes
    "INSERT INTO aired (ch, day, batch, line, pos, frames, src, src_first) VALUES (?1, ?2, ?3, ?4, ?5, ?6, ?7, ?8)"

-- ORDER BY the first four columns (`col 1` is the row)
abbrev pub by_four : List (Term × Key)
by_four = (col 1 1, rising_key) ∷ (col 1 2, rising_key) ∷ (col 1 3, rising_key) ∷ (col 1 4, rising_key) ∷ []

-- What is shown, and what is put (`col 0` are the parameters from 0).

abbrev pub batch_columns : List Term
batch_columns = col 1 0 ∷ col 1 1 ∷ col 1 2 ∷ col 1 3 ∷ []

abbrev pub new_batch : List Term
new_batch = lit Null ∷ col 0 0 ∷ col 0 1 ∷ col 0 2 ∷ []

abbrev pub line_columns : List Term
line_columns = col 1 0 ∷ col 1 1 ∷ col 1 2 ∷ col 1 3 ∷ col 1 4 ∷ col 1 5 ∷ col 1 6 ∷ col 1 7 ∷ col 1 8 ∷ []

abbrev pub new_line : List Term
new_line = lit Null ∷ col 0 0 ∷ col 0 1 ∷ col 0 2 ∷ col 0 3 ∷ col 0 4 ∷ col 0 5 ∷ col 0 6 ∷ col 0 7 ∷ []

-- The queries: of all rows, and of those that pass.

abbrev pub batches_query : List Term → Query
batches_query terms = plain_query 18 terms batch_columns by_three

abbrev pub lines_query : List Term → Query
lines_query terms = plain_query 20 terms line_columns by_four
