-- The texts of the statements, and what they mean.
use Rattle.std.specs.Prelude.{ℕ, List, [], ◌∷◌, codes, pos}
use Rattle.sqlite_value.specs.declared.keys.Collation.TheVariants.{Binary}
use Rattle.sqlite_value.specs.declared.keys.Key.{Key}
use Rattle.sqlite_value.specs.declared.value.Value.TheVariants.{Null, Int}
use Rattle.sqlite_sql.specs.declared.ops.BinaryOp.TheVariants.{Compare}
use Rattle.sqlite_sql.specs.declared.ops.CompareOp.TheVariants.{Eq, Ge, Le}
use Rattle.sqlite_sql.specs.Term.{Term, lit, col, op2}
use Rattle.sqlite_sql.specs.Query.{Query}
use Rattle.station_tables_records.specs.Plain.{plain_query, first_query, rising_key, falling_key}

-- The tables.

abbrev pub create_office_text : List ℕ
create_office_text =
    codes "CREATE TABLE office (one INTEGER NOT NULL PRIMARY KEY CHECK (one = 1), version INTEGER NOT NULL) STRICT"

abbrev pub create_channel_text : List ℕ
create_channel_text =
    codes
    "CREATE TABLE channel (ch INTEGER NOT NULL PRIMARY KEY CHECK (ch BETWEEN 1 AND 999), rate TEXT NOT NULL, start INTEGER NOT NULL, slots INTEGER NOT NULL CHECK (slots BETWEEN 1 AND 9999)) STRICT"

abbrev pub create_tape_text : List ℕ
create_tape_text =
    codes
    "CREATE TABLE tape (ch INTEGER NOT NULL, n INTEGER NOT NULL, barcode TEXT NOT NULL, slot INTEGER, PRIMARY KEY (ch, n), UNIQUE (ch, barcode), UNIQUE (ch, slot, n)) STRICT"

abbrev pub create_clip_text : List ℕ
create_clip_text =
    codes
    "CREATE TABLE clip (ch INTEGER NOT NULL, n INTEGER NOT NULL, tape INTEGER NOT NULL, title TEXT NOT NULL, umid BLOB NOT NULL, src_first INTEGER NOT NULL, frames INTEGER NOT NULL, retired INTEGER NOT NULL, PRIMARY KEY (ch, n), UNIQUE (ch, umid)) STRICT"

abbrev pub create_offer_text : List ℕ
create_offer_text =
    codes
    "CREATE TABLE offer (ch INTEGER NOT NULL, n INTEGER NOT NULL, grantee INTEGER NOT NULL, clip INTEGER NOT NULL, title TEXT NOT NULL, umid BLOB NOT NULL, rate TEXT NOT NULL, src_first INTEGER NOT NULL, frames INTEGER NOT NULL, withdrawn INTEGER NOT NULL, PRIMARY KEY (ch, n), UNIQUE (grantee, ch, n), UNIQUE (ch, clip, grantee, n)) STRICT"

abbrev pub create_day_text : List ℕ
create_day_text =
    codes
    "CREATE TABLE day (ch INTEGER NOT NULL, day INTEGER NOT NULL, sealed INTEGER NOT NULL, PRIMARY KEY (ch, day)) STRICT"

abbrev pub create_item_text : List ℕ
create_item_text =
    codes
    "CREATE TABLE item (ch INTEGER NOT NULL, day INTEGER NOT NULL, n INTEGER NOT NULL, pos INTEGER NOT NULL, frames INTEGER NOT NULL, src TEXT NOT NULL, src_first INTEGER NOT NULL, kind TEXT NOT NULL, mix INTEGER NOT NULL, PRIMARY KEY (ch, day, n), UNIQUE (ch, day, pos)) STRICT"

abbrev pub create_batch_text : List ℕ
create_batch_text =
    codes
    "CREATE TABLE batch (ch INTEGER NOT NULL, day INTEGER NOT NULL, n INTEGER NOT NULL, PRIMARY KEY (ch, day, n)) STRICT"

abbrev pub create_aired_text : List ℕ
create_aired_text =
    codes
    "CREATE TABLE aired (ch INTEGER NOT NULL, day INTEGER NOT NULL, batch INTEGER NOT NULL, line INTEGER NOT NULL, pos INTEGER NOT NULL, frames INTEGER NOT NULL, src TEXT NOT NULL, src_first INTEGER NOT NULL, PRIMARY KEY (ch, day, batch, line)) STRICT"

abbrev pub create_span_text : List ℕ
create_span_text =
    codes
    "CREATE TABLE span (ch INTEGER NOT NULL, n INTEGER NOT NULL, first_day INTEGER NOT NULL, last_day INTEGER NOT NULL, PRIMARY KEY (ch, n), CHECK (1 <= first_day AND first_day <= last_day AND last_day <= 99999)) STRICT"

-- All rows of a table, the rowid first, in the order of the key.

abbrev pub office_text : List ℕ
office_text = codes "SELECT rowid, one, version FROM office ORDER BY one"

abbrev pub channels_text : List ℕ
channels_text = codes "SELECT rowid, ch, rate, start, slots FROM channel ORDER BY ch"

abbrev pub tapes_text : List ℕ
tapes_text = codes "SELECT rowid, ch, n, barcode, slot FROM tape ORDER BY ch, n"

abbrev pub clips_text : List ℕ
clips_text = codes "SELECT rowid, ch, n, tape, title, umid, src_first, frames, retired FROM clip ORDER BY ch, n"

abbrev pub offers_text : List ℕ
offers_text =
    codes
    "SELECT rowid, ch, n, grantee, clip, title, umid, rate, src_first, frames, withdrawn FROM offer ORDER BY ch, n"

abbrev pub spans_text : List ℕ
spans_text = codes "SELECT rowid, ch, n, first_day, last_day FROM span ORDER BY ch, n"

-- The same of one channel.

abbrev pub channel_text : List ℕ
channel_text = codes "SELECT rowid, ch, rate, start, slots FROM channel WHERE ch = ?1 ORDER BY ch"

abbrev pub tapes_of_text : List ℕ
tapes_of_text = codes "SELECT rowid, ch, n, barcode, slot FROM tape WHERE ch = ?1 ORDER BY ch, n"

abbrev pub clips_of_text : List ℕ
clips_of_text =
    codes "SELECT rowid, ch, n, tape, title, umid, src_first, frames, retired FROM clip WHERE ch = ?1 ORDER BY ch, n"

abbrev pub offers_of_text : List ℕ
offers_of_text =
    codes
    "SELECT rowid, ch, n, grantee, clip, title, umid, rate, src_first, frames, withdrawn FROM offer WHERE ch = ?1 ORDER BY ch, n"

-- Of all channels the offers to one.

abbrev pub lent_text : List ℕ
lent_text =
    codes
    "SELECT rowid, ch, n, grantee, clip, title, umid, rate, src_first, frames, withdrawn FROM offer WHERE grantee = ?1 ORDER BY ch, n"

-- Of one channel the tape with a number, the one with a barcode, the one in a slot, and the last one.

abbrev pub tape_numbered_text : List ℕ
tape_numbered_text = codes "SELECT rowid, ch, n, barcode, slot FROM tape WHERE ch = ?1 AND n = ?2 ORDER BY ch, n"

abbrev pub tape_with_text : List ℕ
tape_with_text = codes "SELECT rowid, ch, n, barcode, slot FROM tape WHERE ch = ?1 AND barcode = ?2 ORDER BY ch, n"

abbrev pub tape_in_text : List ℕ
tape_in_text = codes "SELECT rowid, ch, n, barcode, slot FROM tape WHERE ch = ?1 AND slot = ?2 ORDER BY ch, n"

abbrev pub last_tape_text : List ℕ
last_tape_text = codes "SELECT rowid, ch, n, barcode, slot FROM tape WHERE ch = ?1 ORDER BY ch DESC, n DESC LIMIT 1"

-- Of one channel the clip with a number, the one with a UMID, and the last one.

abbrev pub clip_numbered_text : List ℕ
clip_numbered_text =
    codes
    "SELECT rowid, ch, n, tape, title, umid, src_first, frames, retired FROM clip WHERE ch = ?1 AND n = ?2 ORDER BY ch, n"

abbrev pub clip_with_text : List ℕ
clip_with_text =
    codes
    "SELECT rowid, ch, n, tape, title, umid, src_first, frames, retired FROM clip WHERE ch = ?1 AND umid = ?2 ORDER BY ch, n"

abbrev pub last_clip_text : List ℕ
last_clip_text =
    codes
    "SELECT rowid, ch, n, tape, title, umid, src_first, frames, retired FROM clip WHERE ch = ?1 ORDER BY ch DESC, n DESC LIMIT 1"

-- Of one channel the offer with a number, the open one of a clip to a grantee, and the last one.

abbrev pub offer_numbered_text : List ℕ
offer_numbered_text =
    codes
    "SELECT rowid, ch, n, grantee, clip, title, umid, rate, src_first, frames, withdrawn FROM offer WHERE ch = ?1 AND n = ?2 ORDER BY ch, n"

abbrev pub open_offer_text : List ℕ
open_offer_text =
    codes
    "SELECT rowid, ch, n, grantee, clip, title, umid, rate, src_first, frames, withdrawn FROM offer WHERE ch = ?1 AND clip = ?2 AND grantee = ?3 AND withdrawn = 0 ORDER BY ch, n"

abbrev pub last_offer_text : List ℕ
last_offer_text =
    codes
    "SELECT rowid, ch, n, grantee, clip, title, umid, rate, src_first, frames, withdrawn FROM offer WHERE ch = ?1 ORDER BY ch DESC, n DESC LIMIT 1"

-- The window of an offer.

abbrev pub span_of_text : List ℕ
span_of_text = codes "SELECT rowid, ch, n, first_day, last_day FROM span WHERE ch = ?1 AND n = ?2 ORDER BY ch, n"

-- Of one channel the tapes, the clips, or the offers, from one number to another.

abbrev pub tape_page_text : List ℕ
tape_page_text =
    codes "SELECT rowid, ch, n, barcode, slot FROM tape WHERE ch = ?1 AND n BETWEEN ?2 AND ?3 ORDER BY ch, n"

abbrev pub clip_page_text : List ℕ
clip_page_text =
    codes
    "SELECT rowid, ch, n, tape, title, umid, src_first, frames, retired FROM clip WHERE ch = ?1 AND n BETWEEN ?2 AND ?3 ORDER BY ch, n"

abbrev pub offer_page_text : List ℕ
offer_page_text =
    codes
    "SELECT rowid, ch, n, grantee, clip, title, umid, rate, src_first, frames, withdrawn FROM offer WHERE ch = ?1 AND n BETWEEN ?2 AND ?3 ORDER BY ch, n"

-- One row.

abbrev pub insert_office_text : List ℕ
insert_office_text = codes "INSERT INTO office (one, version) VALUES (1, 2)"

-- the version of a centre of version 1 that becomes one of version 2
abbrev pub set_version_text : List ℕ
set_version_text = codes "UPDATE office SET version = 2"

abbrev pub insert_channel_text : List ℕ
insert_channel_text = codes "INSERT INTO channel (ch, rate, start, slots) VALUES (?1, ?2, ?3, ?4)"

abbrev pub insert_tape_text : List ℕ
insert_tape_text = codes "INSERT INTO tape (ch, n, barcode, slot) VALUES (?1, ?2, ?3, ?4)"

abbrev pub change_tape_text : List ℕ
change_tape_text = codes "UPDATE tape SET barcode = ?3, slot = ?4 WHERE ch = ?1 AND n = ?2"

abbrev pub insert_clip_text : List ℕ
insert_clip_text =
    codes
    "INSERT INTO clip (ch, n, tape, title, umid, src_first, frames, retired) VALUES (?1, ?2, ?3, ?4, ?5, ?6, ?7, ?8)"

abbrev pub retire_clip_text : List ℕ
retire_clip_text = codes "UPDATE clip SET retired = 1 WHERE ch = ?1 AND n = ?2"

abbrev pub insert_offer_text : List ℕ
insert_offer_text =
    codes
    "INSERT INTO offer (ch, n, grantee, clip, title, umid, rate, src_first, frames, withdrawn) VALUES (?1, ?2, ?3, ?4, ?5, ?6, ?7, ?8, ?9, ?10)"

abbrev pub insert_span_text : List ℕ
insert_span_text = codes "INSERT INTO span (ch, n, first_day, last_day) VALUES (?1, ?2, ?3, ?4)"

abbrev pub withdraw_offer_text : List ℕ
withdraw_offer_text = codes "UPDATE offer SET withdrawn = 1 WHERE ch = ?1 AND n = ?2"

-- WHERE: column `place` is parameter 1 (`col 1` is the row, `col 0` are the parameters from 0)
abbrev pub is_first_at : ℕ → List Term
is_first_at place = op2 (Compare Eq Binary) (col 1 place) (col 0 0) ∷ []

-- the same, and column `other` is parameter 2
abbrev pub are_both_at : ℕ → ℕ → List Term
are_both_at place other =
    op2 (Compare Eq Binary) (col 1 place) (col 0 0) ∷ op2 (Compare Eq Binary) (col 1 other) (col 0 1) ∷ []

-- the same, and column `other` is from parameter 2 to parameter 3
abbrev pub are_within_at : ℕ → ℕ → List Term
are_within_at place other =
    op2 (Compare Eq Binary) (col 1 place) (col 0 0) ∷ op2 (Compare Ge Binary) (col 1 other) (col 0 1)
    ∷ op2 (Compare Le Binary) (col 1 other) (col 0 2) ∷ []

-- WHERE an offer is of channel 1, of clip 2, to channel 3, and not withdrawn
abbrev pub is_open_at : List Term
is_open_at =
    op2 (Compare Eq Binary) (col 1 1) (col 0 0) ∷ op2 (Compare Eq Binary) (col 1 4) (col 0 1)
    ∷ op2 (Compare Eq Binary) (col 1 3) (col 0 2)
    ∷ op2 (Compare Eq Binary) (col 1 10) (lit (Int (pos 0))) ∷ []

-- ORDER BY the rowid
abbrev pub by_id : List (Term × Key)
by_id = (col 1 0, rising_key) ∷ []

-- ORDER BY the first two columns
abbrev pub by_pair : List (Term × Key)
by_pair = (col 1 1, rising_key) ∷ (col 1 2, rising_key) ∷ []

-- the other way round
abbrev pub by_falling_pair : List (Term × Key)
by_falling_pair = (col 1 1, falling_key) ∷ (col 1 2, falling_key) ∷ []

-- What is shown, and what is put.

abbrev pub channel_columns : List Term
channel_columns = col 1 0 ∷ col 1 0 ∷ col 1 2 ∷ col 1 3 ∷ col 1 4 ∷ []

abbrev pub new_channel : List Term
new_channel = col 0 0 ∷ lit Null ∷ col 0 1 ∷ col 0 2 ∷ col 0 3 ∷ []

abbrev pub tape_columns : List Term
tape_columns = col 1 0 ∷ col 1 1 ∷ col 1 2 ∷ col 1 3 ∷ col 1 4 ∷ []

abbrev pub new_tape : List Term
new_tape = lit Null ∷ col 0 0 ∷ col 0 1 ∷ col 0 2 ∷ col 0 3 ∷ []

-- the row's rowid, and then the row that replaces it
abbrev pub changed_tape : List Term
changed_tape = col 1 0 ∷ col 1 0 ∷ col 1 1 ∷ col 1 2 ∷ col 0 2 ∷ col 0 3 ∷ []

abbrev pub clip_columns : List Term
clip_columns = col 1 0 ∷ col 1 1 ∷ col 1 2 ∷ col 1 3 ∷ col 1 4 ∷ col 1 5 ∷ col 1 6 ∷ col 1 7 ∷ col 1 8 ∷ []

abbrev pub new_clip : List Term
new_clip = lit Null ∷ col 0 0 ∷ col 0 1 ∷ col 0 2 ∷ col 0 3 ∷ col 0 4 ∷ col 0 5 ∷ col 0 6 ∷ col 0 7 ∷ []

-- the row's rowid, and then the row that replaces it
abbrev pub retired_clip : List Term
retired_clip =
    col 1 0 ∷ col 1 0 ∷ col 1 1 ∷ col 1 2 ∷ col 1 3 ∷ col 1 4 ∷ col 1 5 ∷ col 1 6 ∷ col 1 7 ∷ lit (Int (pos 1)) ∷ []

abbrev pub offer_columns : List Term
offer_columns =
    col 1 0 ∷ col 1 1 ∷ col 1 2 ∷ col 1 3 ∷ col 1 4 ∷ col 1 5 ∷ col 1 6 ∷ col 1 7 ∷ col 1 8 ∷ col 1 9 ∷ col 1 10 ∷ []

abbrev pub new_offer : List Term
new_offer =
    lit Null ∷ col 0 0 ∷ col 0 1 ∷ col 0 2 ∷ col 0 3 ∷ col 0 4 ∷ col 0 5 ∷ col 0 6 ∷ col 0 7 ∷ col 0 8 ∷ col 0 9 ∷ []

-- the row's rowid, and then the row that replaces it
abbrev pub withdrawn_offer : List Term
withdrawn_offer =
    col 1 0 ∷ col 1 0 ∷ col 1 1 ∷ col 1 2 ∷ col 1 3 ∷ col 1 4 ∷ col 1 5 ∷ col 1 6 ∷ col 1 7 ∷ col 1 8 ∷ col 1 9
    ∷ lit (Int (pos 1)) ∷ []

abbrev pub span_columns : List Term
span_columns = col 1 0 ∷ col 1 1 ∷ col 1 2 ∷ col 1 3 ∷ col 1 4 ∷ []

abbrev pub new_span : List Term
new_span = lit Null ∷ col 0 0 ∷ col 0 1 ∷ col 0 2 ∷ col 0 3 ∷ []

abbrev pub office_columns : List Term
office_columns = col 1 0 ∷ col 1 0 ∷ col 1 2 ∷ []

abbrev pub new_office : List Term
new_office = lit (Int (pos 1)) ∷ lit Null ∷ lit (Int (pos 2)) ∷ []

-- the row's rowid, and then the row that replaces it
abbrev pub risen_office : List Term
risen_office = col 1 0 ∷ col 1 0 ∷ lit Null ∷ lit (Int (pos 2)) ∷ []

-- The queries: of all rows, and of those that pass.

abbrev pub office_query : Query
office_query = plain_query 0 [] office_columns by_id

abbrev pub channels_query : List Term → Query
channels_query terms = plain_query 1 terms channel_columns by_id

abbrev pub tapes_query : List Term → Query
tapes_query terms = plain_query 2 terms tape_columns by_pair

abbrev pub last_tape_query : List Term → Query
last_tape_query terms = first_query 2 terms tape_columns by_falling_pair

abbrev pub clips_query : List Term → Query
clips_query terms = plain_query 6 terms clip_columns by_pair

abbrev pub last_clip_query : List Term → Query
last_clip_query terms = first_query 6 terms clip_columns by_falling_pair

abbrev pub offers_query : List Term → Query
offers_query terms = plain_query 9 terms offer_columns by_pair

abbrev pub last_offer_query : List Term → Query
last_offer_query terms = first_query 9 terms offer_columns by_falling_pair

abbrev pub spans_query : List Term → Query
spans_query terms = plain_query 22 terms span_columns by_pair
