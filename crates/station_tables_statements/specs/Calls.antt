-- What a call inside a transaction says of the tables of a centre, and of the rows in them.
use Rattle.std.specs.Prelude.{◌≡◌, ◌⊎◌, ℕ, Result, OnOk, IsTrue, []}
use Rattle.sqlite_trees.specs.declared.store.Store.{Ghosts}
use Rattle.sqlite.specs.declared.transaction.Transaction.{Transaction}
use Rattle.sqlite.specs.State.{State, HasCleanDisk}
use Rattle.channel_plan.specs.declared.plan.PlanRow.{PlanRow}
use Rattle.vault_core.specs.declared.tape.Tape.{Tape}
use Rattle.vault_core.specs.declared.clip.Clip.{Clip}
use Rattle.vault_core.specs.declared.offer.Offer.{Offer}
use Rattle.channel_view_model.specs.Centre.{Centre}
use Rattle.station_tables_records.specs.Inside.{inside}
use Rattle.station_tables_records.specs.Schema.{first_schema, centre_schema}
use Rattle.station_tables_records.specs.Table.{LacksKeyOf}
use Rattle.station_tables_records.specs.ChannelRows.{channel_table}
use Rattle.station_tables_records.specs.TapeRows.{LacksTape}
use Rattle.station_tables_records.specs.ClipRows.{LacksClip}
use Rattle.station_tables_records.specs.OfferRows.{LacksOffer}
use Rattle.station_tables_records.specs.TablePairs.{offer_rows_in}
use Rattle.station_tables_records.specs.MadeOffers.{LacksSpan}
use Rattle.station_tables_statements.specs.Rows.{channels_in, tapes_in, clips_in, rows_of_tables, IsCentre, OwnsRows}
use Rattle.station_tables_statements.specs.Rows.{Changes}

-- While the disk is clean and the store open, the tables are those that a centre has.
abbrev pub HasCentreSchema : State → Type 0
HasCentreSchema s = HasCleanDisk s → IsTrue s.is_open → s.now.schema ≡ centre_schema

-- Of a call inside a transaction, on a database with a centre's tables, while the disk is clean.
abbrev pub WhileCleanTables : {S : Type 0} → Ghosts S → Transaction S → Transaction S → Type 0 → Type 0
WhileCleanTables g old new P = HasCentreSchema (inside g old) → HasCleanDisk (inside g new) → P

-- While the disk is clean and the store open, the tables are those that a centre of version 1 has.
abbrev pub HasFirstSchema : State → Type 0
HasFirstSchema s = HasCleanDisk s → IsTrue s.is_open → s.now.schema ≡ first_schema

-- While the disk is clean and the store open, the tables are those that a centre has, of this version or of version 1.
abbrev pub HasKnownSchema : State → Type 0
HasKnownSchema s = HasCleanDisk s → IsTrue s.is_open → (s.now.schema ≡ centre_schema) ⊎ (s.now.schema ≡ first_schema)

-- Of a call inside a transaction, on a database with the tables of a centre of either version, while the disk is clean.
abbrev pub WhileKnownTables : {S : Type 0} → Ghosts S → Transaction S → Transaction S → Type 0 → Type 0
WhileKnownTables g old new P = HasKnownSchema (inside g old) → HasCleanDisk (inside g new) → P

-- the set that a connection's tables hold
abbrev pub set_in : State → Centre
set_in s = rows_of_tables s.now.trees

-- While the disk is clean and the store open, the database is a centre.
abbrev pub HasCentre : State → Type 0
HasCentre s = HasCleanDisk s → IsTrue s.is_open → IsCentre s.now

-- While the disk is clean and the store open, no row lies outside of the set.
abbrev pub OwnsRowsNow : State → Type 0
OwnsRowsNow s = HasCleanDisk s → IsTrue s.is_open → OwnsRows s.now.trees

-- Of a call inside a transaction, on a centre, while the disk is clean.
abbrev pub WhileCleanCentre : {S : Type 0} → Ghosts S → Transaction S → Transaction S → Type 0 → Type 0
WhileCleanCentre g old new P = HasCentre (inside g old) → HasCleanDisk (inside g new) → P

-- On a centre, while the disk is clean, success has changed the set so.
abbrev pub Makes : {S X E : Type 0} → (Centre → Centre) → Ghosts S → Transaction S → Transaction S → Result X E → Type 0
Makes change g old new result = WhileCleanCentre g old new (OnOk result (Changes change (inside g old) (inside g new)))

-- While the disk is clean and the store open, no tape of the channel has this number.
abbrev pub LacksTapeNow : ℕ → Tape → State → Type 0
LacksTapeNow channel tape s = HasCleanDisk s → IsTrue s.is_open → LacksTape channel tape.n (tapes_in s.now.trees)

-- The same of a clip.
abbrev pub LacksClipNow : ℕ → Clip → State → Type 0
LacksClipNow channel clip s = HasCleanDisk s → IsTrue s.is_open → LacksClip channel clip.n (clips_in s.now.trees)

-- The same of an offer.
abbrev pub LacksOfferNow : ℕ → Offer → State → Type 0
LacksOfferNow channel offer s =
    HasCleanDisk s → IsTrue s.is_open → LacksOffer channel offer.n (offer_rows_in s.now.trees).offers

-- While the disk is clean and the store open, the offer of this number has no window.
abbrev pub LacksSpanNow : ℕ → ℕ → State → Type 0
LacksSpanNow channel offer s =
    HasCleanDisk s → IsTrue s.is_open → LacksSpan channel offer (offer_rows_in s.now.trees).spans

-- While the disk is clean and the store open, no channel has a day, and nothing was aired.
abbrev pub LacksDaysNow : State → Type 0
LacksDaysNow s = HasCleanDisk s → IsTrue s.is_open → ((set_in s).days ≡ []) × ((set_in s).aired ≡ [])

-- While the disk is clean and the store open, no channel has this one's number.
abbrev pub LacksChannelNow : PlanRow → State → Type 0
LacksChannelNow plan s = HasCleanDisk s → IsTrue s.is_open → LacksKeyOf channel_table plan (channels_in s.now.trees)
