-- The tables of version 1 as their set of rows: there an offer has no window.
use Rattle.std.specs.Prelude.{◌≡◌, pos, IsTrue}
use Rattle.sqlite_trees.specs.Tree.{Trees}
use Rattle.sqlite.specs.Effect.{Database, IsDatabase}
use Rattle.sqlite.specs.State.{State, HasCleanDisk}
use Rattle.station_tables_records.specs.Table.{rows_in, IsTypedIn}
use Rattle.channel_view_model.specs.Centre.{Centre}
use Rattle.channel_view_model.specs.Rules.{KeepsRules}
use Rattle.station_tables_records.specs.Schema.{first_schema}
use Rattle.station_tables_records.specs.ChannelRows.{channel_table}
use Rattle.station_tables_records.specs.TapeRows.{tape_table}
use Rattle.station_tables_records.specs.ClipRows.{clip_table}
use Rattle.station_tables_records.specs.OfferRows.{offer_table}
use Rattle.station_tables_records.specs.DayRows.{day_table}
use Rattle.station_tables_records.specs.ItemRows.{item_table}
use Rattle.station_tables_records.specs.BatchRows.{batch_table}
use Rattle.station_tables_records.specs.LineRows.{line_table}
use Rattle.station_tables_records.specs.TablePairs.{aired_rows_in}
use Rattle.station_tables_records.specs.MadeAirings.{HaveNoHoles}
use Rattle.station_tables_records.specs.OfficeRow.{HasVersion}
use Rattle.station_tables_statements.specs.Rows.{rows_with, OwnsItems}

-- the set that the tables hold
abbrev pub rows_of_first_tables : Trees → Centre
rows_of_first_tables trees = rows_with (rows_in offer_table trees) trees

-- The tables of a centre, of version 1, each row read as what it stands for.
pub record IsFirstCentre (db : Database) : Type 0 where
  pub schema : db.schema ≡ first_schema
  pub office : HasVersion (pos 1) (db.trees 0)
  pub channels : IsTypedIn channel_table db.trees
  pub tapes : IsTypedIn tape_table db.trees
  pub clips : IsTypedIn clip_table db.trees
  pub offers : IsTypedIn offer_table db.trees
  pub days : IsTypedIn day_table db.trees
  pub items : IsTypedIn item_table db.trees
  pub batches : IsTypedIn batch_table db.trees
  pub lines : IsTypedIn line_table db.trees

-- no row lies outside of the set: each item has its day, and batches and their lines have no holes
abbrev pub OwnsFirstRows : Trees → Type 0
OwnsFirstRows trees = OwnsItems trees × HaveNoHoles (aired_rows_in trees)

-- The database is a centre's of version 1, and holds this set, which keeps the rules; no row lies outside of it. It
-- lists its tables, and obeys them.
pub record HoldsFirstSet (rows : Centre) (db : Database) : Type 0 where
  pub first : IsFirstCentre db
  pub sound : IsDatabase db
  pub rows_are : rows_of_first_tables db.trees ≡ rows
  pub owned : OwnsFirstRows db.trees
  pub rules : KeepsRules rows

-- While the disk is clean and the store open, the database is a centre's of version 1, and holds this set.
abbrev pub HasFirstSet : State → Centre → Type 0
HasFirstSet s rows = HasCleanDisk s → IsTrue s.is_open → HoldsFirstSet rows s.now
