-- Part of the promise: what is tested of a database before it is used as a centre.
use Rattle.std.specs.Prelude.{◌≡◌, ℕ, ℤ, pos, List, IsTrue}
use Rattle.sqlite_trees.specs.Tree.{Trees}
use Rattle.sqlite.specs.Effect.{Database}
use Rattle.sqlite_schema.specs.declared.schema.Schema.{Schema}
use Rattle.sqlite.specs.State.{State, HasCleanDisk}
use Rattle.vault_core.specs.declared.offer.Offer.{Offer}
use Rattle.channel_view_model.specs.Centre.{Centre}
use Rattle.channel_view_model.specs.Rules.{KeepsRules}
use Rattle.station_tables_records.specs.Table.{IsTypedIn, HoldsFitting, rows_in}
use Rattle.station_tables_records.specs.ChannelRows.{channel_table}
use Rattle.station_tables_records.specs.TapeRows.{tape_table}
use Rattle.station_tables_records.specs.ClipRows.{clip_table}
use Rattle.station_tables_records.specs.OfferRows.{offer_table}
use Rattle.station_tables_records.specs.SpanRows.{span_table, span_fits}
use Rattle.station_tables_records.specs.DayRows.{day_table}
use Rattle.station_tables_records.specs.ItemRows.{item_table}
use Rattle.station_tables_records.specs.BatchRows.{batch_table}
use Rattle.station_tables_records.specs.LineRows.{line_table}
use Rattle.station_tables_records.specs.TablePairs.{aired_rows_in}
use Rattle.station_tables_records.specs.Schema.{first_schema, centre_schema}
use Rattle.station_tables_statements.specs.Rows.{OwnsItems, OwnsRows, OwnsSpans, IsCentre}
use Rattle.station_tables_statements.specs.Rows.{offers_in, rows_of_tables, rows_with}
use Rattle.station_tables_statements.specs.First.{IsFirstCentre, OwnsFirstRows, rows_of_first_tables}
use Rattle.station_tables_records.specs.MadeAirings.{HaveNoHoles}
use Rattle.station_tables_opening.specs.declared.finding.Version.{Version}
use Rattle.station_tables_opening.specs.declared.finding.Version.TheVariants.{First, Second}

-- the number in the row of `office`
abbrev pub number_of : Version → ℤ
number_of First = pos 1
number_of Second = pos 2

-- its tables
abbrev pub schema_of : Version → Schema
schema_of First = first_schema
schema_of Second = centre_schema

-- While the disk is clean and the store open, the tables are those of this version.
abbrev pub HasTablesOf : Version → State → Type 0
HasTablesOf version s = HasCleanDisk s → IsTrue s.is_open → s.now.schema ≡ schema_of version

-- the offers that the tables hold: in version 1 none has a window
abbrev pub offers_at : Version → Trees → List (ℕ × Offer)
offers_at First trees = rows_in offer_table trees
offers_at Second trees = offers_in trees

-- the set that the tables hold
abbrev pub rows_at : Version → Trees → Centre
rows_at version trees = rows_with (offers_at version trees) trees

-- In version 2 the rows of windows are typed, and the offer of each is there.
abbrev pub OwnsWindows : Version → Trees → Type 0
OwnsWindows First trees = Unit
OwnsWindows Second trees = IsTypedIn span_table trees × OwnsSpans trees

-- the same, and their values all pass the test
abbrev pub FitWindows : Version → Trees → Type 0
FitWindows First trees = Unit
FitWindows Second trees = HoldsFitting span_table span_fits trees × OwnsSpans trees

-- The rows of the tables are typed, the day of each item is there, batches and their lines have no holes, the offer of
-- each window is there, and the set that they stand for keeps the rules.
abbrev pub HoldsRules : Version → Trees → Type 0
HoldsRules version trees =
    IsTypedIn channel_table trees × IsTypedIn tape_table trees × IsTypedIn clip_table trees
    × IsTypedIn offer_table trees × IsTypedIn day_table trees × IsTypedIn item_table trees × OwnsItems trees
    × IsTypedIn batch_table trees × IsTypedIn line_table trees × HaveNoHoles (aired_rows_in trees)
    × KeepsRules (rows_at version trees) × OwnsWindows version trees

-- It is a centre of this version, no row lies outside of its set, and the set keeps the rules.
abbrev pub IsCentreOf : Version → Database → Type 0
IsCentreOf First db = IsFirstCentre db × OwnsFirstRows db.trees × KeepsRules (rows_of_first_tables db.trees)
IsCentreOf Second db = IsCentre db × OwnsRows db.trees × KeepsRules (rows_of_tables db.trees)

-- these trees with the tables of this version
abbrev pub database_in : Version → Trees → Database
database_in version trees = record { schema = schema_of version; trees = trees }

-- With the tables of this version, the trees are such a centre.
abbrev pub IsCentreIn : Version → Trees → Type 0
IsCentreIn version trees = IsCentreOf version (database_in version trees)

-- What the database showed is committed.
pub record CommitsShown (old new : State) : Type 0 where
  pub was_open : IsTrue old.is_open
  pub now_is : new.now ≡ old.now
  pub committed_is : new.committed ≡ old.now
