-- Part of the promise: the tables of a centre as its set of rows, and what a connection holds of them.
use Rattle.std.specs.Prelude.{◌≡◌, ℕ, pos, true, List, [], IsTrue}
use Rattle.std.specs.List.{list_all}
use Rattle.sqlite_schema.specs.declared.schema.Schema.{Schema}
use Rattle.sqlite_trees.specs.Tree.{Trees}
use Rattle.sqlite.specs.Effect.{Database, IsDatabase}
use Rattle.sqlite.specs.State.{State, HasCleanDisk, Shows}
use Rattle.sqlite_keyed.specs.Lists.{sort_by}
use Rattle.station_tables_records.specs.Table.{rows_in, IsTypedIn, IsBare}
use Rattle.channel_plan.specs.declared.plan.PlanRow.{PlanRow}
use Rattle.vault_core.specs.declared.tape.Tape.{Tape}
use Rattle.vault_core.specs.declared.clip.Clip.{Clip}
use Rattle.vault_core.specs.declared.offer.Offer.{Offer}
use Rattle.channel_view_model.specs.Centre.{Centre}
use Rattle.channel_view_model.specs.Rules.{KeepsRules}
use Rattle.station_tables_records.specs.Schema.{centre_schema}
use Rattle.station_tables_records.specs.TapeRows.{tape_table}
use Rattle.station_tables_records.specs.ClipRows.{clip_table}
use Rattle.station_tables_records.specs.OfferRows.{offer_table}
use Rattle.station_tables_records.specs.SpanRows.{span_table}
use Rattle.station_tables_records.specs.TablePairs.{aired_rows_in, day_rows_in, offer_rows_in}
use Rattle.station_tables_records.specs.MadeOffers.{offers_made, has_offer}
use Rattle.station_tables_records.specs.DayRows.{day_table}
use Rattle.station_tables_records.specs.ItemRows.{item_table}
use Rattle.station_tables_records.specs.BatchRows.{batch_table}
use Rattle.station_tables_records.specs.LineRows.{line_table}
use Rattle.station_tables_records.specs.MadeAirings.{airings_made, HaveNoHoles}
use Rattle.asrun_match.specs.declared.day.DayAsRun.{DayAsRun}
use Rattle.station_tables_records.specs.MadeDays.{days_made, has_day}
use Rattle.playlist_core.specs.Day.{Day}
use Rattle.station_tables_records.specs.ChannelRows.{channel_table, channel_cmp}
use Rattle.station_tables_records.specs.OfficeRow.{HasVersion}

-- the channels, in the order of their numbers
abbrev pub channels_in : Trees → List PlanRow
channels_in = rows_in channel_table

-- the tapes with their channels, in the order of the channels and of the numbers
abbrev pub tapes_in : Trees → List (ℕ × Tape)
tapes_in = rows_in tape_table

-- the clips with their channels, in the same order
abbrev pub clips_in : Trees → List (ℕ × Clip)
clips_in = rows_in clip_table

-- the offers that the rows of offers and of windows make, in the same order
abbrev pub offers_in : Trees → List (ℕ × Offer)
offers_in trees = offers_made (offer_rows_in trees)

-- the days that the rows of days and of items make, in the order of the channels and of the days
abbrev pub days_in : Trees → List (ℕ × Day)
days_in trees = days_made (channels_in trees) (day_rows_in trees)

-- what was aired by the rows of batches and of their lines, in the order of the channels and of the days
abbrev pub airings_in : Trees → List (ℕ × DayAsRun)
airings_in trees = airings_made (channels_in trees) (aired_rows_in trees)

-- the set that the tables hold, with these offers
abbrev pub rows_with : List (ℕ × Offer) → Trees → Centre
rows_with offers trees =
    record {
      channels = channels_in trees;
      tapes = tapes_in trees;
      clips = clips_in trees;
      offers = offers;
      days = days_in trees;
      aired = airings_in trees;
    }

-- the set that the tables hold
abbrev pub rows_of_tables : Trees → Centre
rows_of_tables trees = rows_with (offers_in trees) trees

-- The tables of a centre, of version 2, each row read as what it stands for.
pub record IsCentre (db : Database) : Type 0 where
  pub schema : db.schema ≡ centre_schema
  pub office : HasVersion (pos 2) (db.trees 0)
  pub channels : IsTypedIn channel_table db.trees
  pub tapes : IsTypedIn tape_table db.trees
  pub clips : IsTypedIn clip_table db.trees
  pub offers : IsTypedIn offer_table db.trees
  pub days : IsTypedIn day_table db.trees
  pub items : IsTypedIn item_table db.trees
  pub batches : IsTypedIn batch_table db.trees
  pub lines : IsTypedIn line_table db.trees
  pub spans : IsTypedIn span_table db.trees

-- the day of each item is there
abbrev pub OwnsItems : Trees → Type 0
OwnsItems trees = list_all (has_day (day_rows_in trees).days) (day_rows_in trees).items ≡ true

-- the offer of each window is there
abbrev pub OwnsSpans : Trees → Type 0
OwnsSpans trees = list_all (has_offer (offer_rows_in trees).offers) (offer_rows_in trees).spans ≡ true

-- no row lies outside of the set: each item has its day, batches and their lines have no holes, and each window has its
-- offer
abbrev pub OwnsRows : Trees → Type 0
OwnsRows trees = OwnsItems trees × HaveNoHoles (aired_rows_in trees) × OwnsSpans trees

-- The database is a centre's, and holds this set, which keeps the rules; no row lies outside of it. It lists its
-- tables, and obeys them.
pub record HoldsSet (rows : Centre) (db : Database) : Type 0 where
  pub centre : IsCentre db
  pub sound : IsDatabase db
  pub rows_are : rows_of_tables db.trees ≡ rows
  pub owned : OwnsRows db.trees
  pub rules : KeepsRules rows

-- The trees hold this set: with a centre's schema they are its database, whose tables they list. The version is 2, each
-- row is typed and none lies outside of the set, which keeps the rules.
abbrev pub Holds : Centre → Trees → Type 0
Holds rows trees = HoldsSet rows (record { schema = centre_schema; trees = trees })

-- While the disk is clean and the store open, the database is a centre's, and holds this set.
abbrev pub HasSet : State → Centre → Type 0
HasSet s rows = HasCleanDisk s → IsTrue s.is_open → HoldsSet rows s.now

-- The set is held, and all of it is committed.
pub record Stands (s : State) (rows : Centre) : Type 0 where
  pub holds : HoldsSet rows s.now
  pub committed : s.committed ≡ s.now

-- While the disk is clean and the store open, it stands for this set. A store that a fault of the disk has shut shows
-- nothing, so it stands for any.
abbrev pub StandsFor : State → Centre → Type 0
StandsFor s rows = HasCleanDisk s → IsTrue s.is_open → Stands s rows

-- Inside a transaction the set was changed so, and nothing was committed.
pub record Changes (change : Centre → Centre) (old new : State) : Type 0 where
  pub centre : IsCentre new.now
  pub content : rows_of_tables new.now.trees ≡ change (rows_of_tables old.now.trees)
  pub owned : OwnsRows old.now.trees → OwnsRows new.now.trees
  pub sound : IsDatabase old.now → IsDatabase new.now
  pub shown : Shows old new new.now old.committed true

-- While the disk is clean and the store open, the database has these tables and no row.
abbrev pub BeginsBare : Schema → State → Type 0
BeginsBare schema s = HasCleanDisk s → IsTrue s.is_open → IsBare schema s.now

-- The set with other tapes, clips, offers or channels.

abbrev pub on_tapes : (List (ℕ × Tape) → List (ℕ × Tape)) → Centre → Centre
on_tapes f rows = record rows { tapes = f rows.tapes }

abbrev pub on_clips : (List (ℕ × Clip) → List (ℕ × Clip)) → Centre → Centre
on_clips f rows = record rows { clips = f rows.clips }

abbrev pub on_offers : (List (ℕ × Offer) → List (ℕ × Offer)) → Centre → Centre
on_offers f rows = record rows { offers = f rows.offers }

abbrev pub on_channels : (List PlanRow → List PlanRow) → Centre → Centre
on_channels f rows = record rows { channels = f rows.channels }

abbrev pub no_rows : Centre
no_rows = record { channels = []; tapes = []; clips = []; offers = []; days = []; aired = [] }

-- the plan's channels in the order of their numbers, and nothing else
abbrev pub plan_in_order : List PlanRow → Centre
plan_in_order plan =
    record { channels = sort_by channel_cmp plan; tapes = []; clips = []; offers = []; days = []; aired = [] }
