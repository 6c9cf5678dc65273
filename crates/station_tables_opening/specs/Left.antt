-- Part of the promise: what an opening leaves, and what it finds that a stop left.
use Rattle.std.specs.Prelude.{◌≡◌, ◌⊎◌, IsTrue}
use Rattle.sqlite_trees.specs.Tree.{Trees}
use Rattle.sqlite.specs.State.{State, HasCleanDisk}
use Rattle.channel_view_model.specs.Centre.{Centre}
use Rattle.station_tables_statements.specs.First.{HoldsFirstSet}
use Rattle.station_tables_statements.specs.Rows.{Holds}
use Rattle.station_tables_records.specs.Schema.{first_schema}
use Rattle.station_tables_opening.specs.declared.finding.Version.{Version}
use Rattle.station_tables_opening.specs.declared.finding.Version.TheVariants.{First, Second}

-- Nothing was made: what is committed is what was, or what the database showed.
pub record LeavesFound (old new : State) : Type 0 where
  pub was_open : IsTrue new.is_open → IsTrue old.is_open
  pub committed_is : IsTrue new.is_open → (new.committed ≡ old.committed) ⊎ (new.committed ≡ old.now)

-- The trees hold this set, as those of a centre of this version.
abbrev pub HoldsAt : Version → Centre → Trees → Type 0
HoldsAt First rows trees = HoldsFirstSet rows (record { schema = first_schema; trees = trees })
HoldsAt Second rows trees = Holds rows trees

-- While the disk is clean, whatever a stop may leave holds some set, as a centre of either version.
abbrev pub LeavesCentres : State → Type 0
LeavesCentres s =
    HasCleanDisk s → (db : Trees) → s.may_leave db → (version : Version) × (rows : Centre) × HoldsAt version rows db

-- A connection finds what a stop of another may leave.
pub record FindsLeft (stopped found : State) : Type 0 where
  pub clean : HasCleanDisk stopped
  pub left : stopped.may_leave found.now.trees
