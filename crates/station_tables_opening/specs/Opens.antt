-- Part of the promise: what an open leaves, and what its refusal says.
--
-- What an open of a database leaves, what its refusal says, and the same of making a centre in one.
use Rattle.std.specs.Prelude.{◌≡◌, ◌≢◌, ◌⊎◌, ℤ, pos, List, true, false}
use Rattle.sqlite_trees.specs.Tree.{Trees}
use Rattle.sqlite.specs.State.{State, HasCleanDisk}
use Rattle.channel_plan.specs.Plan.{is_plan}
use Rattle.channel_plan.specs.Refusal.{refused}
use Rattle.channel_plan.specs.declared.plan.PlanRow.{PlanRow}
use Rattle.channel_plan.specs.declared.refusal.Code.TheVariants.{NotOurs, PlanRow as OutOfPlan, SchemaVersion}
use Rattle.channel_plan.specs.declared.refusal.Code.TheVariants.{Unavailable}
use Rattle.channel_plan.specs.declared.refusal.Refusal.{Refusal}
use Rattle.channel_view_model.specs.Centre.{Centre}
use Rattle.station_tables_records.specs.OfficeRow.{HasVersion}
use Rattle.station_tables_records.specs.Schema.{no_schema}
use Rattle.station_tables_statements.specs.Calls.{HasCentreSchema, HasKnownSchema}
use Rattle.station_tables_statements.specs.Rows.{BeginsBare, Holds, Stands, plan_in_order}
use Rattle.station_tables_statements.specs.Standing.{IsAlone}
use Rattle.station_tables_writing.specs.Tables.{LeavesDatabase, LeavesSets, MayLeave}
use Rattle.station_tables_opening.specs.declared.finding.Version.{Version}
use Rattle.station_tables_opening.specs.Opening.{HasTablesOf, IsCentreIn, IsCentreOf, number_of, rows_at}
use Rattle.station_tables_opening.specs.Left.{LeavesCentres, LeavesFound}

-- What an open leaves.
pub record Opens (old new : State) : Type 0 where
  -- of a database with a centre's tables, of either version, it stands for the rows that they hold
  pub rows : (version : Version) → HasTablesOf version old → HasCleanDisk new
      → Stands new (rows_at version old.now.trees)
  -- and a stop leaves just these
  pub alone : (version : Version) → HasTablesOf version old → HasCleanDisk new
      → (left : Centre) → MayLeave new left → left ≡ rows_at version old.now.trees
  pub sets : (version : Version) → HasTablesOf version old → LeavesSets new
  -- whatever the database held, a stop leaves what is committed, and nothing else
  pub settled : HasCleanDisk new → IsAlone new
  -- what opens is of version 1 or 2
  pub found : HasKnownSchema old → HasCleanDisk new
      → (version : Version) × HasVersion (number_of version) (old.now.trees 0)

-- What the refusal of an open says, and what it leaves.
pub record RefusesToOpen (old new : State) (e : Refusal) : Type 0 where
  pub refusal : (e ≡ refused NotOurs) ⊎ ((e ≡ refused SchemaVersion) ⊎ (e ≡ refused Unavailable))
  -- the version is refused only where there is one, and another than 1 and 2
  pub version : e ≡ refused SchemaVersion → HasKnownSchema old → HasCleanDisk new
      → (version : ℤ) × HasVersion version (old.now.trees 0) × (version ≢ pos 1) × (version ≢ pos 2)
  -- a centre whose rows keep the rules, none of them outside of the set, opens, or memory, size or the disk ran out
  pub opens : HasCleanDisk new → (version : Version) → HasTablesOf version old → IsCentreIn version old.now.trees
      → e ≡ refused Unavailable
  -- it is never said to be none
  pub ours : e ≡ refused NotOurs → HasCleanDisk new → (version : Version) → HasTablesOf version old
      → IsCentreIn version old.now.trees → ⊥
  -- and of another version than 1 and 2 it is the version that is refused
  pub known : e ≡ refused NotOurs → HasKnownSchema old → HasCleanDisk new
      → (version : ℤ) → HasVersion version (old.now.trees 0) → (version ≡ pos 1) ⊎ (version ≡ pos 2)
  -- what is committed is what was, or what was found
  pub before : HasCleanDisk new → LeavesFound old new
  -- as one of another, or of another version, a stop leaves what it would have left before, or what was found
  pub others : (e ≡ refused NotOurs) ⊎ (e ≡ refused SchemaVersion) → HasCleanDisk new
      → (db : Trees) → new.may_leave db → old.may_leave db ⊎ (db ≡ old.now.trees)
  -- of a centre's tables, or the same set in those of version 2
  pub stop : (version : Version) → HasTablesOf version old → HasCleanDisk new → (db : Trees) → new.may_leave db
      → old.may_leave db ⊎ ((db ≡ old.now.trees) ⊎ Holds (rows_at version old.now.trees) db)
  -- so all that a stop may leave holds a set, where it did before
  pub centres : (version : Version) → IsCentreOf version old.now → LeavesCentres old → LeavesCentres new

-- What making a centre of this plan leaves.
pub record Creates (plan : List PlanRow) (old new : State) : Type 0 where
  -- of a database without tables, it stands for the plan alone, and a stop leaves just this
  pub rows : BeginsBare no_schema old → HasCleanDisk new → Stands new (plan_in_order plan)
  pub alone : BeginsBare no_schema old → HasCleanDisk new
      → (left : Centre) → MayLeave new left → left ≡ plan_in_order plan
  pub sets : BeginsBare no_schema old → LeavesSets new
  -- whatever the database held, a stop leaves what is committed, and nothing else
  pub settled : HasCleanDisk new → IsAlone new
  -- of a centre's tables, none are made
  pub taken : HasCentreSchema old → HasCleanDisk new → ⊥
  pub only_a_plan : is_plan plan ≡ true

-- What the refusal to make one says, and what it leaves.
pub record RefusesToCreate (plan : List PlanRow) (old new : State) (e : Refusal) : Type 0 where
  pub refusal : ((e ≡ refused OutOfPlan) × (is_plan plan ≡ false))
      ⊎ ((e ≡ refused NotOurs) ⊎ (e ≡ refused Unavailable))
  -- nothing was made, whatever the database held
  pub before : HasCleanDisk new → LeavesDatabase old new
  -- of another's tables, a stop leaves what it would have left before
  pub ours : e ≡ refused NotOurs → HasCleanDisk new → (db : Trees) → new.may_leave db → old.may_leave db
  -- of a database without tables, it leaves this or the whole plan
  pub stop : BeginsBare no_schema old → HasCleanDisk new → (db : Trees) → new.may_leave db
      → old.may_leave db ⊎ Holds (plan_in_order plan) db
