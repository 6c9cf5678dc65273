-- Part of the promise: what a store shows.
use Rattle.std.specs.Prelude.{◌≡◌, List}
use Rattle.sqlite_trees.specs.declared.store.Store.{Ghosts}
use Rattle.sqlite.specs.Held.{state}
use Rattle.sqlite.specs.State.{State}
use Rattle.channel_plan.specs.declared.plan.PlanRow.{PlanRow}
use Rattle.channel_view_model.specs.Centre.{Centre}
use Rattle.station_tables_statements.specs.Rows.{StandsFor}
use Rattle.station_tables.specs.declared.connected.SqlRows.{SqlRows}

-- what its connection shows
abbrev pub store_state : {S : Type 0} (g : Ghosts S) → SqlRows S g → State
store_state g s = state g s.conn

-- the rows of the plan that it keeps
abbrev pub store_plan : {S : Type 0} (g : Ghosts S) → SqlRows S g → List PlanRow
store_plan g s = s.plan.items

-- It stands for this set, of which it keeps the plan.
abbrev pub StandsWithPlan : {S : Type 0} (g : Ghosts S) → SqlRows S g → Centre → Type 0
StandsWithPlan g s rows = StandsFor (store_state g s) rows × (rows.channels ≡ store_plan g s)
