-- What the tables stand for when they were made or opened.
use Rattle.std.proofs.Common.{◌≡◌, inl, true, false, true≢false, arith, List, [], ◌∷◌, length, sym, ap, ◌∙◌, subst}
use Rattle.std.specs.Prelude.{◌==◌}
use Rattle.std.proofs.lemmas.Bool.{eqb-true}
use Rattle.sqlite_trees.specs.declared.store.Store.{Ghosts}
use Rattle.sqlite.specs.State.{State}
use Rattle.channel_plan.specs.declared.plan.PlanRow.{PlanRow}
use Rattle.channel_view_model.specs.Centre.{Centre}
use Rattle.station_tables_records.specs.Schema.{no_schema}
use Rattle.station_tables_statements.specs.Rows.{BeginsBare, Stands, StandsFor, plan_in_order}
use Rattle.station_tables.specs.declared.connected.SqlRows.{SqlRows}
use Rattle.station_tables_opening.specs.declared.finding.Version.{Version}
use Rattle.station_tables_opening.specs.Opening.{HasTablesOf, rows_at}
use Rattle.station_tables_opening.specs.Left.{LeavesFound}
use Rattle.station_tables.specs.Store.{StandsWithPlan, store_plan, store_state}
use Rattle.station_tables_writing.specs.Tables.{LeavesDatabase}
use Rattle.playout_cli.specs.Kept.{BeginsWith}

-- with no plan row the database is that of a centre
pub begins_found : (plan : List PlanRow) (s : State) (rows : Centre) → (length plan == 0) ≡ true
    → BeginsWith plan s rows → (version : Version) × HasTablesOf version s × (rows ≡ rows_at version s.now.trees)
begins_found [] s rows empty begins = begins
begins_found (row ∷ plan) s rows empty begins = absurd (omega (arith, eqb-true (length (row ∷ plan)) 0 empty))

-- and with some it has no table
pub begins_bare : (plan : List PlanRow) (s : State) (rows : Centre) → (length plan == 0) ≡ false
    → BeginsWith plan s rows → BeginsBare no_schema s × (rows ≡ plan_in_order plan)
begins_bare [] s rows full begins = absurd (true≢false full)
begins_bare (row ∷ plan) s rows full begins = begins

pub stands_always : (s : State) (found rows : Centre) → Stands s found → rows ≡ found → StandsFor s rows
stands_always s found rows stands same clean o = subst (Stands s) (sym same) stands

-- a store that was made or opened keeps the plan of its rows
pub stands_with_plan : {S : Type 0} (g : Ghosts S) (s : SqlRows S g) (found rows : Centre)
    → Stands (store_state g s) found → store_plan g s ≡ found.channels → rows ≡ found → StandsWithPlan g s rows
stands_with_plan g s found rows stands kept same =
    (stands_always (store_state g s) found rows stands same, ap (λ (all : Centre). all.channels) same ∙ sym kept)

pub nothing_committed : (old new : State) → LeavesDatabase old new → LeavesFound old new
nothing_committed old new left =
    record { was_open = left.was_open; committed_is = λ opened. inl (left.committed_is opened) }
