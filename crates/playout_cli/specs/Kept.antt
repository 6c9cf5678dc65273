-- What a database stands for when a message comes.
use Rattle.std.specs.Prelude.{◌≡◌, List, [], ◌∷◌}
use Rattle.sqlite.specs.State.{State}
use Rattle.channel_plan.specs.declared.plan.PlanRow.{PlanRow}
use Rattle.channel_view_model.specs.Centre.{Centre}
use Rattle.station_tables_records.specs.Schema.{no_schema}
use Rattle.station_tables_statements.specs.Rows.{BeginsBare, plan_in_order}
use Rattle.station_tables_opening.specs.declared.finding.Version.{Version}
use Rattle.station_tables_opening.specs.Opening.{HasTablesOf, rows_at}

-- With plan rows it has no table, and the rows will be the plan alone. With none it has the tables of a centre, of
-- either version, and the rows are those that they hold.
abbrev pub BeginsWith : List PlanRow → State → Centre → Type 0
BeginsWith [] s rows = (version : Version) × HasTablesOf version s × (rows ≡ rows_at version s.now.trees)
BeginsWith (row ∷ plan) s rows = BeginsBare no_schema s × (rows ≡ plan_in_order (row ∷ plan))
