-- Why the tables in a database are refused.
use Rattle.std.specs.Prelude.{◌≡◌, ◌⊎◌, List, [], ◌∷◌}
use Rattle.sqlite.specs.State.{State}
use Rattle.channel_plan.specs.declared.plan.PlanRow.{PlanRow}
use Rattle.channel_plan.specs.declared.refusal.Code.TheVariants as code
use Rattle.channel_plan.specs.declared.refusal.Refusal.{Refusal}
use Rattle.channel_plan.specs.Refusal.{refused}
use Rattle.station_tables_opening.specs.Opens.{RefusesToOpen, RefusesToCreate}

-- as they are opened: they aren't a centre's, their version is another, or memory, size or the disk ran out
abbrev pub IsOpenRefusal : Refusal → Type 0
IsOpenRefusal refusal =
    (refusal ≡ refused code.NotOurs) ⊎ ((refusal ≡ refused code.SchemaVersion) ⊎ (refusal ≡ refused code.Unavailable))

-- With plan rows they are made, with none those that are there are opened.
abbrev pub RefusesTables : List PlanRow → State → State → Refusal → Type 0
RefusesTables [] old new refusal = RefusesToOpen old new refusal
RefusesTables (row ∷ plan) old new refusal = RefusesToCreate (row ∷ plan) old new refusal
