-- What making the tables of version 1 those of version 2 leaves.
use Rattle.std.specs.Prelude.{◌≡◌}
use Rattle.sqlite.specs.State.{State, HasCleanDisk, Survives}
use Rattle.channel_plan.specs.declared.refusal.Code.{Code}
use Rattle.channel_plan.specs.declared.refusal.Code.TheVariants.{NotOurs}
use Rattle.station_tables_statements.specs.Calls.{HasCentreSchema, HasFirstSchema}
use Rattle.station_tables_statements.specs.Rows.{Stands}
use Rattle.station_tables_statements.specs.Standing.{IsAlone, IsFault}
use Rattle.station_tables_writing.specs.Tables.{LeavesCommitted, WhereFirstSet}

-- The tables of version 1 were made those of version 2.
pub record Migrates (old new : State) : Type 0 where
  pub ok : HasCleanDisk new → WhereFirstSet old (Stands new)
  pub alone : HasCleanDisk new → IsAlone new
  -- over the tables of version 2 none is made
  pub taken : HasCentreSchema old → HasCleanDisk new → ⊥

-- Nothing was made, whatever the database held.
pub record RefusesToMigrate (old new : State) (e : Code) : Type 0 where
  pub codes : IsFault e
  -- the tables of version 1 are never said to be another's
  pub free : e ≡ NotOurs → HasFirstSchema old → HasCleanDisk new → ⊥
  pub left : HasCleanDisk new → LeavesCommitted old new
  pub ours : e ≡ NotOurs → Survives old new (λ _. ⊥)
