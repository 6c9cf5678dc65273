-- What a connection finds of a centre's tables.
use Rattle.std.specs.Prelude.{◌≡◌, ◌≢◌, ◌⊎◌, ℤ, pos}
use Rattle.sqlite.specs.State.{State, HasCleanDisk, KeepsCommit}
use Rattle.channel_plan.specs.declared.refusal.Code.{Code}
use Rattle.channel_plan.specs.declared.refusal.Code.TheVariants.{NotOurs, SchemaVersion}
use Rattle.station_tables_records.specs.OfficeRow.{HasVersion}
use Rattle.station_tables_statements.specs.Calls.{HasFirstSchema, HasKnownSchema}
use Rattle.station_tables_statements.specs.Standing.{IsAlone, IsFault}
use Rattle.station_tables_opening.specs.declared.finding.Version.{Version}
use Rattle.station_tables_opening.specs.declared.finding.Version.TheVariants.{First}
use Rattle.station_tables_opening.specs.Opening.{CommitsShown, HasTablesOf, IsCentreIn, IsCentreOf, number_of}

-- The tables of a centre of this version were found, and all is committed.
pub record FindsCentre (old new : State) (version : Version) : Type 0 where
  pub rows : HasCleanDisk new → HasTablesOf version old → IsCentreOf version old.now
  pub same : HasCleanDisk new → CommitsShown old new
  pub office : HasKnownSchema old → HasCleanDisk new → HasVersion (number_of version) (old.now.trees 0)
  -- without the table of windows it is no centre of version 2
  pub missing : HasFirstSchema old → HasCleanDisk new → version ≡ First
  pub alone : HasCleanDisk new → IsAlone new

-- None was found, and nothing is committed.
pub record FindsNoCentre (old new : State) (e : Code) : Type 0 where
  pub codes : (e ≡ SchemaVersion) ⊎ IsFault e
  pub version : e ≡ SchemaVersion → HasKnownSchema old → HasCleanDisk new
      → (version : ℤ) × HasVersion version (old.now.trees 0) × (version ≢ pos 1) × (version ≢ pos 2)
  pub ours : e ≡ NotOurs → HasCleanDisk new → (version : Version) → HasTablesOf version old
      → IsCentreIn version old.now.trees → ⊥
  -- of another version than 1 and 2, that is what is said
  pub known : e ≡ NotOurs → HasKnownSchema old → HasCleanDisk new
      → (version : ℤ) → HasVersion version (old.now.trees 0) → (version ≡ pos 1) ⊎ (version ≡ pos 2)
  pub kept : HasCleanDisk new → KeepsCommit old new
