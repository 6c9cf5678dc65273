-- What a stop left, as an open finds it.
use Rattle.std.proofs.Common.{◌≡◌, ◌≢◌, ◌⊎◌, inl, inr, ℤ, pos, IsTrue, refl, sym, subst}
use Rattle.sqlite_schema.specs.declared.schema.Schema.{Schema}
use Rattle.sqlite_trees.specs.Objects.{catalog_tree}
use Rattle.sqlite_trees.specs.Tree.{Trees}
use Rattle.sqlite_catalog.proofs.ReadLemmas.{lists_once}
use Rattle.sqlite.specs.Effect.{Database, IsDatabase}
use Rattle.sqlite.specs.State.{State, HasCleanDisk, IsLive}
use Rattle.channel_view_model.specs.Centre.{Centre}
use Rattle.channel_view_model.specs.Rules.{KeepsRules}
use Rattle.channel_plan.specs.declared.refusal.Code.{Code}
use Rattle.channel_plan.specs.declared.refusal.Code.TheVariants.{NotOurs, SchemaVersion, Unavailable}
use Rattle.station_tables_statements.specs.First.{IsFirstCentre}
use Rattle.station_tables_records.specs.OfficeRow.{HasVersion}
use Rattle.station_tables_statements.specs.Rows.{Holds, IsCentre}
use Rattle.station_tables_statements.specs.Standing.{IsFault}
use Rattle.station_tables_writing.specs.Tables.{LeavesSets}
use Rattle.station_tables_opening.specs.declared.finding.Version.{Version}
use Rattle.station_tables_opening.specs.declared.finding.Version.TheVariants.{First, Second}
use Rattle.station_tables_opening.specs.Opening.{HasTablesOf, IsCentreIn, IsCentreOf, database_in, rows_at}
use Rattle.station_tables_opening.specs.Opening.{schema_of}
use Rattle.station_tables_opening.proofs.FindLemmas.{known_version, one_version, version_in}
use Rattle.station_tables_opening.specs.Left.{HoldsAt, LeavesCentres}

-- the tables of a centre
pub tables_of : (version : Version) (db : Database) → IsCentreOf version db → db.schema ≡ schema_of version
tables_of First db is = is.0.schema
tables_of Second db is = is.0.schema

-- trees that hold a set are a centre
pub centre_in : (version : Version) (rows : Centre) (trees : Trees) → HoldsAt version rows trees
    → IsCentreIn version trees
centre_in First rows trees holds = (holds.first, holds.owned, subst KeepsRules (sym holds.rows_are) holds.rules)
centre_in Second rows trees holds = (holds.centre, holds.owned, subst KeepsRules (sym holds.rows_are) holds.rules)

-- and a centre's hold its set
pub holds_at : (version : Version) (db : Database) → IsDatabase db → IsCentreOf version db
    → HoldsAt version (rows_at version db.trees) db.trees
holds_at First db sound is =
    record {
      first = subst (λ (s : Schema). IsFirstCentre (record { schema = s; trees = db.trees })) is.0.schema is.0;
      sound =
          subst (λ (s : Schema). IsDatabase (record { schema = s; trees = db.trees })) is.0.schema sound;
      rows_are =
          refl;
      owned = is.1;
      rules = is.2;
    }
holds_at Second db sound is =
    record {
      centre = subst (λ (s : Schema). IsCentre (record { schema = s; trees = db.trees })) is.0.schema is.0;
      sound =
          subst (λ (s : Schema). IsDatabase (record { schema = s; trees = db.trees })) is.0.schema sound;
      rows_are =
          refl;
      owned = is.1;
      rules = is.2;
    }

pub rows_held : (version : Version) (rows : Centre) (trees : Trees) → HoldsAt version rows trees
    → rows_at version trees ≡ rows
rows_held First rows trees holds = holds.rows_are
rows_held Second rows trees holds = holds.rows_are

-- what a refused open of a centre may leave holds a set, where it did before
module _ (old : State) (live : IsLive old) (version : Version) (is : IsCentreOf version old.now)
    (early : HasCleanDisk old) (before : LeavesCentres old) where
  abbrev all : Centre
  all = rows_at version old.now.trees

  pub left_by : (db : Trees) → old.may_leave db ⊎ ((IsTrue old.is_open × (db ≡ old.now.trees)) ⊎ Holds all db)
      → (v : Version) × (rows : Centre) × HoldsAt v rows db
  left_by db (inl was) = before early db was
  left_by db (inr (inl found)) =
      (version, all, subst (HoldsAt version all) (sym found.1) (holds_at version old.now (live found.0).0 is))
  left_by db (inr (inr made)) = (Second, all, made)

-- trees that list two schemas list one
pub one_schema : (found : State) → IsLive found → (schema : Schema)
    → IsDatabase (record { schema = schema; trees = found.now.trees }) → IsTrue found.is_open
    → found.now.schema ≡ schema
one_schema found live schema sound opened =
    lists_once (found.now.trees catalog_tree) found.now.schema schema (live opened).0.lists sound.lists

-- and so those that hold a set list the tables of its version
pub sound_at : (version : Version) (rows : Centre) (trees : Trees) → HoldsAt version rows trees
    → IsDatabase (database_in version trees)
sound_at First rows trees holds = holds.sound
sound_at Second rows trees holds = holds.sound

pub found_tables : (found : State) → IsLive found → (version : Version) (rows : Centre)
    → HoldsAt version rows found.now.trees → HasTablesOf version found
found_tables found live version rows holds clean opened =
    one_schema found live (schema_of version) (sound_at version rows found.now.trees holds) opened

-- a refusal for neither cause is for want of memory, size or disk
pub only_short : (e : Code) → (e ≡ SchemaVersion) ⊎ IsFault e → (e ≡ SchemaVersion → ⊥) → (e ≡ NotOurs → ⊥)
    → e ≡ Unavailable
only_short e (inl version) other theirs = absurd (other version)
only_short e (inr (inl ours)) other theirs = absurd (theirs ours)
only_short e (inr (inr short)) other theirs = short

-- a centre has no other version
pub no_other : (version : Version) (db : Database) → IsCentreOf version db
    → (n : ℤ) × HasVersion n (db.trees 0) × (n ≢ pos 1) × (n ≢ pos 2) → ⊥
no_other version db is other =
    elim (known_version version other.0 (db.trees 0) (version_in version db is) other.1)
    [ inl first ↦ other.2 first | inr second ↦ other.3 second ]

-- of version 2 are the trees of a store
pub leaves_centres : (s : State) → LeavesSets s → LeavesCentres s
leaves_centres s sets clean db may = let held = sets clean db may in (Second, held.0, held.1)

pub second_held : (version : Version) (rows found : Centre) (trees : Trees) → HoldsAt version rows trees
    → Holds found trees → Holds rows trees
second_held First rows found trees holds other =
    absurd (let no : First ≡ Second = one_version First Second (trees 0) holds.first.office other.centre.office in cc)
second_held Second rows found trees holds other = holds
