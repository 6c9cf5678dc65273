-- Part of the promise: what a call leaves of a database with the tables of a centre, and what a stop may leave.
use Rattle.std.specs.Prelude.{◌≡◌, ◌⊎◌, ℕ, Bool, true, false, List, [], ◌∷◌, Result, Ok, OnOk, IsTrue}
use Rattle.sqlite_trees.specs.Tree.{Trees}
use Rattle.sqlite_trees.specs.declared.store.Store.{Ghosts}
use Rattle.sqlite_schema.specs.declared.schema.Schema.{Schema}
use Rattle.sqlite_resolve.specs.declared.error.CompileError.TheVariants.{Exists}
use Rattle.sqlite.specs.declared.error.Error.{Error}
use Rattle.sqlite.specs.declared.error.Error.TheVariants.{SqlInputError, SqliteFailure}
use Rattle.sqlite.specs.declared.error.ErrorCode.TheVariants.{NameTaken}
use Rattle.sqlite.specs.declared.transaction.Transaction.{Transaction}
use Rattle.sqlite.specs.Effect.{IsDatabase}
use Rattle.sqlite.specs.State.{State, ExecutesInside, HasCleanDisk}
use Rattle.channel_view_model.specs.declared.command.Change.{Change}
use Rattle.channel_plan.specs.declared.plan.PlanRow.{PlanRow}
use Rattle.channel_plan.specs.Plan.{is_plan}
use Rattle.channel_view_model.specs.Centre.{Centre, IsChangeOf, changed}
use Rattle.station_tables_records.specs.Inside.{inside}
use Rattle.station_tables_records.specs.Table.{MakesBare}
use Rattle.station_tables_statements.specs.Rows.{BeginsBare, Changes, HasSet, Holds, HoldsSet, IsCentre, OwnsRows}
use Rattle.station_tables_statements.specs.Rows.{StandsFor, no_rows, plan_in_order, rows_of_tables}
use Rattle.station_tables_statements.specs.First.{HasFirstSet}
use Rattle.station_tables_statements.specs.Calls.{set_in}

-- Of each set that the database holds, and whose change this is, success has made the changed set.
abbrev pub MakesChange : {S X E : Type 0} → ℕ → Change → Ghosts S → Transaction S → Transaction S → Result X E → Type 0
MakesChange channel change g old new result = (rows : Centre) → HasSet (inside g old) rows
    → IsChangeOf channel change rows → HasCleanDisk (inside g new)
    → OnOk result (IsTrue (inside g new).is_open × HoldsSet (changed channel change rows) (inside g new).now)

-- Of each set that the connection stands for, and whose change this is.
abbrev pub WhereChangeFits : State → ℕ → Change → (Centre → Type 0) → Type 0
WhereChangeFits s channel change P = (rows : Centre) → StandsFor s rows → IsChangeOf channel change rows → P rows

-- No transaction is open, and the database is as it was last committed.
pub record LeavesCommitted (old new : State) : Type 0 where
  pub was_open : IsTrue new.is_open → IsTrue old.is_open
  pub now_is : IsTrue new.is_open → new.now ≡ old.committed
  pub committed_is : IsTrue new.is_open → new.committed ≡ old.committed

-- The database is as it was, or as it was last committed: nothing was made.
pub record LeavesDatabase (old new : State) : Type 0 where
  pub was_open : IsTrue new.is_open → IsTrue old.is_open
  pub now_is : IsTrue new.is_open → (new.now ≡ old.now) ⊎ (new.now ≡ old.committed)
  pub committed_is : IsTrue new.is_open → new.committed ≡ old.committed

-- A stop at this moment may leave these rows.
abbrev pub MayLeave : State → Centre → Type 0
MayLeave s rows = (db : Trees) × s.may_leave db × (rows_of_tables db ≡ rows)

-- While the disk is clean, whatever a stop may leave holds some set.
abbrev pub LeavesSets : State → Type 0
LeavesSets s = HasCleanDisk s → (db : Trees) → s.may_leave db → (rows : Centre) × Holds rows db

-- Inside a transaction: the tables of a centre, with no row but that of `office`.
pub record IsNewCentre (s : State) : Type 0 where
  pub is_open : IsTrue s.is_open
  pub centre : IsCentre s.now
  pub rows_are : set_in s ≡ no_rows
  pub owned : OwnsRows s.now.trees
  pub sound : IsDatabase s.now
  pub mode : s.in_transaction ≡ true

-- A text ran inside a transaction, which is still open.
pub record Ran (text : List ℕ) (old new : State) : Type 0 where
  pub was_clean : HasCleanDisk old
  pub count : ℕ
  pub ran : ExecutesInside 0 text [] old new (Ok count)

-- These texts ran, one after another.
abbrev pub RanAll : {S : Type 0} → Ghosts S → List (List ℕ) → Transaction S → Transaction S → Type 0
RanAll g [] old new = new ≡ old
RanAll g (text ∷ texts) old new =
    (mid : Transaction _) × Ran text (inside g old) (inside g mid) × RanAll g texts mid new

-- On a database that has the tables of the first schema and no row, success has made those of the second.
abbrev pub MakesTables : {S X E : Type 0} → Schema → Schema → Ghosts S → Transaction S → Transaction S → Result X E
    → Type 0
MakesTables before after g old new result = BeginsBare before (inside g old) → HasCleanDisk (inside g new)
    → OnOk result (MakesBare after (inside g old) (inside g new))

-- Of a plan, while the disk is clean, success has made its channels the set.
abbrev pub MakesPlan : {S X E : Type 0} → List PlanRow → Ghosts S → Transaction S → Transaction S → Result X E → Type 0
MakesPlan plan g old new result = is_plan plan ≡ true → HasCleanDisk (inside g new)
    → OnOk result (Changes (λ _. plan_in_order plan) (inside g old) (inside g new) × OwnsRows (inside g new).now.trees)

-- Of each set that a database of version 1 holds.
abbrev pub WhereFirstSet : State → (Centre → Type 0) → Type 0
WhereFirstSet s P = (rows : Centre) → HasFirstSet s rows → P rows

-- the name of a table is in use
abbrev pub is_taken : Error → Bool
is_taken (SqlInputError Exists) = true
is_taken (SqliteFailure NameTaken) = true
is_taken _ = false
