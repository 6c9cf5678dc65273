-- A table whose rows read as typed rows, and what statements do to it.
use Rattle.std.specs.Prelude.{◌≡◌, ◌≢◌, ◌⊎◌, ◌↔◌, ℕ, Bool, true, false, List, [], map, filter, take, reverse, Some}
use Rattle.std.specs.Prelude.{slice_get}
use Rattle.std.specs.declared.cmp.Ordering.{Ordering}
use Rattle.std.specs.declared.cmp.Ordering.TheVariants.{Less}
use Rattle.std.specs.Ordering.{is_eq}
use Rattle.std.specs.Cmp.{IsTotalOrder}
use Rattle.std.specs.List.{AllByRecursion}
use Rattle.sqlite_value.specs.declared.value.Value.TheVariants.{Int}
use Rattle.sqlite_value.specs.Order.{Row}
use Rattle.sqlite_trees.specs.Tree.{Trees, rowid, IsAscending}
use Rattle.sqlite_schema.specs.declared.schema.Keys.{Keys}
use Rattle.sqlite_schema.specs.declared.schema.Table.{Table}
use Rattle.sqlite_schema.specs.declared.schema.Schema.{Schema}
use Rattle.sqlite_rules.specs.Action.{works}
use Rattle.sqlite_rules.specs.Edit.{id_in}
use Rattle.sqlite.specs.Effect.{Database, IsDatabase}
use Rattle.sqlite_trees.specs.declared.error.StoreError.{StoreError}
use Rattle.sqlite.specs.declared.error.Error.{Error}
use Rattle.sqlite.specs.declared.error.Error.TheVariants.{SqliteFailure}
use Rattle.sqlite.specs.declared.error.ErrorCode.TheVariants.{OperationInterrupted}
use Rattle.sqlite.specs.State.{State, Shows, store_error}
use Rattle.station_tables_records.specs.Content.{IsTyped, content}

-- a table with no AUTOINCREMENT, and no default that reads the time
abbrev pub plain_table : Table → Table
plain_table base = record base { is_counted = false; stamps = record { places = []; terms = []; formats = [] } }

pub record TypedTable (T : Type 0) : Type 1 where
  -- the schema that it stands in, its place among the tables there, and what the schema says of it
  pub schema : Schema
  pub place : ℕ
  pub base : Table
  -- a row as a typed row, and which rows read as one
  pub of : Row → T
  pub IsRow : Row → Type 0
  -- the order of the keys
  pub cmp : T → T → Ordering

-- what makes it a table: its keys are in a total order, the schema has it, no foreign key acts, and a row that reads
-- has a rowid
pub record IsTable {T : Type 0} (t : TypedTable T) : Type 0 where
  pub total : IsTotalOrder t.cmp
  pub there : slice_get t.schema.tables t.place ≡ Some (plain_table t.base)
  pub unworked : (keys : Keys) (tree : ℕ) (olds news : List Row) → works t.schema keys 0 tree olds news ≡ []
  pub numbered : (r : Row) → t.IsRow r → rowid r ≡ Int (id_in (rowid r))

-- its rows as typed rows, in the order of their keys
abbrev pub rows_in : {T : Type 0} → TypedTable T → Trees → List T
rows_in t db = content t.cmp t.of (db t.base.tree)

-- each of its rows reads, no rowid and no key comes twice
abbrev pub IsTypedIn : {T : Type 0} → TypedTable T → Trees → Type 0
IsTypedIn t db = IsTyped t.cmp t.of t.IsRow (db t.base.tree)

-- The table is typed, and its rows are this list, in the order of their keys.
pub record HoldsRows {T : Type 0} (t : TypedTable T) (list : List T) (trees : Trees) : Type 0 where
  pub typed : IsTypedIn t trees
  pub are : rows_in t trees ≡ list

-- The table is typed, and its values all pass the test.
pub record HoldsFitting {T : Type 0} (t : TypedTable T) (fits : T → Bool) (trees : Trees) : Type 0 where
  pub typed : IsTypedIn t trees
  pub fit : AllByRecursion (λ v. fits v ≡ true) (rows_in t trees)

-- These rows read as this list, in the order in which they stand: no rowid comes twice, and the keys rise.
pub record ReadAs {T : Type 0} (t : TypedTable T) (rows : List Row) (list : List T) : Type 0 where
  pub typed : IsTyped t.cmp t.of t.IsRow rows
  pub are : map t.of rows ≡ list
  pub rise : IsAscending (λ a b. t.cmp a b ≡ Less) list

-- They read as no list whose values all pass the test.
abbrev pub ReadAsNone : {T : Type 0} → TypedTable T → (T → Bool) → List Row → Type 0
ReadAsNone {T} t fits rows = (list : List T) → ReadAs t rows list → AllByRecursion (λ v. fits v ≡ true) list → ⊥

-- what a text without a filter shows of a table: rows that read as a list where the table holds it, and only there
abbrev pub ShowsTable : {T : Type 0} → TypedTable T → List Row → Trees → Type 0
ShowsTable {T} t rows trees = (list : List T) → ReadAs t rows list ↔ HoldsRows t list trees

-- what a text with a filter shows of a table: the rows that pass, in the order of their keys
abbrev pub ShowsPart : {T : Type 0} → TypedTable T → (T → Bool) → List Row → Trees → Type 0
ShowsPart t keep rows trees = map t.of rows ≡ filter keep (rows_in t trees)

-- what a text shows of a table that is limited to the last row that passes, in the order of their keys
abbrev pub ShowsLast : {T : Type 0} → TypedTable T → (T → Bool) → List Row → Trees → Type 0
ShowsLast t keep rows trees = map t.of rows ≡ take 1 (reverse (filter keep (rows_in t trees)))

-- no row has the key of this one
abbrev pub LacksKeyOf : {T : Type 0} → TypedTable T → T → List T → Type 0
LacksKeyOf t row rows = AllByRecursion (λ u. is_eq (t.cmp row u) ≡ false) rows

-- A statement inside a transaction changed the table's rows so, and no other table; nothing was committed.
pub record ChangesTable {T : Type 0} (t : TypedTable T) (change : List T → List T) (old new : State) : Type 0 where
  pub schema_is : new.now.schema ≡ t.schema
  pub typed : IsTypedIn t new.now.trees
  pub rows_are : rows_in t new.now.trees ≡ change (rows_in t old.now.trees)
  pub others : AllByRecursion (λ u. u.tree ≢ t.base.tree → new.now.trees u.tree ≡ old.now.trees u.tree) t.schema.tables
  -- the database lists its tables, and obeys them
  pub sound : IsDatabase new.now
  pub shown : Shows old new new.now old.committed true

-- the tables of a schema, without a row
pub record IsBare (schema : Schema) (db : Database) : Type 0 where
  pub schema_is : db.schema ≡ schema
  pub empty : AllByRecursion (λ t. db.trees t.tree ≡ []) schema.tables

-- A statement inside a transaction left these tables, without a row; nothing was committed.
pub record MakesBare (schema : Schema) (old new : State) : Type 0 where
  pub bare : IsBare schema new.now
  pub sound : IsDatabase new.now
  pub shown : Shows old new new.now old.committed true

-- memory, size or the disk ran out, or a limit on steps was reached
abbrev pub IsShortage : Error → Type 0
IsShortage e = ((cause : StoreError) × (e ≡ store_error cause)) ⊎ (e ≡ SqliteFailure OperationInterrupted)
