-- Two tables that are read and changed together, as those of days and of their items: what a connection holds of them,
-- and what is done to them.
use Rattle.std.specs.Prelude.{◌≡◌, ◌≢◌, true, List, IsTrue}
use Rattle.std.specs.List.{AllByRecursion}
use Rattle.sqlite_trees.specs.Tree.{Trees}
use Rattle.sqlite.specs.Effect.{Database, IsDatabase}
use Rattle.sqlite.specs.State.{State, HasCleanDisk, Shows}
use Rattle.station_tables_records.specs.Table.{TypedTable, rows_in, IsTypedIn}

-- The two, and one value of the rows of both.
pub record TwoTables (A B C : Type 0) : Type 1 where
  pub first : TypedTable A
  pub second : TypedTable B
  pub both : List A → List B → C

-- the rows of both, each in the order of its keys
abbrev pub rows_of_both : {A B C : Type 0} → TwoTables A B C → Trees → C
rows_of_both t trees = t.both (rows_in t.first trees) (rows_in t.second trees)

-- The database has the tables of their schema, and each row of these two reads as what it stands for.
pub record HasBoth {A B C : Type 0} (t : TwoTables A B C) (db : Database) : Type 0 where
  pub schema : db.schema ≡ t.first.schema
  pub first : IsTypedIn t.first db.trees
  pub second : IsTypedIn t.second db.trees

-- While the disk is clean and the store open, the database has them.
abbrev pub HasBothNow : {A B C : Type 0} → TwoTables A B C → State → Type 0
HasBothNow t s = HasCleanDisk s → IsTrue s.is_open → HasBoth t s.now

-- Inside a transaction the rows were changed so, and no other table; nothing was committed.
pub record ChangesBoth {A B C : Type 0} (t : TwoTables A B C) (change : C → C) (old new : State) : Type 0 where
  pub tables : HasBoth t new.now
  pub rows_are : rows_of_both t new.now.trees ≡ change (rows_of_both t old.now.trees)
  pub others : AllByRecursion
      (λ other. other.tree ≢ t.first.base.tree → other.tree ≢ t.second.base.tree
      → new.now.trees other.tree ≡ old.now.trees other.tree)
      t.first.schema.tables
  -- the database lists its tables and obeys them, where it did before
  pub sound : IsDatabase old.now → IsDatabase new.now
  pub shown : Shows old new new.now old.committed true

-- Inside a transaction of an open store, on these tables.
pub record IsAtBoth {A B C : Type 0} (t : TwoTables A B C) (s : State) : Type 0 where
  pub is_open : IsTrue s.is_open
  pub mode : s.in_transaction ≡ true
  pub tables : HasBoth t s.now
