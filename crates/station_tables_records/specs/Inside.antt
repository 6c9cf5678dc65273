-- What a call leaves of a transaction and of its connection.
use Rattle.std.specs.Prelude.{◌≡◌, ◌⊎◌, Result, OnOk, IsTrue}
use Rattle.sqlite_trees.specs.declared.store.Store.{Ghosts}
use Rattle.sqlite.specs.declared.transaction.Transaction.{Transaction}
use Rattle.sqlite.specs.Held.{state}
use Rattle.sqlite.specs.State.{State, HasCleanDisk, IsUnchanged, KeepsCommit, Survives}

-- what its connection shows
abbrev pub inside : {S : Type 0} → Ghosts S → Transaction S → State
inside g tx = state g tx.conn.now

-- Nothing was committed, and a stop leaves nothing that it couldn't leave before. Success leaves the transaction open.
pub record Writes {S X E : Type 0} (g : Ghosts S) (old new : Transaction S) (result : Result X E) : Type 0 where
  pub same_reference : new.conn.ghost_name ≡ old.conn.ghost_name
  pub lasts : HasCleanDisk (inside g new) → IsTrue (inside g old).in_transaction
      → OnOk result (IsTrue (inside g new).in_transaction)
  pub kept : HasCleanDisk (inside g new) → KeepsCommit (inside g old) (inside g new)
  pub survives : Survives (inside g old) (inside g new) (λ _. ⊥)

-- So too, and at success nothing was changed.
pub record Reads {S X E : Type 0} (g : Ghosts S) (old new : Transaction S) (result : Result X E) : Type 0 where
  pub same_reference : new.conn.ghost_name ≡ old.conn.ghost_name
  pub same : HasCleanDisk (inside g new) → OnOk result (IsUnchanged (inside g old) (inside g new))
  pub kept : HasCleanDisk (inside g new) → KeepsCommit (inside g old) (inside g new)
  pub survives : Survives (inside g old) (inside g new) (λ _. ⊥)

-- Nothing was done, or nothing was changed.
abbrev pub IsSame : {S : Type 0} → Ghosts S → Transaction S → Transaction S → Type 0
IsSame g old new = (new.conn.now ≡ old.conn.now) ⊎ IsUnchanged (inside g old) (inside g new)

-- As `Reads`, of a call that may run no statement.
pub record Looks {S X E : Type 0} (g : Ghosts S) (old new : Transaction S) (result : Result X E) : Type 0 where
  pub same_reference : new.conn.ghost_name ≡ old.conn.ghost_name
  pub same : HasCleanDisk (inside g new) → OnOk result (IsSame g old new)
  pub kept : HasCleanDisk (inside g new) → KeepsCommit (inside g old) (inside g new)
  pub survives : Survives (inside g old) (inside g new) (λ _. ⊥)
