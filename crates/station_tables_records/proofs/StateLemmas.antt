-- What a statement inside a transaction leaves of the last commit.
use Rattle.std.proofs.Common.{◌≡◌, ◌⊎◌, inl, inr, ℕ, List, Option, Some, None, Ok, Err, Result, IfErr, OnOk, IsTrue}
use Rattle.std.proofs.Common.{Bool, true, false, refl, sym, subst}
use Rattle.sqlite_value.specs.Order.{Row}
use Rattle.sqlite_schema.specs.declared.command.Returning.{Returning}
use Rattle.sqlite_resolve.specs.declared.compiled.Compiled.{Compiled}
use Rattle.sqlite.specs.declared.error.Error.{Error}
use Rattle.sqlite.specs.State.{State, IsUnchanged, Fails, KeepsCommit, FailsToShow, FailsToQuery, IsNotRun, IsTooLate}
use Rattle.sqlite.specs.State.{RunsCommand, Shown, ShowsRows, ExecutesInside, IsRolledBack}

module _ (old new : State) where
  pub kept_unchanged : IsUnchanged old new → KeepsCommit old new
  kept_unchanged u = record { was_open = λ _. u.0.was_open; committed = λ _. u.0.committed_is }

  pub kept_rolled_back : IsRolledBack old new → KeepsCommit old new
  kept_rolled_back r = record { was_open = r.was_open; committed = λ o. (r.undone o).1 }

  pub kept_failed : (T : Type 0) (e : Error) → Fails old new T e → KeepsCommit old new
  kept_failed T e f = kept_rolled_back f.3

  kept_not_run : (sql : List ℕ) (params : Row) (e : Error) → IsNotRun old new sql params e → KeepsCommit old new
  unfolding IsNotRun
  kept_not_run sql params e (inl h) = kept_unchanged h.1
  kept_not_run sql params e (inr f) = kept_failed _ e f

  kept_command : (sql : List ℕ) (c : Compiled) (params : Row) (e : Error) → RunsCommand old new sql c params (Err e)
      → KeepsCommit old new
  kept_command sql c params e (inl h) = kept_unchanged h.1
  kept_command sql c params e (inr f) = kept_failed _ e f

  kept_show : (sql : List ℕ) (c : Compiled) (params : Row) (e : Error) (o : Option Returning)
      → FailsToShow old new sql c params e o → KeepsCommit old new
  kept_show sql c params e None h = kept_unchanged h.3
  kept_show sql c params e (Some what) h = kept_command sql c params e h

  pub kept_query : (sql : List ℕ) (params : Row) (e : Error) → FailsToQuery sql params old new e → KeepsCommit old new
  unfolding FailsToQuery
  kept_query sql params e (inl h) = kept_not_run sql params e h
  kept_query sql params e (inr h) = kept_show sql h.0 _ e h.0.returning h.2

  pub kept_query_inside : (sql : List ℕ) (params : Row) (e : Error)
      → FailsToQuery sql params old new e ⊎ IsTooLate sql params old new e → KeepsCommit old new
  kept_query_inside sql params e (inl h) = kept_query sql params e h
  kept_query_inside sql params e (inr h) = kept_unchanged h.5

  pub kept_inside : (held : ℕ) (sql : List ℕ) (params : Row) (r : Result ℕ Error)
      → ExecutesInside held sql params old new r → KeepsCommit old new
  kept_inside held sql params (Ok count) h = record { was_open = λ _. h.1.was_open; committed = λ _. h.1.committed_is }
  kept_inside held sql params (Err e) (inl h) = elim h.1 [ inl u ↦ kept_unchanged u | inr r ↦ kept_rolled_back r ]
  kept_inside held sql params (Err e) (inr h) = kept_unchanged h.2

  shown_open : (sql : List ℕ) (c : Compiled) (params : Row) (rows : List Row) (o : Option Returning)
      → ShowsRows old new sql c params rows o → IsTrue old.is_open
  shown_open sql c params rows None h = h.3.0.was_open
  shown_open sql c params rows (Some what) h = h.1.shown.was_open

  pub was_open : (sql : List ℕ) (params : Row) (rows : List Row) → Shown sql params old new rows → IsTrue old.is_open
  unfolding Shown
  was_open sql params rows h = shown_open sql h.0 _ rows h.0.returning h.2

  -- of a call that reads, whatever it answers
  pub kept_result : {X : Type 0} (sql : List ℕ) (params : Row) (r : Result X Error) → OnOk r (IsUnchanged old new)
      → IfErr r (λ e. FailsToQuery sql params old new e ⊎ IsTooLate sql params old new e) → KeepsCommit old new
  kept_result sql params (Ok x) same fails = kept_unchanged same
  kept_result sql params (Err e) same fails = kept_query_inside sql params e fails

  -- a call of `Transaction::execute` that answered Ok ran its statement
  pub ran_inside : (sql : List ℕ) (params : Row) (r : Result ℕ Error) (P : Type 0) (ended : Error)
      → (old.in_transaction ≡ false → r ≡ Err ended)
      → (IsTrue old.in_transaction → ExecutesInside 0 sql params old new r)
      → ((count : ℕ) → ExecutesInside 0 sql params old new (Ok count) → P) → OnOk r P
  ran_inside sql params (Err e) P ended late runs f = tt
  ran_inside sql params (Ok count) P ended late runs f = go old.in_transaction refl
    where
      go : (b : Bool) → old.in_transaction ≡ b → P
      go true e = f count (runs e)
      go false e = absurd (let no = late e in cc)

  -- whatever it answered, nothing was committed
  pub kept_ran : (sql : List ℕ) (params : Row) (r : Result ℕ Error) → (old.in_transaction ≡ false → new ≡ old)
      → (IsTrue old.in_transaction → ExecutesInside 0 sql params old new r) → KeepsCommit old new
  kept_ran sql params r late runs = go old.in_transaction refl
    where
      go : (b : Bool) → old.in_transaction ≡ b → KeepsCommit old new
      go true e = kept_inside 0 sql params r (runs e)
      go false e = subst (KeepsCommit old) (sym (late e)) (record { was_open = λ o. o; committed = λ _. refl })
