-- What was asked of a table, by what its text shows.
use Rattle.std.proofs.Common.{◌≡◌, ◌⊎◌, inl, inr, ℕ, Bool, List, map, Option, Some, None, Result, IfOk, IfErr, IsTrue}
use Rattle.std.proofs.Common.{refl, sym, ◌∙◌, arith}
use Rattle.std.specs.Prelude.{IfSome, IfNone}
use Rattle.std.proofs.lemmas.Option.{IfSome_then}
use Rattle.std.proofs.lemmas.Result.{IfOk-weaker, IfErr-weaker}
use Rattle.sqlite_value.specs.Order.{Row}
use Rattle.sqlite_trees.specs.declared.store.Store.{Ghosts}
use Rattle.sqlite.specs.declared.transaction.Transaction.{Transaction}
use Rattle.sqlite.specs.declared.error.Error.{Error}
use Rattle.sqlite.specs.State.{HasCleanDisk, Shown, FailsToQuery, IsTooLate}
use Rattle.station_tables_records.specs.Table.{TypedTable, ShowsTable, HoldsRows, HoldsFitting, IsShortage, rows_in}
use Rattle.station_tables_records.specs.Inside.{inside, Reads}
use Rattle.station_tables_records.specs.Asking.{Answers, AnswersNone, FailsToAsk}
use Rattle.station_tables_records.proofs.StateLemmas.{was_open}

module _ {S X E T : Type 0} (g : Ghosts S) (old new : Transaction S) {result : Result X E}
    (reads : Reads g old new result) (clean : HasCleanDisk (inside g new))
    {t : TypedTable T} {text : List ℕ} {params : Row} {list : List T}
    (answers : Answers t text params (inside g old) (inside g new) list) where
  -- what follows from what was shown, where the disk was clean and the store open
  abbrev Follows : (List Row → Type 0) → Type 0
  Follows P =
      HasCleanDisk (inside g old) → IsTrue (inside g old).is_open → (rows : List Row)
      → Shown text params (inside g old) (inside g new) rows → P rows

  was_shown : (P : List Row → Type 0) → Follows P → P answers.rows
  was_shown P follows =
      follows (omega (arith, reads.survives.clean, clean))
      (was_open (inside g old) (inside g new) text params answers.rows answers.shown) answers.rows answers.shown

  -- what it showed is the list
  pub asked_as : (its : List T) → Follows (λ rows. map t.of rows ≡ its) → list ≡ its
  asked_as its follows = sym answers.read.are ∙ was_shown (λ rows. map t.of rows ≡ its) follows

none_weaker : {X : Type 0} (o : Option X) {P Q : Type 0} → (P → Q) → IfNone o P → IfNone o Q
none_weaker (Some x) f h = tt
none_weaker None f h = f h

-- All rows of a table, as a call of `ask` answers them, where its text shows the table and fails for want of room
-- alone.
module _ {S X T : Type 0} (g : Ghosts S) (old new : Transaction S) (items : X → List T) (t : TypedTable T)
    (fits : T → Bool) (text : List ℕ) (params : Row) {result : Result (Option X) Error} (reads : Reads g old new result)
    {IsThere : Type 0} where
  module _
      (shows : IsThere → HasCleanDisk (inside g old) → IsTrue (inside g old).is_open → (rows : List Row)
      → Shown text params (inside g old) (inside g new) rows → ShowsTable t rows (inside g old).now.trees) where
    pub all_rows : (HasCleanDisk (inside g new)
        → IfOk result (λ o. IfSome o (λ x. Answers t text params (inside g old) (inside g new) (items x))))
        → IsThere → HasCleanDisk (inside g new)
        → IfOk result (λ o. IfSome o (λ x. HoldsRows t (items x) (inside g old).now.trees))
    all_rows some there clean = IfOk-weaker result _ _ (λ o found. IfSome_then o found (λ x answers.
        (shows there (omega (arith, reads.survives.clean, clean))
        (was_open (inside g old) (inside g new) text params answers.rows answers.shown) answers.rows answers.shown
        (items x)).0 answers.read)) (some clean)

    pub all_none : (HasCleanDisk (inside g new)
        → IfOk result (λ o. IfNone o (AnswersNone t fits text params (inside g old) (inside g new))))
        → IsThere → HasCleanDisk (inside g new)
        → IfOk result (λ o. IfNone o (HoldsFitting t fits (inside g old).now.trees → ⊥))
    all_none none there clean = IfOk-weaker result _ _ (λ o. none_weaker o (λ answers holds.
        answers.unread (rows_in t (inside g old).now.trees)
        ((shows there (omega (arith, reads.survives.clean, clean))
        (was_open (inside g old) (inside g new) text params answers.rows answers.shown) answers.rows answers.shown
        (rows_in t (inside g old).now.trees)).1
        (record { typed = holds.typed; are = refl })) holds.fit)) (none clean)

  pub all_short : (IsThere → HasCleanDisk (inside g old) → (e : Error)
      → FailsToQuery text params (inside g old) (inside g new) e ⊎ IsTooLate text params (inside g old) (inside g new) e
      → IsShortage e)
      → (HasCleanDisk (inside g new) → IfErr result (FailsToAsk text params (inside g old) (inside g new))) → IsThere
      → HasCleanDisk (inside g new) → IfErr result IsShortage
  all_short fails err there clean =
      IfErr-weaker result _ IsShortage
      (λ e failed. elim failed
      [ inl query ↦ fails there (omega (arith, reads.survives.clean, clean)) e query | inr short ↦ short ]) (err clean)
