-- What `find_rows` found, as the rows that pass.
use Rattle.std.proofs.Common.{◌≡◌, ℕ, Bool, List, filter, take, reverse, Option, Some, None, Result, Ok, Err, IfOk}
use Rattle.std.proofs.Common.{IfErr, OnOk, [], IsTrue, subst, arith}
use Rattle.std.specs.Prelude.{IfSome, IfNone}
use Rattle.std.proofs.lemmas.Result.{IfOk-weaker}
use Rattle.sqlite_value.specs.Order.{Row}
use Rattle.sqlite_trees.specs.declared.store.Store.{Ghosts}
use Rattle.sqlite.specs.declared.transaction.Transaction.{Transaction}
use Rattle.sqlite.specs.declared.error.Error.{Error}
use Rattle.sqlite.specs.State.{HasCleanDisk, Shown}
use Rattle.station_tables_records.specs.Table.{TypedTable, ShowsPart, ShowsLast, HoldsRows, HoldsFitting, IsShortage}
use Rattle.station_tables_records.specs.Table.{rows_in}
use Rattle.station_tables_records.specs.Inside.{inside, Reads}
use Rattle.station_tables_records.specs.Asking.{Answers, AnswersNone, FailsToAsk}
use Rattle.station_tables_records.proofs.AskLemmas.{asked_as, all_rows, all_none, all_short}
use Rattle.station_tables_records.proofs.StateLemmas.{was_open}
use Rattle.station_tables_statements.specs.Calls.{HasKnownSchema}
use Rattle.station_tables_statements.proofs.FirstLemmas.{ShowsAll}

module _ {S X E T : Type 0} (g : Ghosts S) (old new : Transaction S) {result : Result X E}
    (reads : Reads g old new result) (clean : HasCleanDisk (inside g new))
    {t : TypedTable T} {text : List ℕ} {given params : Row} {list : List T}
    (answers : Answers t text given (inside g old) (inside g new) list) (given_is : given ≡ params)
    (keep : T → Bool) where
  answered : Answers t text params (inside g old) (inside g new) list
  answered = subst (λ ps. Answers t text ps (inside g old) (inside g new) list) given_is answers

  pub found_part : (HasCleanDisk (inside g old) → IsTrue (inside g old).is_open → (rows : List Row)
      → Shown text params (inside g old) (inside g new) rows → ShowsPart t keep rows (inside g old).now.trees)
      → list ≡ filter keep (rows_in t (inside g old).now.trees)
  found_part = asked_as g old new reads clean answered (filter keep (rows_in t (inside g old).now.trees))

  pub found_last : (HasCleanDisk (inside g old) → IsTrue (inside g old).is_open → (rows : List Row)
      → Shown text params (inside g old) (inside g new) rows → ShowsLast t keep rows (inside g old).now.trees)
      → list ≡ take 1 (reverse (filter keep (rows_in t (inside g old).now.trees)))
  found_last =
      asked_as g old new reads clean answered (take 1 (reverse (filter keep (rows_in t (inside g old).now.trees))))

-- The rows that `find_rows` gives where it finds them are those that pass.
pub rows_found : {S X E T : Type 0} (g : Ghosts S) (old new : Transaction S) (items : X → List T) (t : TypedTable T)
    (text : List ℕ) {given params : Row} {result : Result X E} → Reads g old new result
    → (HasCleanDisk (inside g new) → IfOk result (λ x. Answers t text given (inside g old) (inside g new) (items x)))
    → HasCleanDisk (inside g new) → given ≡ params → (keep : T → Bool)
    → (HasCleanDisk (inside g old) → IsTrue (inside g old).is_open → (rows : List Row)
    → Shown text params (inside g old) (inside g new) rows → ShowsPart t keep rows (inside g old).now.trees)
    → IfOk result (λ x. items x ≡ filter keep (rows_in t (inside g old).now.trees))
rows_found g old new items t text {result = result} reads answers clean given_is keep follows =
    IfOk-weaker result _ _ (λ x found. found_part g old new reads clean found given_is keep follows) (answers clean)

-- A text that shows nothing is never answered.
module _ {S X T : Type 0} (g : Ghosts S) (old new : Transaction S) (items : X → List T) (t : TypedTable T)
    (fits : T → Bool) (text : List ℕ) (params : Row) where
  pub never_found : (result : Result (Option X) Error) → Reads g old new result → HasCleanDisk (inside g new)
      → IfOk result (λ o. IfSome o (λ x. Answers t text params (inside g old) (inside g new) (items x)))
      → IfOk result (λ o. IfNone o (AnswersNone t fits text params (inside g old) (inside g new)))
      → (HasCleanDisk (inside g old) → IsTrue (inside g old).is_open → (rows : List Row)
      → Shown text params (inside g old) (inside g new) rows → ⊥) → OnOk result ⊥
  never_found (Err e) reads clean some none never = tt
  never_found (Ok (Some x)) reads clean some none never =
      never (omega (arith, reads.survives.clean, clean))
      (was_open (inside g old) (inside g new) text params some.rows some.shown) some.rows some.shown
  never_found (Ok None) reads clean some none never =
      never (omega (arith, reads.survives.clean, clean))
      (was_open (inside g old) (inside g new) text params none.rows none.shown) none.rows none.shown

-- What `ask` answers of a whole table, on tables of either version.
pub record AllAnswers {S X T : Type 0} (g : Ghosts S) (old new : Transaction S) (items : X → List T) (t : TypedTable T)
    (fits : T → Bool) (result : Result (Option X) Error) : Type 0 where
  pub rows : HasKnownSchema (inside g old) → HasCleanDisk (inside g new)
      → IfOk result (λ o. IfSome o (λ x. HoldsRows t (items x) (inside g old).now.trees))
  pub none : HasKnownSchema (inside g old) → HasCleanDisk (inside g new)
      → IfOk result (λ o. IfNone o (HoldsFitting t fits (inside g old).now.trees → ⊥))
  pub short : HasKnownSchema (inside g old) → HasCleanDisk (inside g new) → IfErr result IsShortage

pub all_answers : {S X T : Type 0} (g : Ghosts S) (old new : Transaction S) (items : X → List T) (t : TypedTable T)
    (fits : T → Bool) {text : List ℕ} → ShowsAll t text → (result : Result (Option X) Error) → Reads g old new result
    → (HasCleanDisk (inside g new)
    → IfOk result (λ o. IfSome o (λ x. Answers t text [] (inside g old) (inside g new) (items x))))
    → (HasCleanDisk (inside g new)
    → IfOk result (λ o. IfNone o (AnswersNone t fits text [] (inside g old) (inside g new))))
    → (HasCleanDisk (inside g new) → IfErr result (FailsToAsk text [] (inside g old) (inside g new)))
    → AllAnswers g old new items t fits result
all_answers g old new items t fits {text} all result reads some none err = record {
  rows =
      all_rows g old new items t fits text [] reads
      (λ known early held. all.shows (inside g old) (inside g new) (known early held)) some;
  none =
      all_none g old new items t fits text [] reads
      (λ known early held. all.shows (inside g old) (inside g new) (known early held)) none;
  short =
      all_short g old new items t fits text [] reads
      (λ known early. all.fails (inside g old) (inside g new) (known early)) err;
}
