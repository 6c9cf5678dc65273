-- What is made of the rows that were found.
use Rattle.std.proofs.Common.{◌≡◌, ℕ, Bool, List, Option, map, filter, find, Result, IsTrue, sym, ap, ◌∙◌}
use Rattle.std.specs.Prelude.{slice_get}
use Rattle.std.specs.Option.{option_map}
use Rattle.sqlite_value.specs.Order.{Row}
use Rattle.sqlite_trees.specs.declared.store.Store.{Ghosts}
use Rattle.sqlite.specs.declared.transaction.Transaction.{Transaction}
use Rattle.sqlite.specs.State.{State, HasCleanDisk, Shown}
use Rattle.station_tables_records.specs.Inside.{inside, Reads}
use Rattle.station_tables_records.specs.Asking.{Answers, IsReading}
use Rattle.station_tables_records.specs.Table.{TypedTable, IsTypedIn, rows_in}
use Rattle.station_tables_statements.proofs.ViewLemmas.{first_found}
use Rattle.station_tables_records.proofs.NumberedLemmas.{Columns, NumbersRows, shows_all, shows_page, shows_one}
use Rattle.station_tables_records.proofs.NumberedLemmas.{last_shown}
use Rattle.station_tables_records.proofs.AskLemmas.{asked_as}
use Rattle.station_tables_records.proofs.AsksNumbered.{AsksNumbered}
use Rattle.station_tables_statements.specs.declared.numbered.Question.{Question}
use Rattle.station_tables_statements.specs.declared.numbered.Question.TheVariants.{All, Page, Last, Number}
use Rattle.station_tables_statements.specs.Asked.{text_of, params_of}
use Rattle.station_tables_statements.specs.Numbered.{found_by}

-- the first of them is the first that passes
pub first_alone_is : {A : Type 0} (keep : ℕ × A → Bool) (all given : List (ℕ × A)) (first : Option A)
    → first ≡ option_map (λ r. r.1) (slice_get given 0) → given ≡ filter keep all
    → first ≡ option_map (λ r. r.1) (find keep all)
first_alone_is keep all given first is are =
    is ∙ ap (λ l. option_map (λ r. r.1) (slice_get l 0)) are ∙ ap (option_map (λ r. r.1)) (sym (first_found keep all))

-- What the text of a question found in a table of numbered rows is what answers it.
module _ {A : Type 0} {number : A → ℕ} {t : TypedTable (ℕ × A)} {columns : Columns} {all page last one : List ℕ}
    (rows_are : NumbersRows number t columns) (asks : AsksNumbered t.schema t.base.tree columns all page last one) where
  pub reads_each : (q : Question) → IsReading (text_of all page last one q)
  reads_each All = asks.all.reads
  reads_each (Page p) = asks.page.reads
  reads_each Last = asks.last.reads
  reads_each (Number n) = asks.one.reads

  shows_each : (q : Question) (c : ℕ) (old new : State) → old.now.schema ≡ t.schema → IsTypedIn t old.now.trees
      → (rows : List Row) → Shown (text_of all page last one q) (params_of q c) old new rows
      → map t.of rows ≡ found_by q number c (rows_in t old.now.trees)
  shows_each All c old new has typed = shows_all rows_are old new has typed asks.all c
  shows_each (Page p) c old new has typed = shows_page rows_are old new has typed asks.page c p
  shows_each Last c old new has typed = last_shown rows_are old new has typed asks.last c
  shows_each (Number n) c old new has typed = shows_one rows_are old new has typed asks.one c n

  pub question_found : {S X E : Type 0} (g : Ghosts S) (old new : Transaction S) {result : Result X E}
      → Reads g old new result → HasCleanDisk (inside g new) → (q : Question) (c : ℕ)
      → (HasCleanDisk (inside g old) → IsTrue (inside g old).is_open
      → ((inside g old).now.schema ≡ t.schema) × IsTypedIn t (inside g old).now.trees)
      → {list : List (ℕ × A)}
      → Answers t (text_of all page last one q) (params_of q c) (inside g old) (inside g new) list
      → list ≡ found_by q number c (rows_in t (inside g old).now.trees)
  question_found g old new reads clean q c has answers =
      asked_as g old new reads clean answers (found_by q number c (rows_in t (inside g old).now.trees))
      (λ early held. let so = has early held in shows_each q c (inside g old) (inside g new) so.0 so.1)
