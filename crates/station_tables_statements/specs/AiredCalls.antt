-- What a call inside a transaction says of the rows of batches and of their lines.
use Rattle.std.specs.Prelude.{◌≡◌, ◌≢◌, ℕ, ◌+◌, ◌==◌, true, not, List, if◌then◌else◌, filter, Option, Some, None}
use Rattle.std.specs.Prelude.{length, IsTrue, Result, OnOk}
use Rattle.std.specs.List.{AllByRecursion}
use Rattle.sqlite_keyed.specs.Lists.{insert_sorted}
use Rattle.sqlite_trees.specs.declared.store.Store.{Ghosts}
use Rattle.sqlite.specs.declared.transaction.Transaction.{Transaction}
use Rattle.sqlite.specs.Effect.{IsDatabase}
use Rattle.sqlite.specs.State.{State, HasCleanDisk, Shows}
use Rattle.channel_plan.specs.declared.plan.PlanRow.{PlanRow}
use Rattle.asrun_match.specs.declared.aired.AiredRow.{AiredRow}
use Rattle.asrun_match.specs.declared.day.DayAsRun.{DayAsRun}
use Rattle.asrun_match.specs.Aired.{Airing}
use Rattle.asrun_match.specs.Batches.{with_batch}
use Rattle.station_tables_records.specs.MadeDays.{frames_of, replace_row}
use Rattle.station_tables_records.specs.MadeAirings.{AiredSet, HaveNoHoles, LacksBatch, LacksLine, batch_cmp}
use Rattle.station_tables_records.specs.MadeAirings.{is_line_of}
use Rattle.station_tables_records.specs.MadeAirings.{row_of_batch, lines_from, batches_at, airing_of_rows, airings_made}
use Rattle.station_tables_records.specs.Inside.{inside}
use Rattle.station_tables_records.specs.Schema.{centre_schema, batch, aired as aired_table}
use Rattle.station_tables_records.specs.TwoTables.{ChangesBoth, HasBoth, HasBothNow, IsAtBoth}
use Rattle.station_tables_records.specs.TablePairs.{aired_rows_in, aired_tables}

-- the rows of batches and lines that a connection's tables hold
abbrev pub airings_in : State → AiredSet
airings_in s = aired_rows_in s.now.trees

-- Of a call inside a transaction, on the tables of batches and lines, while the disk is clean.
abbrev pub WhileCleanAirings : {S : Type 0} → Ghosts S → Transaction S → Transaction S → Type 0 → Type 0
WhileCleanAirings g old new P = HasBothNow aired_tables (inside g old) → HasCleanDisk (inside g new) → P

-- On these tables, while the disk is clean, success has changed the rows so.
abbrev pub MakesAirings : {S X E : Type 0} → (AiredSet → AiredSet) → Ghosts S → Transaction S → Transaction S
    → Result X E → Type 0
MakesAirings change g old new result =
    WhileCleanAirings g old new (OnOk result (ChangesBoth aired_tables change (inside g old) (inside g new)))

-- The same of a call that comes after a statement: the store is open, inside a transaction.
abbrev pub ThenMakes : {S X E : Type 0} → (AiredSet → AiredSet) → Ghosts S → Transaction S → Transaction S → Result X E
    → Type 0
ThenMakes change g old new result = IsAtBoth aired_tables (inside g old) → HasCleanDisk (inside g new)
    → OnOk result (ChangesBoth aired_tables change (inside g old) (inside g new))

-- While the disk is clean and the store open, day n of channel c has no batch k.
abbrev pub LacksBatchNow : ℕ → ℕ → ℕ → State → Type 0
LacksBatchNow c n k s = HasCleanDisk s → IsTrue s.is_open → LacksBatch c n k (airings_in s).batches

-- The same of line l of batch k.
abbrev pub LacksLineNow : ℕ → ℕ → ℕ → ℕ → State → Type 0
LacksLineNow c n k l s = HasCleanDisk s → IsTrue s.is_open → LacksLine c n k l (airings_in s).lines

-- Batch k comes next on day n of channel c, and the rows of both tables have no holes.
pub record ComesNext (c n k : ℕ) (rows : AiredSet) : Type 0 where
  pub whole : HaveNoHoles rows
  pub next : k ≡ length (batches_at c n rows) + 1

-- While the disk is clean and the store open, batch k comes next.
abbrev pub ComesNextNow : ℕ → ℕ → ℕ → State → Type 0
ComesNextNow c n k s = HasCleanDisk s → IsTrue s.is_open → ComesNext c n k (airings_in s)

-- what was aired of day n of channel c, which has so many frames, if it has a batch
abbrev pub aired_of_day : ℕ → ℕ → ℕ → AiredSet → Option Airing
aired_of_day frames c n rows = if length (batches_at c n rows) == 0 then None else Some (airing_of_rows frames c n rows)

-- What was aired of a day of channel c is what the rows say, with one batch more; the rows have no holes.
pub record GetsBatch (c : ℕ) (airing : DayAsRun) (set : AiredSet) : Type 0 where
  pub rows : List AiredRow
  pub whole : HaveNoHoles set
  pub aired : airing.aired ≡ with_batch rows (airing_of_rows airing.aired.frames c airing.day set)

-- While the disk is clean and the store open, it is so.
abbrev pub GetsBatchNow : ℕ → DayAsRun → State → Type 0
GetsBatchNow c airing s = HasCleanDisk s → IsTrue s.is_open → GetsBatch c airing (airings_in s)

-- Batch k of day n of channel c was added inside a transaction: its row in its place, its lines numbered from 1, and
-- all other lines as they were. So what was aired of the day has it behind the other batches, what was aired of the
-- other days is as it was, and the rows have no holes. No other table was changed, and nothing was committed.
pub record AddsBatch (c n k : ℕ) (rows : List AiredRow) (old new : State) : Type 0 where
  pub tables : HasBoth aired_tables new.now
  pub airings : (plan : List PlanRow) → airings_made plan (airings_in new)
      ≡ replace_row (λ (a : DayAsRun). a.day) c (record {
        day = n;
        aired = with_batch rows (airing_of_rows (frames_of plan c) c n (airings_in old));
      }) (airings_made plan (airings_in old))
  pub batches : (airings_in new).batches ≡ insert_sorted batch_cmp (row_of_batch c n k) (airings_in old).batches
  pub lines : filter (is_line_of c n k) (airings_in new).lines ≡ lines_from c n k 1 rows
  pub other_lines : filter (λ r. not (is_line_of c n k r)) (airings_in new).lines ≡ (airings_in old).lines
  pub whole : HaveNoHoles (airings_in new)
  pub others : AllByRecursion
      (λ t. t.tree ≢ batch.tree → t.tree ≢ aired_table.tree → new.now.trees t.tree ≡ old.now.trees t.tree)
      centre_schema.tables
  -- the database lists its tables and obeys them, where it did before
  pub sound : IsDatabase old.now → IsDatabase new.now
  pub shown : Shows old new new.now old.committed true

-- What was aired of a day was put in its place inside a transaction, or in the order of the days, and the rows have no
-- holes. No other table was changed, and nothing was committed.
pub record PutsAiring (c : ℕ) (airing : DayAsRun) (old new : State) : Type 0 where
  pub tables : HasBoth aired_tables new.now
  pub airings : (plan : List PlanRow) → frames_of plan c ≡ airing.aired.frames → airings_made plan (airings_in new)
      ≡ replace_row (λ (a : DayAsRun). a.day) c airing (airings_made plan (airings_in old))
  pub whole : HaveNoHoles (airings_in new)
  pub others : AllByRecursion
      (λ t. t.tree ≢ batch.tree → t.tree ≢ aired_table.tree → new.now.trees t.tree
      ≡ old.now.trees t.tree) centre_schema.tables
  -- the database lists its tables and obeys them, where it did before
  pub sound : IsDatabase old.now → IsDatabase new.now
  pub shown : Shows old new new.now old.committed true
