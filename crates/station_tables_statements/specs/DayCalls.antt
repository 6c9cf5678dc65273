-- What a call inside a transaction says of the rows of days and of their items.
use Rattle.std.specs.Prelude.{◌≡◌, ◌≢◌, ◌||◌, ◌&&◌, ◌==◌, ℕ, Bool, true, false, not, List, [], ◌∷◌, length, find}
use Rattle.std.specs.Prelude.{Option, Some, None, IsTrue, Result, OnOk}
use Rattle.std.specs.List.{AllByRecursion, list_all, list_any}
use Rattle.sqlite_keyed.specs.Lists.{sort_by}
use Rattle.sqlite_trees.specs.declared.store.Store.{Ghosts}
use Rattle.sqlite.specs.declared.transaction.Transaction.{Transaction}
use Rattle.sqlite.specs.Effect.{IsDatabase}
use Rattle.sqlite.specs.State.{State, HasCleanDisk, Shows}
use Rattle.channel_plan.specs.declared.plan.PlanRow.{PlanRow}
use Rattle.playlist_core.specs.Day.{Day}
use Rattle.playlist_core.specs.declared.item.Item.{Item}
use Rattle.playlist_core.specs.declared.day.DayState.{DayState}
use Rattle.playlist_core.specs.declared.day.DayState.TheVariants.{NotThere, Open, Sealed}
use Rattle.playlist_core.specs.Difference.{ChangedDay, changed_day}
use Rattle.station_tables_records.specs.declared.day_rows.DayRow.{DayRow}
use Rattle.station_tables_records.specs.MadeDays.{DaySet, is_day, has_day, items_at, position_cmp, days_made, frames_of}
use Rattle.station_tables_records.specs.MadeDays.{LacksItem, has_texts, is_sealed, row_of_day, replace_row}
use Rattle.station_tables_records.proofs.Turns.{AreNew}
use Rattle.station_tables_records.specs.Inside.{inside}
use Rattle.station_tables_records.specs.Schema.{centre_schema, day as day_tree, item as item_tree}
use Rattle.station_tables_records.specs.DayRows.{LacksDay}
use Rattle.station_tables_records.specs.TwoTables.{ChangesBoth, HasBoth, HasBothNow}
use Rattle.station_tables_records.specs.TablePairs.{day_rows_in, day_tables}

-- the rows of days and items that a connection's tables hold
abbrev pub days_in : State → DaySet
days_in s = day_rows_in s.now.trees

-- Of a call inside a transaction, on the tables of days and items, while the disk is clean.
abbrev pub WhileCleanDays : {S : Type 0} → Ghosts S → Transaction S → Transaction S → Type 0 → Type 0
WhileCleanDays g old new P = HasBothNow day_tables (inside g old) → HasCleanDisk (inside g new) → P

-- On these tables, while the disk is clean, success has changed the rows so.
abbrev pub MakesDays : {S X E : Type 0} → (DaySet → DaySet) → Ghosts S → Transaction S → Transaction S → Result X E
    → Type 0
MakesDays change g old new result =
    WhileCleanDays g old new (OnOk result (ChangesBoth day_tables change (inside g old) (inside g new)))

-- While the disk is clean and the store open, the channel has no day of this number.
abbrev pub LacksDayNow : ℕ → ℕ → State → Type 0
LacksDayNow channel day s = HasCleanDisk s → IsTrue s.is_open → LacksDay channel day (days_in s).days

-- The same of an item of a day.
abbrev pub LacksItemNow : ℕ → ℕ → ℕ → State → Type 0
LacksItemNow channel day item s = HasCleanDisk s → IsTrue s.is_open → LacksItem channel day item (days_in s).items

-- While the disk is clean and the store open, the channel has a day of this number, or it has none.
abbrev pub IsThereNow : ℕ → ℕ → Bool → State → Type 0
IsThereNow channel day there s =
    HasCleanDisk s → IsTrue s.is_open → list_any (is_day channel day) (days_in s).days ≡ there

-- the row of a day that is there
abbrev pub row_in : DayState → ℕ → Day → Option (ℕ × DayRow)
row_in NotThere channel day = None
row_in Open channel day = Some (channel, row_of_day day)
row_in Sealed channel day = Some (channel, row_of_day day)

-- The rows make this day of the channel, there or not: its row, and its items by their positions.
pub record MakesDay (channel : ℕ) (day : Day) (rows : DaySet) : Type 0 where
  pub row : find (is_day channel day.number) rows.days ≡ row_in day.state channel day
  pub items : day.items ≡ sort_by position_cmp (items_at channel day.number rows.items)

-- The change is one from the day that the rows make.
pub record ComesFrom (channel : ℕ) (change : ChangedDay) (rows : DaySet) : Type 0 where
  pub before : Day
  pub number : before.number ≡ change.day.number
  pub is_from : change ≡ changed_day before change.day
  pub made : MakesDay channel before rows

-- While the disk is clean and the store open, it is so.
abbrev pub ComesFromNow : ℕ → ChangedDay → State → Type 0
ComesFromNow channel change s = HasCleanDisk s → IsTrue s.is_open → ComesFrom channel change (days_in s)

-- whether a day that was so has another row now, by whether it is sealed now
abbrev pub is_other : DayState → Bool → Bool
is_other NotThere sealed = true
is_other Open sealed = sealed
is_other Sealed sealed = not sealed

-- whether the row of the day is written: where it is another, and where no item differs, so that a statement runs
abbrev pub is_row_written : ChangedDay → Bool
is_row_written change =
    is_other change.was (is_sealed change.day.state) || (length change.deleted == 0 && length change.inserted == 0)

abbrev pub has_some : {A : Type 0} → List A → Bool
has_some [] = false
has_some (x ∷ xs) = true

-- Where a statement ran the rows were changed so, and else nothing was done.
abbrev pub ChangesWhere : {S : Type 0} → Ghosts S → Bool → (DaySet → DaySet) → Transaction S → Transaction S → Type 0
ChangesWhere g true change old new = ChangesBoth day_tables change (inside g old) (inside g new)
ChangesWhere g false change old new = new.conn.now ≡ old.conn.now

-- On these tables, while the disk is clean, success has changed the rows so where a statement ran.
abbrev pub MakesWhere : {S X E : Type 0} → Bool → (DaySet → DaySet) → Ghosts S → Transaction S → Transaction S
    → Result X E → Type 0
MakesWhere ran change g old new result = WhileCleanDays g old new (OnOk result (ChangesWhere g ran change old new))

-- While the disk is clean and the store open, an item's source and kind have texts that read as these.
abbrev pub HasTextsNow : Item → State → Type 0
HasTextsNow item s = HasCleanDisk s → IsTrue s.is_open → has_texts item ≡ true

-- While the disk is clean and the store open, each of these items has such texts, and a number that the day lacks where
-- its turn comes.
abbrev pub AreNewNow : ℕ → ℕ → List Item → State → Type 0
AreNewNow channel day items s = HasCleanDisk s → IsTrue s.is_open
    → (list_all has_texts items ≡ true) × AreNew channel day items (days_in s).items

-- the day of each item is there
abbrev pub OwnsItems : DaySet → Type 0
OwnsItems rows = list_all (has_day rows.days) rows.items ≡ true

-- A day was written over the one of its number inside a transaction: the days are those with this one in its place, or
-- in the order of the numbers. No other table was changed, and nothing was committed.
pub record PutsDay (channel : ℕ) (day : Day) (old new : State) : Type 0 where
  pub tables : HasBoth day_tables new.now
  pub days : (plan : List PlanRow) → frames_of plan channel ≡ day.frames → days_made plan (days_in new)
      ≡ replace_row (λ (d : Day). d.number) channel day (days_made plan (days_in old))
  pub owned : OwnsItems (days_in old) → OwnsItems (days_in new)
  pub others : AllByRecursion
      (λ t. t.tree ≢ day_tree.tree → t.tree ≢ item_tree.tree → new.now.trees t.tree
      ≡ old.now.trees t.tree) centre_schema.tables
  -- the database lists its tables and obeys them, where it did before
  pub sound : IsDatabase old.now → IsDatabase new.now
  pub shown : Shows old new new.now old.committed true
