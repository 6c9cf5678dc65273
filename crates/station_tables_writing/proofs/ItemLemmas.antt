-- The items of a day, taken out or added one after another.
use Rattle.std.proofs.Common.{◌≡◌, ℕ, zero, suc, ◌<◌, Bool, true, false, List, [], ◌∷◌, length, take, get_or, Ok, refl}
use Rattle.std.proofs.Common.{sym, ap, ◌∙◌, subst, arith, true≢false, IsTrue}
use Rattle.std.specs.List.{list_all}
use Rattle.std.proofs.lemmas.List.Folds.{list_all_at}
use Rattle.sqlite.specs.declared.error.Error.{Error}
use Rattle.sqlite.specs.declared.transaction.Transaction.{Transaction}
use Rattle.sqlite.specs.Held.{state}
use Rattle.sqlite.specs.State.{State, HasCleanDisk}
use Rattle.sqlite_keyed.specs.Lists.{insert_sorted, delete_where}
use Rattle.sqlite_trees.specs.declared.store.Store.{Ghosts}
use Rattle.playlist_core.specs.declared.item.Item.{Item}
use Rattle.station_tables_records.specs.declared.day_rows.ItemRow.{ItemRow}
use Rattle.station_tables_records.specs.MadeDays.{DaySet, item_cmp, is_item_of, LacksItem}
use Rattle.station_tables_records.specs.Inside.{inside, Writes}
use Rattle.station_tables_records.specs.TwoTables.{ChangesBoth, HasBothNow}
use Rattle.station_tables_records.specs.TablePairs.{day_tables}
use Rattle.station_tables_records.proofs.Turns.{without_items, with_items, AreNew}
use Rattle.station_tables_records.proofs.InsideLemmas.{writes_then, writes_on, writes_none}
use Rattle.station_tables_records.proofs.TwoTableLemmas.{both_then}
use Rattle.station_tables_statements.specs.DayCalls.{days_in, ChangesWhere, MakesDays}

-- the same change, by what it makes of these rows
pub days_same : (f k : DaySet → DaySet) (old new : State) → ChangesBoth day_tables f old new
    → f (days_in old) ≡ k (days_in old) → ChangesBoth day_tables k old new
days_same f k old new made same =
    record {
      tables = made.tables;
      rows_are = made.rows_are ∙ same;
      others = made.others;
      sound = made.sound;
      shown =
          made.shown;
    }

module _ {S : Type 0} (g : Ghosts S) where
  -- what is known after statements, or none
  module _ (change : DaySet → DaySet) (old new : Transaction S) where
    pub rows_after : (ran : Bool) → (ran ≡ false → (rows : DaySet) → change rows ≡ rows)
        → ChangesWhere g ran change old new → days_in (inside g new) ≡ change (days_in (inside g old))
    rows_after true still made = made.rows_are
    rows_after false still idle = ap (λ n. days_in (state g n)) idle ∙ sym (still refl (days_in (inside g old)))

    pub open_before : (ran : Bool) → ChangesWhere g ran change old new → IsTrue (inside g new).is_open
        → IsTrue (inside g old).is_open
    open_before true made opened = made.shown.was_open
    open_before false idle opened = subst (λ n. IsTrue (state g n).is_open) idle opened

    pub days_after : (ran : Bool) → ChangesWhere g ran change old new → HasBothNow day_tables (inside g old)
        → HasBothNow day_tables (inside g new)
    days_after true made days = λ clean opened. made.tables
    days_after false idle days = subst (λ n. HasBothNow day_tables (state g n)) (sym idle) days

  -- a statement after them
  pub then_more : (first step : DaySet → DaySet) (old mid new : Transaction S) (ran : Bool)
      → (ran ≡ false → (rows : DaySet) → first rows ≡ rows) → ChangesWhere g ran first old mid
      → ChangesBoth day_tables step (inside g mid) (inside g new)
      → ChangesBoth day_tables (λ rows. step (first rows)) (inside g old) (inside g new)
  then_more first step old mid new true still made more =
      both_then first step (inside g old) (inside g mid) (inside g new) made more
  then_more first step old mid new false still idle more =
      days_same step (λ rows. step (first rows)) (inside g old) (inside g new)
      (subst (λ n. ChangesBoth day_tables step (state g n) (inside g new)) idle more)
      (ap step (sym (still refl (days_in (inside g old)))))

  -- Statements that ran one after another, or none, have changed the rows so, under a premise.
  pub record HasDone (premise : Type 0) (ran : Bool) (change : DaySet → DaySet) (old tx : Transaction S) : Type 0 where
    pub writes : Writes {X = Unit {0}} {E = Error} g old tx (Ok tt)
    pub done : premise → HasBothNow day_tables (inside g old) → HasCleanDisk (inside g tx)
        → ChangesWhere g ran change old tx

  pub none_done : (premise : Type 0) (old : Transaction S) → HasDone premise false (λ rows. rows) old old
  none_done premise old = record { writes = writes_none g old tt; done = λ given days clean. refl }

  -- one more
  pub one_more : (premise : Type 0) (ran : Bool) (first step : DaySet → DaySet) (old a b : Transaction S)
      → (ran ≡ false → (rows : DaySet) → first rows ≡ rows) → HasDone premise ran first old a → {count : ℕ}
      → Writes {X = ℕ} {E = Error} g a b (Ok count)
      → (premise
      → (HasCleanDisk (inside g old) → IsTrue (inside g a).is_open
      → (days_in (inside g a) ≡ first (days_in (inside g old))) × IsTrue (inside g old).is_open)
      → HasCleanDisk (inside g old) → MakesDays {X = ℕ} {E = Error} step g a b (Ok count))
      → HasDone premise true (λ rows. step (first rows)) old b
  one_more premise ran first step old a b still has {count} writes makes = record {
    writes = writes_on g old b count tt (writes_then g old a b tt (Ok count) has.writes writes);
    done = λ given days clean.
        let early : HasCleanDisk (inside g a) = omega (arith, writes.survives.clean, clean) in
        let earlier : HasCleanDisk (inside g old) = omega (arith, has.writes.survives.clean, early) in
        let before : ChangesWhere g ran first old a = has.done given days early in
        then_more first step old a b ran still before
        (makes given
        (λ clean_then opened. (rows_after first old a ran still before, open_before first old a ran before opened))
        earlier (days_after first old a ran before days) clean);
  }

-- ---- the next item

module _ (c n : ℕ) where
  -- is taken out last
  pub next_out : (items : List Item) (rows : List (ℕ × ItemRow)) (i : ℕ) (d : Item) → i < length items
      → delete_where (is_item_of c n (get_or items i d).n) (without_items c n (take i items) rows)
      ≡ without_items c n (take (suc i) items) rows
  next_out [] rows i d lt = absurd (omega (arith, lt))
  next_out (x ∷ xs) rows zero d lt = refl
  next_out (x ∷ xs) rows (suc i) d lt = next_out xs (delete_where (is_item_of c n x.n) rows) i d (omega (arith, lt))

  -- and added last
  pub next_in : (items : List Item) (rows : List (ℕ × ItemRow)) (i : ℕ) (d : Item) → i < length items
      → insert_sorted item_cmp (c, record { day = n; item = get_or items i d }) (with_items c n (take i items) rows)
      ≡ with_items c n (take (suc i) items) rows
  next_in [] rows i d lt = absurd (omega (arith, lt))
  next_in (x ∷ xs) rows zero d lt = refl
  next_in (x ∷ xs) rows (suc i) d lt =
      next_in xs (insert_sorted item_cmp (c, record { day = n; item = x }) rows) i d (omega (arith, lt))

  -- where its number is new
  pub next_is_new : (items : List Item) (rows : List (ℕ × ItemRow)) (i : ℕ) (d : Item) → i < length items
      → AreNew c n items rows → LacksItem c n (get_or items i d).n (with_items c n (take i items) rows)
  next_is_new [] rows i d lt new = absurd (omega (arith, lt))
  next_is_new (x ∷ xs) rows zero d lt new = new.0
  next_is_new (x ∷ xs) rows (suc i) d lt new =
      next_is_new xs (insert_sorted item_cmp (c, record { day = n; item = x }) rows) i d (omega (arith, lt)) new.1

-- a test that all of a list pass
pub passed_at : {X : Type 0} (p : X → Bool) (xs : List X) (i : ℕ) (d : X) → i < length xs → list_all p xs ≡ true
    → p (get_or xs i d) ≡ true
passed_at p xs i d lt all = by (p (get_or xs i d)) refl
  where
    by : (b : Bool) → p (get_or xs i d) ≡ b → b ≡ true
    by true is = refl
    by false is = absurd (true≢false (sym all ∙ list_all_at p xs i d lt is))
