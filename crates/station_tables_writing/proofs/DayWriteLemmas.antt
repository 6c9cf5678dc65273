-- A change of a day that is written over the day of the tables.
use Rattle.std.proofs.Common.{◌≡◌, ◌≢◌, ℕ, suc, ◌<◌, Bool, true, false, ◌&&◌, not, cond, List, [], ◌∷◌, filter, length}
use Rattle.std.proofs.Common.{take, Some, Result, Ok, Err, OnOk, refl, sym, ap, ap₂, ◌∙◌, subst, arith, true≢false}
use Rattle.std.proofs.Common.{IsTrue}
use Rattle.std.specs.Prelude.{◌==◌, ◌||◌, find, is_some}
use Rattle.std.specs.List.{list_all, list_any}
use Rattle.sqlite_keyed.specs.Lists.{sort_by}
use Rattle.sqlite_keyed.proofs.ListLemmas.{none_from_any}
use Rattle.sqlite_trees.specs.declared.store.Store.{Ghosts}
use Rattle.sqlite.specs.declared.error.Error.{Error}
use Rattle.sqlite.specs.declared.transaction.Transaction.{Transaction}
use Rattle.sqlite.specs.Held.{state}
use Rattle.sqlite.specs.State.{State, HasCleanDisk}
use Rattle.playlist_core.specs.declared.item.Item.{Item}
use Rattle.playlist_core.specs.declared.day.DayState.{DayState}
use Rattle.playlist_core.specs.declared.day.DayState.TheVariants.{NotThere, Open, Sealed}
use Rattle.playlist_core.specs.Day.{Day, KeepsDayRules}
use Rattle.channel_view_model.specs.Rules.{is_there}
use Rattle.playlist_core.specs.Difference.{ChangedDay, not_among}
use Rattle.station_tables_records.specs.declared.day_rows.DayRow.{DayRow}
use Rattle.station_tables_records.specs.MadeDays.{Rise, item_cmp, position_cmp, DaySet, is_day, items_at, is_sealed}
use Rattle.station_tables_records.specs.MadeDays.{row_of_day, put_day, days_made}
use Rattle.station_tables_records.proofs.Turns.{without_items, with_items, put_rows, AreNew}
use Rattle.station_tables_records.proofs.AmongLemmas.{HaveOwnNumbers}
use Rattle.station_tables_records.proofs.DayMadeLemmas.{added_are_new, numbers_differ, days_replaced, owned_kept}
use Rattle.station_tables_records.proofs.DayMadeLemmas.{own_numbers}
use Rattle.station_tables_records.proofs.DayMadeLemmas.{own_sorted, any_sorted, row_stays}
use Rattle.station_tables_records.specs.Inside.{inside, Writes}
use Rattle.station_tables_records.specs.DayRows.{LacksDay}
use Rattle.station_tables_records.specs.TwoTables.{ChangesBoth, HasBoth}
use Rattle.station_tables_records.specs.TablePairs.{day_tables, on_days, on_items}
use Rattle.station_tables_records.proofs.DayLemmas.{days_rise, items_rise}
use Rattle.station_tables_records.proofs.TwoTableLemmas.{both_then}
use Rattle.station_tables_statements.specs.DayCalls.{days_in, row_in, ComesFrom, is_other, is_row_written, has_some}
use Rattle.station_tables_statements.specs.DayCalls.{ChangesWhere, MakesDays, OwnsItems, PutsDay}
use Rattle.station_tables_writing.proofs.ItemLemmas.{days_same, HasDone, one_more}

pub on_weaker : {X E : Type 0} {P Q : Type 0} (r : Result X E) → (P → Q) → OnOk r P → OnOk r Q
on_weaker (Ok x) follows p = follows p
on_weaker (Err e) follows p = tt

pub lacks_day : (c n : ℕ) (days : List (ℕ × DayRow)) → list_any (is_day c n) days ≡ false → LacksDay c n days
lacks_day c n days none = none_from_any (is_day c n) days none

-- ---- items one after another

pub none_out : (c n : ℕ) (rows : DaySet) → on_items (without_items c n []) rows ≡ rows
none_out c n rows = refl

pub none_in : (c n : ℕ) (rows : DaySet) → on_items (with_items c n []) rows ≡ rows
none_in c n rows = refl

module _ {S : Type 0} (g : Ghosts S) (premise : Type 0) (turn : List Item → DaySet → DaySet) where
  -- so many of the items had their turn
  abbrev pub Turned : List Item → Transaction S → Transaction S → Type 0
  Turned items old tx = HasDone g premise (has_some items) (turn items) old tx

  some_next : (items : List Item) (i : ℕ) → i < length items → has_some (take (suc i) items) ≡ true
  some_next [] i lt = absurd (omega (arith, lt))
  some_next (x ∷ xs) i lt = refl

  none_yet : ((rows : DaySet) → turn [] rows ≡ rows) → (items : List Item) → has_some items ≡ false → (rows : DaySet)
      → turn items rows ≡ rows
  none_yet still [] none = still
  none_yet still (x ∷ xs) none = absurd (true≢false none)

  pub next_turned : (items : List Item) (i : ℕ) → i < length items → (step : DaySet → DaySet) (old a b : Transaction S)
      → ◌≡◌ {A = DaySet → DaySet} (λ rows. step (turn (take i items) rows)) (turn (take (suc i) items))
      → ((rows : DaySet) → turn [] rows ≡ rows) → Turned (take i items) old a → {count : ℕ}
      → Writes {X = ℕ} {E = Error} g a b (Ok count)
      → (premise
      → (HasCleanDisk (inside g old) → IsTrue (inside g a).is_open
      → (days_in (inside g a) ≡ turn (take i items) (days_in (inside g old))) × IsTrue (inside g old).is_open)
      → HasCleanDisk (inside g old) → MakesDays {X = ℕ} {E = Error} step g a b (Ok count))
      → Turned (take (suc i) items) old b
  next_turned items i lt step old a b both still has writes makes =
      subst (λ ran. HasDone g premise ran (turn (take (suc i) items)) old b) (sym (some_next items i lt))
      (subst (λ f. HasDone g premise true f old b) both
      (one_more g premise (has_some (take i items)) (turn (take i items)) step old a b
      (none_yet still (take i items)) has writes makes))

-- ---- statements that ran where they had to

-- a change where a statement ran
abbrev pub where_ran : Bool → (DaySet → DaySet) → DaySet → DaySet
where_ran true change rows = change rows
where_ran false change rows = rows

pub as_ran : {S : Type 0} (g : Ghosts S) (a : Bool) (f : DaySet → DaySet) (old new : Transaction S)
    → ChangesWhere g a f old new → ChangesWhere g a (where_ran a f) old new
as_ran g true f old new made = made
as_ran g false f old new idle = idle

pub ran_then : {S : Type 0} (g : Ghosts S) (a b : Bool) (f k : DaySet → DaySet) (old mid new : Transaction S)
    → (a ≡ false → (rows : DaySet) → f rows ≡ rows) → ChangesWhere g a f old mid → ChangesWhere g b k mid new
    → ChangesWhere g (a || b) (λ rows. where_ran b k (f rows)) old new
ran_then g true true f k old mid new still one two = both_then f k (inside g old) (inside g mid) (inside g new) one two
ran_then g true false f k old mid new still one two =
    subst (λ n. ChangesBoth day_tables f (inside g old) (state g n)) (sym two) one
ran_then g false true f k old mid new still one two =
    days_same k (λ rows. k (f rows)) (inside g old) (inside g new)
    (subst (λ n. ChangesBoth day_tables k (state g n) (inside g new)) one two)
    (ap k (sym (still refl (days_in (inside g old)))))
ran_then g false false f k old mid new still one two = two ∙ one

pub still_one : (a : Bool) (f : DaySet → DaySet) → a ≡ false → (rows : DaySet) → where_ran a f rows ≡ rows
still_one true f none rows = absurd (true≢false none)
still_one false f none rows = refl

pub still_two : (a b : Bool) (f k : DaySet → DaySet) → (a || b) ≡ false → (rows : DaySet)
    → where_ran b k (where_ran a f rows) ≡ rows
still_two true b f k none rows = absurd (true≢false none)
still_two false true f k none rows = absurd (true≢false none)
still_two false false f k none rows = refl

all_out : (c n : ℕ) (items : List Item) (rows : DaySet)
    → where_ran (has_some items) (on_items (without_items c n items)) rows ≡ on_items (without_items c n items) rows
all_out c n [] rows = refl
all_out c n (x ∷ xs) rows = refl

all_in : (c n : ℕ) (items : List Item) (rows : DaySet)
    → where_ran (has_some items) (on_items (with_items c n items)) rows ≡ on_items (with_items c n items) rows
all_in c n [] rows = refl
all_in c n (x ∷ xs) rows = refl

-- what the statements of a change make of the rows
abbrev pub row_put : ℕ → ChangedDay → DaySet → DaySet
row_put c change = on_days (put_day (is_there change.was) c (row_of_day change.day))

abbrev pub turned : ℕ → ChangedDay → DaySet → DaySet
turned c change rows =
    where_ran (has_some change.inserted) (on_items (with_items c change.day.number change.inserted))
    (where_ran (has_some change.deleted) (on_items (without_items c change.day.number change.deleted))
    (where_ran (is_row_written change) (row_put c change) rows))

-- one of them ran
any_ran : (o : Bool) (deleted inserted : List Item)
    → (((o || (length deleted == 0 && length inserted == 0)) || has_some deleted) || has_some inserted) ≡ true
any_ran true deleted inserted = refl
any_ran false [] [] = refl
any_ran false [] (x ∷ xs) = ending (length (x ∷ xs) == 0)
  where
    ending : (b : Bool) → ((b || false) || true) ≡ true
    ending true = refl
    ending false = refl
any_ran false (x ∷ xs) inserted = middle (length (x ∷ xs) == 0 && length inserted == 0) (has_some inserted)
  where
    middle : (b d : Bool) → ((b || true) || d) ≡ true
    middle true d = refl
    middle false d = refl

pub all_ran : {S : Type 0} (g : Ghosts S) (c : ℕ) (change : ChangedDay) (first last : Transaction S)
    → ChangesWhere g ((is_row_written change || has_some change.deleted) || has_some change.inserted) (turned c change)
    first last
    → ChangesBoth day_tables (turned c change) (inside g first) (inside g last)
all_ran g c change first last whole =
    subst (λ b. ChangesWhere g b (turned c change) first last)
    (any_ran (is_other change.was (is_sealed change.day.state)) change.deleted change.inserted) whole

-- the items after the first two
module _ {S : Type 0} (g : Ghosts S) (c n : ℕ) where
  row_leaves : (f : List (ℕ × DayRow) → List (ℕ × DayRow)) (a : Bool) (old new : Transaction S)
      → ChangesWhere g a (on_days f) old new → (days_in (inside g new)).items ≡ (days_in (inside g old)).items
  row_leaves f true old new made = ap (λ (s : DaySet). s.items) made.rows_are
  row_leaves f false old new idle = ap (λ m. (days_in (state g m)).items) idle

  went_leaves : (deleted : List Item) (old new : Transaction S)
      → ChangesWhere g (has_some deleted) (on_items (without_items c n deleted)) old new
      → (days_in (inside g new)).items ≡ without_items c n deleted (days_in (inside g old)).items
  went_leaves [] old new idle = ap (λ m. (days_in (state g m)).items) idle
  went_leaves (x ∷ xs) old new made = ap (λ (s : DaySet). s.items) made.rows_are

  pub items_left : (f : List (ℕ × DayRow) → List (ℕ × DayRow)) (a : Bool) (deleted : List Item)
      (old mid new : Transaction S) → ChangesWhere g a (on_days f) old mid
      → ChangesWhere g (has_some deleted) (on_items (without_items c n deleted)) mid new
      → (days_in (inside g new)).items ≡ without_items c n deleted (days_in (inside g old)).items
  items_left f a deleted old mid new one two =
      went_leaves deleted mid new two ∙ ap (without_items c n deleted) (row_leaves f a old mid one)

-- ---- a change of the day that the rows make

pub some_found : {X : Type 0} (p : X → Bool) (xs : List X) → list_any p xs ≡ is_some (find p xs)
some_found p [] = refl
some_found p (x ∷ xs) =
    elim (p x) as (λ b. (b || list_any p xs) ≡ is_some (cond b (Some x) (find p xs)))
    [ true ↦ refl | false ↦ some_found p xs ]

some_row : (s : DayState) (c : ℕ) (day : Day) → is_some (row_in s c day) ≡ is_there s
some_row NotThere c day = refl
some_row Open c day = refl
some_row Sealed c day = refl

kept_texts : (p q : Item → Bool) (items : List Item) → list_all p items ≡ true → list_all p (filter q items) ≡ true
kept_texts p q [] all = refl
kept_texts p q (x ∷ xs) all =
    let first : p x ≡ true = grind (arith, all) in
    let rest : list_all p xs ≡ true = grind (arith, all) in
    elim (q x) as (λ b. list_all p (cond b (x ∷ filter q xs) (filter q xs)) ≡ true)
    [ true ↦ ap₂ ◌&&◌ first (kept_texts p q xs rest) | false ↦ kept_texts p q xs rest ]

module _ (c : ℕ) (change : ChangedDay) (rules : KeepsDayRules change.day) (old : State)
    (from : ComesFrom c change (days_in old)) where
  abbrev before : Day
  before = from.before

  was_is : change.was ≡ before.state
  was_is = ap (λ (d : ChangedDay). d.was) from.is_from

  went_is : change.deleted ≡ not_among change.day.items before.items
  went_is = ap (λ (d : ChangedDay). d.deleted) from.is_from

  came_is : change.inserted ≡ not_among before.items change.day.items
  came_is = ap (λ (d : ChangedDay). d.inserted) from.is_from

  row_found : find (is_day c change.day.number) (days_in old).days ≡ row_in before.state c before
  row_found = subst (λ n. find (is_day c n) (days_in old).days ≡ row_in before.state c before) from.number from.made.row

  items_are : before.items ≡ sort_by position_cmp (items_at c change.day.number (days_in old).items)
  items_are =
      subst (λ n. before.items ≡ sort_by position_cmp (items_at c n (days_in old).items)) from.number from.made.items

  pub row_is_there : list_any (is_day c change.day.number) (days_in old).days ≡ is_there change.was
  row_is_there =
      some_found (is_day c change.day.number) (days_in old).days ∙ ap is_some row_found ∙ some_row before.state c before
      ∙ ap is_there (sym was_is)

  pub texts_came : (p : Item → Bool) → list_all p change.day.items ≡ true → list_all p change.inserted ≡ true
  texts_came p all = ap (list_all p) came_is ∙ kept_texts p _ change.day.items all

  -- a test knows no order of the items before
  alike : (p : Item → Bool) → list_any p (items_at c change.day.number (days_in old).items) ≡ list_any p before.items
  alike p = any_sorted p (items_at c change.day.number (days_in old).items) ∙ ap (list_any p) (sym items_are)

  -- what is added is new where its turn comes
  pub fresh_items : (mid : State)
      → (days_in mid).items ≡ without_items c change.day.number change.deleted (days_in old).items
      → AreNew c change.day.number change.inserted (days_in mid).items
  fresh_items mid is =
      subst (AreNew c change.day.number change.inserted)
      (sym (is ∙ ap (λ l. without_items c change.day.number l (days_in old).items) went_is))
      (subst
      (λ l. AreNew c change.day.number l
      (without_items c change.day.number (not_among change.day.items before.items) (days_in old).items))
      (sym came_is)
      (added_are_new c change.day.number before.items change.day.items (days_in old).items alike
      (numbers_differ change.day.items rules.numbered)))

  module _ (tables : HasBoth day_tables old.now) (stands : change.day.state ≢ NotThere) where
    -- a row that isn't written is as it is
    row_kept : (s : DayState) → before.state ≡ s → is_other s (is_sealed change.day.state) ≡ false
        → put_day (is_there s) c (row_of_day change.day) (days_in old).days ≡ (days_in old).days
    row_kept NotThere is same = absurd (true≢false same)
    row_kept Open is same =
        let found = row_found ∙ ap (λ s. row_in s c before) is in
        let sealed : is_sealed change.day.state ≡ is_sealed before.state = same ∙ ap is_sealed (sym is) in
        stays found sealed
      where
        stays : find (is_day c change.day.number) (days_in old).days ≡ Some (c, row_of_day before)
            → is_sealed change.day.state ≡ is_sealed before.state
            → put_day true c (row_of_day change.day) (days_in old).days ≡ (days_in old).days
        stays found sealed =
            ap (λ b. put_day true c (record { number = change.day.number; sealed = b }) (days_in old).days) sealed
            ∙ row_stays c change.day.number (c, row_of_day before) (days_in old).days
            (days_rise old.now.trees tables.first) found
    row_kept Sealed is same =
        let found : find (is_day c change.day.number) (days_in old).days ≡ Some (c, row_of_day before) =
        row_found ∙ ap (λ s. row_in s c before) is in
        let sealed : is_sealed change.day.state ≡ is_sealed before.state =
        was_sealed (is_sealed change.day.state) same ∙ ap is_sealed (sym is) in
        ap (λ b. put_day true c (record { number = change.day.number; sealed = b }) (days_in old).days) sealed
        ∙ row_stays c change.day.number (c, row_of_day before) (days_in old).days (days_rise old.now.trees tables.first)
        found
      where
        was_sealed : (b : Bool) → not b ≡ false → b ≡ true
        was_sealed true h = refl
        was_sealed false h = absurd (true≢false h)

    row_turned : (ran : Bool) → is_row_written change ≡ ran
        → where_ran ran (row_put c change) (days_in old) ≡ row_put c change (days_in old)
    row_turned true written = refl
    row_turned false written =
        let same : is_other change.was (is_sealed change.day.state) ≡ false =
        first_false (is_other change.was (is_sealed change.day.state)) _ written in
        let kept = row_kept before.state refl (ap (λ s. is_other s (is_sealed change.day.state)) (sym was_is) ∙ same) in
        λ i. record (days_in old)
        { days = sym (ap (λ s. put_day (is_there s) c (row_of_day change.day) (days_in old).days) was_is ∙ kept) i }
      where
        first_false : (a b : Bool) → (a || b) ≡ false → a ≡ false
        first_false true b h = h
        first_false false b h = refl

    turned_is : turned c change (days_in old) ≡ put_rows (is_there change.was) c before.items change.day (days_in old)
    turned_is =
        ap (λ rows. where_ran (has_some change.inserted) (on_items (with_items c change.day.number change.inserted))
        (where_ran (has_some change.deleted) (on_items (without_items c change.day.number change.deleted)) rows))
        (row_turned (is_row_written change) refl)
        ∙ ap (where_ran (has_some change.inserted) (on_items (with_items c change.day.number change.inserted)))
        (all_out c change.day.number change.deleted (row_put c change (days_in old)))
        ∙ all_in c change.day.number change.inserted
        (on_items (without_items c change.day.number change.deleted) (row_put c change (days_in old)))
        ∙ (λ i. record {
          days = put_day (is_there change.was) c (row_of_day change.day) (days_in old).days;
          items =
              with_items c change.day.number (came_is i)
              (without_items c change.day.number (went_is i) (days_in old).items);
        })

    -- the day is put in its place
    pub puts_day : (last : State) → ChangesBoth day_tables (turned c change) old last → PutsDay c change.day old last
    puts_day last ran =
        let made : ChangesBoth day_tables (put_rows (is_there change.was) c before.items change.day) old last =
        days_same (turned c change) (put_rows (is_there change.was) c before.items change.day) old last ran
        turned_is in
        record {
          tables = made.tables;
          days = λ plan frames.
              ap (days_made plan) made.rows_are
              ∙ days_replaced plan c change.day (is_there change.was) before.items (days_in old) row_is_there alike
              own_before (days_rise old.now.trees tables.first)
              (subst (λ (s : DaySet). Rise item_cmp s.items) made.rows_are
              (items_rise last.now.trees made.tables.second)) frames stands rules.apart;
          owned =
              λ owned. subst OwnsItems (sym made.rows_are)
              (owned_kept c (is_there change.was) before.items change.day (days_in old) row_is_there owned);
          others = made.others;
          sound = made.sound;
          shown = made.shown;
        }
      where
        own_before : HaveOwnNumbers before.items
        own_before =
            subst HaveOwnNumbers (sym items_are)
            (own_sorted (items_at c change.day.number (days_in old).items)
            (own_numbers c change.day.number (days_in old).items (items_rise old.now.trees tables.second)))
