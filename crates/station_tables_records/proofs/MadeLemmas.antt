-- The day that a row and items make.
use Rattle.std.proofs.Common.{◌≡◌, ℕ, ◌+◌, ◌<◌, ◌≤◌, List, [], ◌∷◌, true, true≢false, Some, None, sym, ap, ◌∙◌, arith}
use Rattle.std.proofs.Common.{Less, nat_cmp, IsPermutation, length, get_or, subst, Result, Ok, Err, IfErr}
use Rattle.std.specs.Result.{IsErrAnd}
use Rattle.std.specs.Prelude.{find, ◌==◌, is_some}
use Rattle.std.specs.List.{AllByRecursion, list_any}
use Rattle.std.specs.Cmp.{IsTotalOrder}
use Rattle.std.proofs.lemmas.Cmp.{on_total, nat_cmp_total}
use Rattle.std.proofs.lemmas.Bool.Decides.{nat_tests}
use Rattle.std.proofs.lemmas.List.Sorted.{IsPermutation-sym, IsPermutation-trans}
use Rattle.sqlite_keyed.specs.Lists.{sort_by}
use Rattle.sqlite_keyed.proofs.ListLemmas.{all_weaker, all_from_test, all_unmap}
use Rattle.sqlite_trees.proofs.ListLemmas.{all-get_or}
use Rattle.sqlite_keyed.proofs.SortLemmas.{sorted_unique, IsPermutation-sort_by}
use Rattle.sqlite_keyed.proofs.SliceLemmas.{any_is_found}
use Rattle.station_tables_records.proofs.SortLemmas.{is_sorted-sort_by}
use Rattle.channel_plan.specs.declared.plan.PlanRow.{PlanRow}
use Rattle.playlist_core.specs.declared.item.Item.{Item}
use Rattle.playlist_core.specs.Item.{planned}
use Rattle.playlist_core.specs.Order.{AreApart, end_of}
use Rattle.playlist_core.specs.Day.{Day, KeepsDayRules}
use Rattle.station_tables_records.specs.declared.day_rows.DayRow.{DayRow}
use Rattle.station_tables_records.specs.MadeDays.{Rise, position_cmp, made_day, day_made, state_of, is_planned_day}
use Rattle.station_tables_records.specs.MadeDays.{DaySet}
use Rattle.station_tables_records.specs.MadeDays.{MakeDays}

pub position_total : IsTotalOrder position_cmp
position_total = on_total (λ (i : Item). i.pos) nat_cmp_total

-- items that lie apart stand by their positions
from_place : (from to : ℕ) (is : List Item) → AreApart planned from to is → AllByRecursion (λ j. from ≤ j.pos) is
from_place from to [] apart = tt
from_place from to (i ∷ is) apart = (
  apart.0,
  all_weaker _ (λ (j : Item). from ≤ j.pos) (λ j le. omega (arith, apart.0, le)) is
      (from_place (end_of (planned i)) to is apart.2),
)

pub apart_rise : (from to : ℕ) (is : List Item) → AreApart planned from to is → Rise position_cmp is
apart_rise from to [] apart = tt
apart_rise from to (i ∷ is) apart = (
  all_weaker _ (λ (j : Item). position_cmp i j ≡ Less) (λ j le. behind i j apart.1 le) is
      (from_place (end_of (planned i)) to is apart.2),
  apart_rise (end_of (planned i)) to is apart.2,
)
  where
    behind : (i j : Item) → 0 < i.frames → i.pos + i.frames ≤ j.pos → nat_cmp i.pos j.pos ≡ Less
    behind i j some le = grind (arith, nat_tests, some, le)

-- so they are the sorted list of their rows
pub sorted_items : (from to : ℕ) (items is : List Item) → IsPermutation items is → AreApart planned from to is
    → is ≡ sort_by position_cmp items
sorted_items from to items is same apart =
    sym (sorted_unique position_cmp position_total is (sort_by position_cmp items) (apart_rise from to is apart)
    (IsPermutation-trans _ _ _ (IsPermutation-sym _ _ same)
    (IsPermutation-sym _ _ (IsPermutation-sort_by position_cmp position_total items)))
    (is_sorted-sort_by position_cmp position_total items))

-- a day of these items is the one that is made of them
pub made_is : (day : Day) (frames : ℕ) (items : List Item) (row : DayRow)
    → (day.number ≡ row.number) × (day.frames ≡ frames) × (day.state ≡ state_of row) × IsPermutation items day.items
    → KeepsDayRules day
    → day ≡ made_day frames items row
made_is day frames items row is rules =
    λ i. record {
      number = is.0 i;
      frames = is.1 i;
      state = is.2 i;
      items =
          sorted_items 0 day.frames items day.items is.3 rules.apart i;
    }

-- where no order of the items keeps the rules, the one by positions doesn't
pub none_made : (frames : ℕ) (items : List Item) (row : DayRow)
    → ((order : List Item) → IsPermutation items order
    → KeepsDayRules (record { number = row.number; frames = frames; state = state_of row; items = order }) → ⊥)
    → KeepsDayRules (made_day frames items row) → ⊥
none_made frames items row none =
    none (sort_by position_cmp items) (IsPermutation-sym _ _ (IsPermutation-sort_by position_cmp position_total items))

-- whether a channel is planned
pub planned_found : (c : ℕ) (plan : List PlanRow) (p : PlanRow) → Some p ≡ find (λ q. q.ch == c) plan
    → list_any (λ q. q.ch == c) plan ≡ true
planned_found c plan p is = any_is_found (λ q. q.ch == c) plan ∙ ap is_some (sym is)

pub planned_none : (c : ℕ) (plan : List PlanRow) → None ≡ find (λ q. q.ch == c) plan
    → list_any (λ q. q.ch == c) plan ≡ true → ⊥
planned_none c plan none there = true≢false (sym there ∙ any_is_found (λ q. q.ch == c) plan ∙ ap is_some (sym none))

-- a day that breaks the rules is none of those that rows make
pub refused_at : (plan : List PlanRow) (rows : DaySet) (i : ℕ) (d : ℕ × DayRow) → i < length rows.days
    → (is_planned_day plan (get_or rows.days i d) ≡ true
    → KeepsDayRules (day_made plan rows.items (get_or rows.days i d)).1 → ⊥) → MakeDays plan rows → ⊥
refused_at plan rows i d lt bad made =
    bad
    (all-get_or (λ r. is_planned_day plan r ≡ true) rows.days i d
    (all_from_test (is_planned_day plan) rows.days made.planned) lt)
    (all-get_or (λ r. KeepsDayRules (day_made plan rows.items r).1) rows.days i d
    (all_unmap (λ r. KeepsDayRules r.1) (day_made plan rows.items) rows.days made.rules) lt)

-- what is said of the error that `?` hands on
pub handed_on : {X E : Type 0} (P : E → Type 0) (e : E) (r : Result X E) → IsErrAnd r (λ v. v ≡ e) → P e → IfErr r P
handed_on P e (Ok x) same h = tt
handed_on P e (Err v) same h = subst P (sym same) h
