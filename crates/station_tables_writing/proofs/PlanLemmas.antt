-- The plan of a new centre, channel after channel.
use Rattle.std.proofs.Common.{◌≡◌, ℕ, cond, subst, true, false, List, [], ◌∷◌, refl, ap, ◌∙◌, arith, Less}
use Rattle.std.specs.Prelude.{◌==◌, nat_lt, find, Some, IsPermutation, IsSorted}
use Rattle.std.specs.List.{AllByRecursion, list_any, list_all}
use Rattle.std.proofs.lemmas.Bool.Decides.{nat_tests}
use Rattle.std.proofs.lemmas.List.Sorted.{IsPermutation-sym}
use Rattle.sqlite_keyed.specs.Lists.{insert_sorted, sort_by}
use Rattle.sqlite_keyed.proofs.ListLemmas.{all_weaker, ascending_weaker, none_from_any}
use Rattle.sqlite_keyed.proofs.SortLemmas.{IsPermutation-sort_by, sorted_is-sort_by}
use Rattle.sqlite_trees.specs.Tree.{IsAscending}
use Rattle.sqlite.specs.Effect.{IsDatabase}
use Rattle.sqlite.specs.State.{State}
use Rattle.channel_view_model.specs.Rules.{KeepsRules}
use Rattle.vault_core.proofs.RuleLemmas.{no_tape_kept}
use Rattle.channel_plan.specs.declared.plan.PlanRow.{PlanRow}
use Rattle.channel_plan.specs.Plan.{is_plan, is_plan_row, is_plan_in_order}
use Rattle.station_tables_records.specs.Table.{LacksKeyOf}
use Rattle.station_tables_records.specs.Content.{HaveKeys}
use Rattle.station_tables_records.proofs.SortLemmas.{is_sorted-sort_by}
use Rattle.station_tables_records.proofs.KeyLemmas.{Rise, rise_from_sorted}
use Rattle.station_tables_records.proofs.WriteLemmas.{all_permutes, ascending_permutes}
use Rattle.station_tables_records.specs.ChannelRows.{channel_cmp, channel_table}
use Rattle.station_tables_statements.specs.Rows.{Changes, HoldsSet, OwnsRows, on_channels, plan_in_order}
use Rattle.station_tables_records.proofs.ChannelRowLemmas.{channel_cmp_total}
use Rattle.station_tables_writing.specs.Tables.{IsNewCentre}

-- no channel
pub grown_none : (s : State) → IsNewCentre s → Changes (λ _. plan_in_order []) s s × OwnsRows s.now.trees
grown_none s new = (
  record {
    centre = new.centre;
    content = new.rows_are;
    owned = λ owned. owned;
    sound = λ was_sound. was_sound;
    shown =
        record { was_open = new.is_open; is_open = new.is_open; now_is = refl; committed_is = refl; mode = new.mode };
  },
  new.owned,
)

-- a channel more
pub grown : (old inside new : State) (x : PlanRow) (xs : List PlanRow) → Changes (λ _. plan_in_order xs) old inside
    → Changes (on_channels (insert_sorted channel_cmp x)) inside new → Changes (λ _. plan_in_order (x ∷ xs)) old new
grown old inside new x xs a b = record {
  centre = b.centre;
  content = b.content ∙ ap (on_channels (insert_sorted channel_cmp x)) a.content;
  owned = λ owned. b.owned (a.owned owned);
  sound = λ was_sound. b.sound (a.sound was_sound);
  shown =
      record {
        was_open = a.shown.was_open;
        is_open = b.shown.is_open;
        now_is = refl;
        committed_is =
            b.shown.committed_is ∙ a.shown.committed_is;
        mode = b.shown.mode;
      };
}

pub plan_parts : (x : PlanRow) (xs : List PlanRow) → is_plan (x ∷ xs) ≡ true
    → (is_plan_row x ≡ true) × (list_any (λ other. other.ch == x.ch) xs ≡ false) × (is_plan xs ≡ true)
plan_parts x xs h = (grind (arith, h), grind (arith, h), grind (arith, h))

-- its number is none of the others'
pub new_channel : (x : PlanRow) (xs : List PlanRow) → is_plan (x ∷ xs) ≡ true
    → LacksKeyOf channel_table x (sort_by channel_cmp xs)
new_channel x xs h = all_permutes _ _ _ (IsPermutation-sym _ _ (IsPermutation-sort_by channel_cmp channel_cmp_total xs))
    (all_weaker _ _ (λ u other. grind (arith, nat_tests, other)) xs (none_from_any _ xs (plan_parts x xs h).1))

-- The plan keeps its rules in any order.

abbrev Differ : PlanRow → PlanRow → Type 0
Differ a b = (b.ch == a.ch) ≡ false

plan_rows : (xs : List PlanRow) → is_plan xs ≡ true
    → AllByRecursion (λ p. is_plan_row p ≡ true) xs × IsAscending Differ xs
plan_rows [] h = (tt, tt)
plan_rows (x ∷ xs) h =
    let parts = plan_parts x xs h in
    let more = plan_rows xs parts.2 in
    ((parts.0, more.0), (none_from_any _ xs parts.1, more.1))

-- each has a number of its own
plan_keys : (plan : List PlanRow) → is_plan plan ≡ true → HaveKeys channel_cmp plan
plan_keys plan h = ascending_weaker _ _ (λ a b differ. grind (arith, nat_tests, differ)) plan (plan_rows plan h).1

-- rows that are sorted by number are the plan in order
pub sorted_plan : (plan rows : List PlanRow) → is_plan plan ≡ true → IsPermutation plan rows → IsSorted channel_cmp rows
    → rows ≡ (plan_in_order plan).channels
sorted_plan plan rows h same sorted =
    sorted_is-sort_by channel_cmp channel_cmp_total plan rows (plan_keys plan h) same sorted

all_above : (row : PlanRow) (rows : List PlanRow) → AllByRecursion (λ other. channel_cmp row other ≡ Less) rows
    → list_all (λ (other : PlanRow). nat_lt row.ch other.ch) rows ≡ true
all_above row [] above = refl
all_above row (other ∷ rows) above = grind (arith, nat_tests, above.0, all_above row rows above.1)

in_order : (xs : List PlanRow) → AllByRecursion (λ p. is_plan_row p ≡ true) xs → Rise channel_cmp xs
    → is_plan_in_order xs ≡ true
in_order [] each rise = refl
in_order (x ∷ xs) each rise = grind (arith, each.0, all_above x xs rise.0, in_order xs each.1 rise.1)

sorted_rows : (plan : List PlanRow) → is_plan plan ≡ true
    → AllByRecursion (λ p. is_plan_row p ≡ true) (sort_by channel_cmp plan)
sorted_rows plan h =
    all_permutes _ plan (sort_by channel_cmp plan)
    (IsPermutation-sym _ _ (IsPermutation-sort_by channel_cmp channel_cmp_total plan)) (plan_rows plan h).0

sorted_in_order : (plan : List PlanRow) → is_plan plan ≡ true → is_plan_in_order (sort_by channel_cmp plan) ≡ true
sorted_in_order plan h =
    let rows = plan_rows plan h in
    let sorted = sort_by channel_cmp plan in
    let same = IsPermutation-sym _ _ (IsPermutation-sort_by channel_cmp channel_cmp_total plan) in
    let apart = ascending_permutes Differ (λ a b apart. grind (arith, nat_tests, apart)) plan sorted same rows.1 in
    let keys : HaveKeys channel_cmp sorted =
    ascending_weaker _ _ (λ a b differ. grind (arith, nat_tests, differ)) sorted apart in
    in_order sorted (sorted_rows plan h)
    (rise_from_sorted channel_cmp channel_cmp_total sorted keys
    (is_sorted-sort_by channel_cmp channel_cmp_total plan))

-- a row that is found passes what each passes
found_row : (xs : List PlanRow) → AllByRecursion (λ p. is_plan_row p ≡ true) xs → (c : ℕ) (p : PlanRow)
    → find (λ (q : PlanRow). q.ch == c) xs ≡ Some p → is_plan_row p ≡ true
found_row [] each c p known = absurd (let e = known in cc)
found_row (x ∷ xs) each c p known =
    elim (x.ch == c) as (λ b. cond b (Some x) (find (λ (q : PlanRow). q.ch == c) xs) ≡ Some p → is_plan_row p ≡ true) [
      | true ↦ λ e. let same : x ≡ p = cc in subst (λ (q : PlanRow). is_plan_row q ≡ true) same each.0
      | false ↦ λ e. found_row xs each.1 c p e
    ] known

plan_keeps_rules : (plan : List PlanRow) → is_plan plan ≡ true → KeepsRules (plan_in_order plan)
plan_keeps_rules plan h = record {
  plan = sorted_in_order plan h;
  tables = refl;
  own = λ c p known. no_tape_kept p (found_row (sort_by channel_cmp plan) (sorted_rows plan h) c p known);
  days = record { table = refl; each = tt; seen = λ c p known. refl };
  aired = record { table = refl; each = tt; sealed = λ c p known. refl };
}

-- the set that a plan was made into
pub holds_plan : (plan : List PlanRow) → is_plan plan ≡ true → (old new : State) → IsDatabase old.now
    → Changes (λ _. plan_in_order plan) old new × OwnsRows new.now.trees → HoldsSet (plan_in_order plan) new.now
holds_plan plan h old new was_sound made =
    record {
      centre = made.0.centre;
      sound = made.0.sound was_sound;
      rows_are = made.0.content;
      owned = made.1;
      rules =
          plan_keeps_rules plan h;
    }
