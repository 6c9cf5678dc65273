-- Tables of what was aired, walked row by row.
use Rattle.std.proofs.Common.{◌≡◌, ℕ, zero, suc, ◌<◌, ◌≤◌, length, get_or, List, [], ◌∷◌, Bool, true, false, ◌&&◌, refl}
use Rattle.std.proofs.Common.{sym, ◌∙◌, ap, subst, arith}
use Rattle.std.specs.Prelude.{◌==◌, nat_lt, map, find, slice_get, slice_index_or, Option, Some}
use Rattle.std.specs.List.{cons_option}
use Rattle.std.specs.List.Sorted.{IsNonDecreasingBy, IsPartitionPoint}
use Rattle.std.proofs.lemmas.Bool.Decides.{nat_tests}
use Rattle.std.proofs.lemmas.Option.{slice_get_past, slice_get_read}
use Rattle.channel_plan.specs.declared.plan.PlanRow.{PlanRow}
use Rattle.channel_plan.specs.Plan.{is_plan_in_order}
use Rattle.playlist_core.specs.Day.{Day}
use Rattle.asrun_match.specs.declared.day.DayAsRun.{DayAsRun}
use Rattle.channel_view_model.specs.Tables.{Table, rows_alone}
use Rattle.channel_view_model.specs.Rules.{numbers_rise, has_sealed, is_sealed, are_airings_of}
use Rattle.channel_view_model.proofs.AiringRuleLemmas.{none_past}
use Rattle.channel_view_model.proofs.DayWalkLemmas.{found_past}

-- rows of days, each with its channel or without
module _ {R : Type 0} (day : R → Day) where
  -- the numbers of days behind others
  number_past : (last : ℕ) (rs : List R) (j : ℕ) (d : R) → numbers_rise last (map day rs) ≡ true → j < length rs
      → last < (day (slice_index_or rs j d)).number
  number_past last [] j d rise lt = absurd (omega arith)
  number_past last (r ∷ rs) zero d rise lt = grind (arith, nat_tests, rise)
  number_past last (r ∷ rs) (suc j) d rise lt =
      let here : last < (day r).number = grind (arith, nat_tests, rise) in
      let rest = number_past (day r).number rs j d (grind (arith, rise)) (omega arith) in
      omega (arith, here, rest)

  pub numbers_sorted : (last : ℕ) (rs : List R) → numbers_rise last (map day rs) ≡ true
      → IsNonDecreasingBy (λ r. (day r).number) rs
  numbers_sorted last [] rise i j d le lt = absurd (omega arith)
  numbers_sorted last (r ∷ rs) rise zero zero d le lt = omega arith
  numbers_sorted last (r ∷ rs) rise zero (suc j) d le lt =
      let past = number_past (day r).number rs j d (grind (arith, rise)) (omega arith) in omega (arith, past)
  numbers_sorted last (r ∷ rs) rise (suc i) zero d le lt = absurd (omega arith)
  numbers_sorted last (r ∷ rs) rise (suc i) (suc j) d le lt =
      numbers_sorted (day r).number rs (grind (arith, rise)) i j d (omega arith) (omega arith)

  -- where the days with a number begin stands the sealed one with it, if there is one
  sealed_there : (n last : ℕ) (rs : List R) (k : ℕ) → numbers_rise last (map day rs) ≡ true
      → IsPartitionPoint (λ r. nat_lt (day r).number n ≡ true) (λ r. nat_lt (day r).number n ≡ false) rs k
      → k ≤ length rs → has_sealed n (map day (cons_option (slice_get rs k) [])) ≡ has_sealed n (map day rs)
  sealed_there n last [] k rise parts le = refl
  sealed_there n last (r ∷ rs) zero rise parts le =
      let from : nat_lt (day r).number n ≡ false = parts.1 0 r (omega arith) (omega arith) in
      let none = none_past n (day r).number (map day rs) (grind (arith, nat_tests, from)) (grind (arith, rise)) in
      grind (arith, none)
  sealed_there n last (r ∷ rs) (suc k) rise parts le =
      let before : nat_lt (day r).number n ≡ true = parts.0 0 r (omega arith) (omega arith) in
      let other : ((day r).number == n) ≡ false = grind (arith, nat_tests, before) in
      let rest =
      sealed_there n (day r).number rs k (grind (arith, rise)) (
        λ i d low lt. parts.0 (suc i) d (omega arith) (omega arith),
        λ i d low lt. parts.1 (suc i) d (omega arith)
            (omega arith),
      ) (omega arith) in
      grind (arith, other, rest)

  module _ (n : ℕ) (rs : List R) (k : ℕ) (rise : numbers_rise 0 (map day rs) ≡ true)
      (parts : IsPartitionPoint (λ r. nat_lt (day r).number n ≡ true) (λ r. nat_lt (day r).number n ≡ false) rs k)
      (le : k ≤ length rs) where
    pub none_sealed : length rs ≤ k → false ≡ has_sealed n (map day rs)
    none_sealed past =
        ap (λ (o : Option R). has_sealed n (map day (cons_option o []))) (sym (slice_get_past rs k past))
        ∙ sealed_there n 0 rs k rise parts le

    pub one_sealed : (r : R) → k < length rs → r ≡ get_or rs k r
        → ((day r).number == n && is_sealed (day r).state) ≡ has_sealed n (map day rs)
    one_sealed r lt read =
        let there =
        ap (λ (o : Option R). has_sealed n (map day (cons_option o [])))
        (sym (slice_get_read rs (length rs) k r refl lt read)) ∙ sealed_there n 0 rs k rise parts le in
        grind (arith, there)

-- each channel of a plan in order is found by its number
pub found_at : (plan : List PlanRow) (i : ℕ) (d : PlanRow) → is_plan_in_order plan ≡ true → i < length plan
    → find (λ q. q.ch == (slice_index_or plan i d).ch) plan ≡ Some (slice_index_or plan i d)
found_at [] i d order lt = absurd (omega arith)
found_at (q ∷ plan) zero d order lt = grind (arith, nat_tests)
found_at (q ∷ plan) (suc i) d order lt =
    let later = found_at plan i d (grind (arith, order)) (omega arith) in
    let other = found_past q plan (slice_index_or plan i d).ch (slice_index_or plan i d) (grind (arith, order)) later in
    grind (arith, other, later)

-- what was aired of days of a channel among the rows
abbrev pub airings_from : PlanRow → Table Day → ℕ → Table DayAsRun → Bool
airings_from plan days last rows = are_airings_of plan (rows_alone days) last (rows_alone rows)

pub found_in : (plan items : List PlanRow) (i : ℕ) (d : PlanRow) → items ≡ plan → is_plan_in_order plan ≡ true
    → i < length items → find (λ q. q.ch == (slice_index_or items i d).ch) plan ≡ Some (slice_index_or items i d)
found_in plan items i d same order lt =
    subst (λ ps. find (λ q. q.ch == (slice_index_or ps i d).ch) plan ≡ Some (slice_index_or ps i d)) (sym same)
    (found_at plan i d order (subst (λ ps. i < length ps) same lt))
