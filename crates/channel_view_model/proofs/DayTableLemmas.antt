-- A channel's days among those of all channels.
use Rattle.std.proofs.Common.{◌≡◌, ℕ, List, [], ◌∷◌, Bool, true, false, refl, sym, subst, arith}
use Rattle.std.specs.Prelude.{◌==◌, nat_lt, find, map, filter, Option, Some, None, if◌then◌else◌}
use Rattle.std.specs.List.{list_all, AllByRecursion}
use Rattle.std.proofs.lemmas.Bool.Decides.{nat_tests}
use Rattle.channel_plan.specs.declared.plan.PlanRow.{PlanRow}
use Rattle.vault_core.specs.Questions.{Questions, replaced}
use Rattle.playlist_core.specs.Source.{SourcesSeen}
use Rattle.playlist_core.specs.Day.{Day, KeepsDayRules}
use Rattle.channel_view_model.specs.Tables.{Table, rows_of, of_channel, replace_row}
use Rattle.channel_view_model.specs.Days.{is_day_number, no_day, day_or, day_at}
use Rattle.channel_view_model.specs.Rules.{source_holds, is_day_of, are_days_of, is_planned, is_table_of}
use Rattle.channel_view_model.proofs.TableLemmas.{picked_is, in_order-replace, all-replace}
use Rattle.channel_view_model.proofs.DayRuleLemmas.{IsHeld, not_there_held}

-- the days of a channel keep their rules where all do
each-rows_of : (c : ℕ) (t : Table Day) → AllByRecursion (λ r. KeepsDayRules r.1) t
    → AllByRecursion KeepsDayRules (rows_of c t)
each-rows_of c [] each = tt
each-rows_of c (r ∷ rs) each =
    elim (r.0 == c)
    as (λ b. AllByRecursion KeepsDayRules
    (map (λ s. s.1) (if b then r ∷ filter (λ s. s.0 == c) rs else filter (λ s. s.0 == c) rs))) [
      | true ↦ (each.0, each-rows_of c rs each.1)
      | false ↦ each-rows_of c rs each.1
    ]

module _ (plan : PlanRow) (seen : SourcesSeen) where
  -- one of the days is held
  one_held : (n last : ℕ) (days : List Day) (day : Day) → AllByRecursion KeepsDayRules days
      → are_days_of plan seen last days ≡ true → find (λ d. d.number == n) days ≡ Some day → IsHeld plan seen n day
  one_held n last [] day each are is = absurd (cc)
  one_held n last (d ∷ days) day each are is =
      by (d.number == n) refl (one_held n d.number days day each.1 (grind (arith, are)))
    where
      by : (b : Bool) → (d.number == n) ≡ b → (find (λ d. d.number == n) days ≡ Some day → IsHeld plan seen n day)
          → IsHeld plan seen n day
      by true here rest =
          let same : d ≡ day = grind (arith, here, is) in
          let its : d.number ≡ n = grind (arith, nat_tests, here) in
          let shown : list_all (λ i. source_holds plan d.number seen i i.src) d.items ≡ true = grind (arith, are) in
          subst (IsHeld plan seen n) same
          (record {
            rules = each.0;
            frames = grind (arith, nat_tests, are);
            held =
                subst (λ k. list_all (λ i. source_holds plan k seen i i.src) d.items ≡ true) its shown;
            number = its;
          })
      by false other rest = rest (grind (arith, other, is))

  -- the day that a command is about, there or not
  pub day_held : (c n : ℕ) (t : Table Day) → is_day_number n ≡ true → AllByRecursion (λ r. KeepsDayRules r.1) t
      → are_days_of plan seen 0 (rows_of c t) ≡ true → IsHeld plan seen n (day_at plan (of_channel c t) n)
  day_held c n t is each are =
      subst (λ (days : Questions Day). IsHeld plan seen n (day_at plan days n))
      (sym (picked_is (λ r. r.0 == c) (λ r. r.1) t))
      (by (find (λ d. d.number == n) (rows_of c t)) refl)
    where
      by : (o : Option Day) → find (λ d. d.number == n) (rows_of c t) ≡ o
          → IsHeld plan seen n (day_or (no_day plan n) o)
      by None there = not_there_held plan seen n is
      by (Some day) there = one_held n 0 (rows_of c t) day (each-rows_of c t each) are there

  -- the days with this one
  pub days-replaced : (last : ℕ) (day : Day) (days : List Day) → nat_lt last day.number ≡ true
      → is_day_of plan seen day ≡ true → are_days_of plan seen last days ≡ true
      → are_days_of plan seen last (replaced (λ d. d.number) day days) ≡ true
  days-replaced last day [] above is are = grind (arith, above, is)
  days-replaced last day (d ∷ days) above is are =
      by (d.number == day.number) refl (λ past. days-replaced d.number day days past is (grind (arith, are)))
    where
      by : (b : Bool) → (d.number == day.number) ≡ b
          → (nat_lt d.number day.number ≡ true
          → are_days_of plan seen d.number (replaced (λ d. d.number) day days) ≡ true)
          → are_days_of plan seen last
          (if b then day ∷ days else if nat_lt day.number d.number then day ∷ d ∷ days else d
          ∷ replaced (λ d. d.number) day days) ≡ true
      by true same later =
          let number : d.number ≡ day.number = grind (arith, nat_tests, same) in
          let rest : are_days_of plan seen day.number days ≡ true =
          subst (λ n. are_days_of plan seen n days ≡ true) number (grind (arith, are)) in
          grind (arith, above, is, rest)
      by false other later = before (nat_lt day.number d.number) refl
        where
          before : (b : Bool) → nat_lt day.number d.number ≡ b
              → are_days_of plan seen last (if b then day ∷ d ∷ days else d ∷ replaced (λ d. d.number) day days) ≡ true
          before true lt = grind (arith, above, is, are, lt)
          before false lt =
              let past : nat_lt d.number day.number ≡ true = grind (arith, nat_tests, other, lt) in
              let rest = later past in
              grind (arith, are, rest)

pub table-replace : {A : Type 0} (key : A → ℕ) (plan : List PlanRow) (c : ℕ) (x : A) (t : Table A)
    → is_planned plan c ≡ true → is_table_of plan t ≡ true → is_table_of plan (replace_row key c x t) ≡ true
table-replace key plan c x t known h =
    let order = in_order-replace key c x t (grind (arith, h)) in
    let planned = all-replace key (λ r. is_planned plan r.0) c x t known (grind (arith, h)) in
    grind (arith, order, planned)
