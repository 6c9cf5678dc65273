-- What the open says of what was aired, where the rules hold.
use Rattle.std.proofs.Common.{◌≡◌, ℕ, Bool, true, false, true≢false, ◌&&◌, cond, List, [], ◌∷◌, map, filter, length}
use Rattle.std.proofs.Common.{refl, sym, ap, ◌∙◌, subst, arith}
use Rattle.std.specs.Prelude.{◌==◌, ◌||◌, ◌^◌, nat_lt, nat_le}
use Rattle.std.specs.List.{AllByRecursion, list_all, list_any}
use Rattle.std.proofs.lemmas.Bool.Decides.{nat_tests}
use Rattle.channel_plan.specs.declared.plan.PlanRow.{PlanRow}
use Rattle.channel_plan.proofs.PlanLemmas.{plan-from_order}
use Rattle.playlist_core.specs.Day.{Day, KeepsDayRules}
use Rattle.asrun_match.specs.declared.day.DayAsRun.{DayAsRun}
use Rattle.asrun_match.specs.Aired.{KeepsAiringRules}
use Rattle.channel_view_model.specs.Centre.{Centre}
use Rattle.channel_view_model.specs.Rules.{KeepsRules, is_planned, is_sealed, has_sealed, are_airings_of}
use Rattle.channel_view_model.specs.Tables.{rows_of}
use Rattle.station_tables_records.specs.MadeDays.{Rise}
use Rattle.station_tables_records.specs.declared.aired_rows.BatchRow.{BatchRow}
use Rattle.station_tables_records.specs.MadeAirings.{AiredSet, HaveNoHoles, MakeAirings, airing_made, airings_made}
use Rattle.station_tables_records.specs.MadeAirings.{batch_cmp, line_cmp, batches_at, is_batch, is_first}
use Rattle.station_tables_records.specs.MadeAirings.{is_planned_batch}
use Rattle.station_tables_records.proofs.RunLemmas.{batch_there}
use Rattle.station_tables_records.specs.BatchRows.{batch_fits}
use Rattle.station_tables_records.specs.LineRows.{line_fits}
use Rattle.station_tables_statements.proofs.FitLemmas.{left, right, both_are, table_fits}
use Rattle.station_tables_statements.proofs.AiredFitLemmas.{set_batches_fit, set_lines_fit}

module _ (rows : Centre) (rules : KeepsRules rows) (set : AiredSet) (same : airings_made rows.channels set ≡ rows.aired)
    (rise : Rise batch_cmp set.batches) (up : Rise line_cmp set.lines) (whole : HaveNoHoles set) where
  -- ---- the channel of each batch is planned

  abbrev are_planned : List (ℕ × DayAsRun) → Bool
  are_planned airings = list_all (λ r. is_planned rows.channels r.0) airings

  firsts_planned : are_planned (airings_made rows.channels set) ≡ true
  firsts_planned = ap are_planned same ∙ right _ _ rules.aired.table

  module _ (c n : ℕ) where
    first_planned : (bs : List (ℕ × BatchRow))
        → are_planned (map (airing_made rows.channels set) (filter is_first bs)) ≡ true
        → list_any (is_batch c n 1) bs ≡ true → is_planned rows.channels c ≡ true
    first_planned [] all there = absurd (true≢false (sym there))
    first_planned (b ∷ bs) all there = by (is_first b) (is_batch c n 1 b) refl refl all there (first_planned bs)
      where
        by : (e f : Bool) → is_first b ≡ e → is_batch c n 1 b ≡ f
            → are_planned (map (airing_made rows.channels set) (cond e (b ∷ filter is_first bs) (filter is_first bs)))
            ≡ true
            → (f || list_any (is_batch c n 1) bs) ≡ true
            → (are_planned (map (airing_made rows.channels set) (filter is_first bs)) ≡ true
            → list_any (is_batch c n 1) bs ≡ true → is_planned rows.channels c ≡ true)
            → is_planned rows.channels c ≡ true
        by true true first mine all there rest =
            let ch : b.0 ≡ c = grind (arith, nat_tests, mine) in
            subst (λ m. is_planned rows.channels m ≡ true) ch (left _ _ all)
        by true false first mine all there rest = rest (right _ _ all) there
        by false true first mine all there rest = absurd (true≢false (grind (arith, nat_tests, first, mine)))
        by false false first mine all there rest = rest all there

    batch_planned : (k : ℕ) → list_any (is_batch c n k) set.batches ≡ true → is_planned rows.channels c ≡ true
    batch_planned k there =
        let all : (nat_lt 0 k && nat_le k (length (batches_at c n set))) ≡ true =
        sym (batch_there c n set rise whole.batches k) ∙ there in
        first_planned set.batches firsts_planned
        (batch_there c n set rise whole.batches 1 ∙ grind (arith, nat_tests, all))

  all_planned : (bs : List (ℕ × BatchRow))
      → ((c n k : ℕ) → list_any (is_batch c n k) bs ≡ true → list_any (is_batch c n k) set.batches ≡ true)
      → list_all (is_planned_batch rows.channels) bs ≡ true
  all_planned [] among = refl
  all_planned (b ∷ bs) among =
      both_are _ _ (batch_planned b.0 b.1.day b.1.number (among b.0 b.1.day b.1.number (grind (arith, nat_tests))))
      (all_planned bs (λ c n k there. among c n k (or_later (is_batch c n k b) there)))
    where
      or_later : (a : Bool) {e : Bool} → e ≡ true → (a || e) ≡ true
      or_later true h = refl
      or_later false h = h

  -- The rows make airings that keep the rules.
  pub makes_airings : MakeAirings rows.channels set
  makes_airings =
      record {
        whole = whole;
        planned = all_planned set.batches (λ c n k there. there);
        rules =
            subst (AllByRecursion (λ r. KeepsAiringRules r.1.aired)) (sym same) rules.aired.each;
      }

  -- ---- the number of each day has 32 bits

  each_kept : (c : ℕ) (days : List (ℕ × Day)) → AllByRecursion (λ r. KeepsDayRules r.1) days
      → AllByRecursion KeepsDayRules (rows_of c days)
  each_kept c [] each = tt
  each_kept c (r ∷ rs) each = by (r.0 == c) (each_kept c rs each.1)
    where
      by : (e : Bool) → AllByRecursion KeepsDayRules (rows_of c rs)
          → AllByRecursion KeepsDayRules
          (map (λ (s : ℕ × Day). s.1)
          (cond e (r ∷ filter (λ (s : ℕ × Day). s.0 == c) rs) (filter (λ (s : ℕ × Day). s.0 == c) rs)))
      by true rest = (each.0, rest)
      by false rest = rest

  sealed_small : (n : ℕ) (days : List Day) → AllByRecursion KeepsDayRules days → has_sealed n days ≡ true
      → nat_lt n (2 ^ 32) ≡ true
  sealed_small n [] each there = absurd (true≢false (sym there))
  sealed_small n (d ∷ ds) each there = by (d.number == n) (is_sealed d.state) refl there (sealed_small n ds each.1)
    where
      by : (e f : Bool) → (d.number == n) ≡ e → ((e && f) || has_sealed n ds) ≡ true
          → (has_sealed n ds ≡ true → nat_lt n (2 ^ 32) ≡ true) → nat_lt n (2 ^ 32) ≡ true
      by true true mine there rest = let most = each.0.digits in grind (arith, nat_tests, mine, most)
      by true false mine there rest = rest there
      by false f other there rest = rest there

  airings_small : (p : PlanRow) (days : List Day) (last : ℕ) (more : List DayAsRun) → AllByRecursion KeepsDayRules days
      → are_airings_of p days last more ≡ true → AllByRecursion (λ a. nat_lt a.day (2 ^ 32) ≡ true) more
  airings_small p days last [] each are = tt
  airings_small p days last (a ∷ more) each are =
      (sealed_small a.day days each (grind (arith, are)), airings_small p days a.day more each (grind (arith, are)))

  days_small : AllByRecursion (λ a. nat_lt a.1.day (2 ^ 32) ≡ true) (airings_made rows.channels set)
  days_small =
      subst (AllByRecursion (λ a. nat_lt a.1.day (2 ^ 32) ≡ true)) (sym same)
      (table_fits (λ a. nat_lt a.1.day (2 ^ 32)) rows rows.aired (right _ _ rules.aired.table)
      (λ c p known. airings_small p (rows_of c rows.days) 0 (rows_of c rows.aired)
      (each_kept c rows.days rules.days.each) (rules.aired.sealed c p known)))

  -- ---- the rows fit their columns

  pub batches_fit : AllByRecursion (λ b. batch_fits b ≡ true) set.batches
  batches_fit =
      set_batches_fit rows.channels (plan-from_order rows.channels rules.plan) set rise up makes_airings days_small

  pub lines_fit : AllByRecursion (λ r. line_fits r ≡ true) set.lines
  lines_fit =
      set_lines_fit rows.channels (plan-from_order rows.channels rules.plan) set rise up makes_airings days_small
