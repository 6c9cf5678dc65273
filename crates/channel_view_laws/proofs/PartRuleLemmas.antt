-- The rows of a closed part keep the rules.
use Rattle.std.proofs.Common.{◌≡◌, ℕ, Bool, true, sym, ◌∙◌, ap, subst, arith}
use Rattle.std.specs.Prelude.{◌==◌, Some}
use Rattle.channel_plan.specs.declared.plan.PlanRow.{PlanRow}
use Rattle.vault_core.specs.Rules.{KeepsOwnRules}
use Rattle.playlist_core.specs.Day.{KeepsDayRules}
use Rattle.asrun_match.specs.Aired.{KeepsAiringRules}
use Rattle.channel_view_model.specs.Tables.{rows_of}
use Rattle.channel_view_model.specs.Seen.{sources_seen}
use Rattle.channel_view_model.specs.Centre.{Centre, plan_of, seen_by}
use Rattle.channel_view_model.specs.Rules.{are_tables, are_days_of, has_days, are_airings_of, has_airings, KeepsRules}
use Rattle.channel_view_model.proofs.ViewLemmas.{found_channel}
use Rattle.channel_view_laws.specs.Parts.{rows_part}
use Rattle.channel_view_laws.proofs.PartTableLemmas.{each-filter, found-filter, plan_in_order-part, rows_of-part, table-part}
use Rattle.channel_view_laws.proofs.PartViewLemmas.{OffersWithin, plan_of-part, own_of-part, seen_by-part}

module _ (mine : ℕ → Bool) (rows : Centre)
    (within : (c : ℕ) → mine c ≡ true → (p : PlanRow) → plan_of c rows ≡ Some p → OffersWithin mine rows c) where
  -- a channel of the part's plan is in the part, with the row of the whole's
  in_part : (c : ℕ) (p : PlanRow) → plan_of c (rows_part mine rows) ≡ Some p → mine c ≡ true
  in_part c p known =
      ap mine (sym (found_channel c (rows_part mine rows).channels p known))
      ∙ found-filter (λ q. mine q.ch) (λ q. q.ch == c) rows.channels p known

  in_whole : (c : ℕ) (p : PlanRow) → plan_of c (rows_part mine rows) ≡ Some p → plan_of c rows ≡ Some p
  in_whole c p known = sym (plan_of-part mine rows c (in_part c p known)) ∙ known

  tables : KeepsRules rows → are_tables (rows_part mine rows) ≡ true
  tables rules =
      let h : are_tables rows ≡ true = rules.tables in
      let tapes = table-part mine rows.channels rows.tapes (grind (arith, h)) in
      let clips = table-part mine rows.channels rows.clips (grind (arith, h)) in
      let offers = table-part mine rows.channels rows.offers (grind (arith, h)) in
      grind (arith, tapes, clips, offers)

  days : KeepsRules rows → (c : ℕ) (p : PlanRow) → mine c ≡ true → plan_of c rows ≡ Some p
      → has_days (rows_part mine rows) c p ≡ true
  days rules c p is known =
      ap (λ s. are_days_of p (sources_seen s) 0 (rows_of c (rows_part mine rows).days))
      (seen_by-part mine rows c is (within c is p known) p)
      ∙ ap (are_days_of p (sources_seen (seen_by c p rows)) 0) (rows_of-part mine c is rows.days)
      ∙ rules.days.seen c p known

  airings : KeepsRules rows → (c : ℕ) (p : PlanRow) → mine c ≡ true → plan_of c rows ≡ Some p
      → has_airings (rows_part mine rows) c p ≡ true
  airings rules c p is known =
      ap (λ ds. are_airings_of p ds 0 (rows_of c (rows_part mine rows).aired)) (rows_of-part mine c is rows.days)
      ∙ ap (are_airings_of p (rows_of c rows.days) 0) (rows_of-part mine c is rows.aired)
      ∙ rules.aired.sealed c p known

  pub KeepsRules-part : KeepsRules rows → KeepsRules (rows_part mine rows)
  KeepsRules-part rules = record {
    plan = plan_in_order-part mine rows.channels rules.plan;
    tables = tables rules;
    own =
        λ c p known. subst KeepsOwnRules (sym (own_of-part mine rows c (in_part c p known) p))
        (rules.own c p (in_whole c p known));
    days = record {
      table = table-part mine rows.channels rows.days rules.days.table;
      each = each-filter (λ r. mine r.0) (λ r. KeepsDayRules r.1) rows.days rules.days.each;
      seen = λ c p known. days rules c p (in_part c p known) (in_whole c p known);
    };
    aired = record {
      table = table-part mine rows.channels rows.aired rules.aired.table;
      each = each-filter (λ r. mine r.0) (λ r. KeepsAiringRules r.1.aired) rows.aired rules.aired.each;
      sealed = λ c p known. airings rules c p (in_part c p known) (in_whole c p known);
    };
  }
