-- What a channel sees of rows that keep the rules.
use Rattle.std.proofs.Common.{◌≡◌, ℕ, refl, sym, ◌∙◌, ap}
use Rattle.std.specs.Prelude.{Option, Some, None, IfSome}
use Rattle.std.specs.Option.{option_map}
use Rattle.channel_plan.specs.declared.plan.PlanRow.{PlanRow}
use Rattle.channel_view_model.specs.Tables.{rows_of}
use Rattle.channel_view_model.specs.Seen.{Seen, sources_seen}
use Rattle.channel_view_model.specs.Centre.{Centre, plan_of, view_at, view_of}
use Rattle.channel_view_model.specs.Rules.{KeepsRules, are_days_of}
use Rattle.channel_view_model.proofs.StepLemmas.{seen_is}
use Rattle.channel_view_rules.specs.ViewRules.{KeepsViewRules}

-- what a channel finds in the set, it finds in what it sees
pub view_kept : (rows : Centre) (c : ℕ) → KeepsRules rows → IfSome (view_of c rows) KeepsViewRules
unfolding view_of
view_kept rows c kept = of (plan_of c rows) refl
  where
    of : (o : Option PlanRow) → plan_of c rows ≡ o → IfSome (option_map (view_at c rows) o) KeepsViewRules
    of None is = tt
    of (Some p) is =
        record {
          days =
              ap (λ (s : Seen). are_days_of p (sources_seen s) 0 (rows_of c rows.days)) (sym (seen_is c p rows))
              ∙ kept.days.seen c p is;
          aired = kept.aired.sealed c p is;
        }
