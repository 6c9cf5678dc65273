-- The loops of `keeps_own_tables` (whether the channels are a plan in order).
use Rattle.std.proofs.Common.{◌≡◌, true, drop}
use Rattle.channel_plan.specs.Plan.{is_plan_in_order}
use Rattle.channel_view_model.specs.Rules.{KeepsTables}
use Rattle.channel_view_model.proofs.WalkLemmas.{Lists, set_of}
use Rattle.channel_view_rules.proofs.rules.keeps_own_tables.Given as goal

-- what is left decides
abbrev pub invariant-loop-plan : goal.invariant-loop-plan
invariant-loop-plan l =
    let left : Lists =
    record {
      tapes = l.left.tapes.now;
      clips = l.left.clips.now;
      offers = l.left.offers.now;
      days = l.rows.days;
      aired =
          l.rows.aired;
    } in
    record {
      order : is_plan_in_order (drop l.plan-index l.rows.channels) ≡ true;
      kept : KeepsTables (set_of (drop l.plan-index l.rows.channels) left) → KeepsTables l.rows;
      broken : KeepsTables l.rows → KeepsTables (set_of (drop l.plan-index l.rows.channels) left);
    }
