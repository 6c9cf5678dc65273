-- The loops of `keeps_days` (whether the days are a table of the plan's channels).
use Rattle.std.proofs.Common.{◌≡◌, drop}
use Rattle.channel_view_model.specs.Rules.{has_days}
use Rattle.channel_view_model.proofs.DayWalkLemmas.{each_has}
use Rattle.channel_view_rules.proofs.day_rules.keeps_days.Given as goal

-- what is left decides
abbrev pub invariant-loop-plan : goal.invariant-loop-plan
invariant-loop-plan l =
    each_has (has_days l.rows) (drop l.plan-index l.rows.channels) ≡ each_has (has_days l.rows) l.rows.channels
