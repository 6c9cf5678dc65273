-- The loops of `keeps_airings` (whether what was aired is a table of the plan's channels).
use Rattle.std.proofs.Common.{◌≡◌, drop}
use Rattle.channel_view_model.specs.Rules.{has_airings}
use Rattle.channel_view_model.proofs.DayWalkLemmas.{each_has}
use Rattle.channel_view_rules.proofs.airing_rules.keeps_airings.Given as goal

-- what is left decides
abbrev pub invariant-loop-plan : goal.invariant-loop-plan
invariant-loop-plan l =
    each_has (has_airings l.rows) (drop l.plan-index l.rows.channels) ≡ each_has (has_airings l.rows) l.rows.channels
