-- The loops of `are_airings_of` (whether what was aired of days of this channel, which has these days).
use Rattle.std.proofs.Common.{◌≡◌, drop}
use Rattle.channel_view_rules.proofs.AiringWalkLemmas.{airings_from}
use Rattle.channel_view_rules.proofs.airing_rules.are_airings_of.Given as goal

-- what is left decides
abbrev pub invariant-loop-row : goal.invariant-loop-row
invariant-loop-row l =
    airings_from l.plan l.days l.last (drop l.row-index l.airings) ≡ airings_from l.plan l.days 0 l.airings
