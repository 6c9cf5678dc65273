-- The loops of `are_airings_of` (whether what was aired is of sealed ones of the days, their numbers rising).
use Rattle.std.proofs.Common.{◌≡◌, drop}
use Rattle.channel_view_model.specs.Rules.{are_airings_of}
use Rattle.channel_view_rules.proofs.view_rules.are_airings_of.Given as goal

-- what is left decides
abbrev pub invariant-loop-airing : goal.invariant-loop-airing
invariant-loop-airing l =
    are_airings_of l.plan l.days l.last (drop l.airing-index l.airings) ≡ are_airings_of l.plan l.days 0 l.airings
