-- The loops of `are_days_of` (whether the days of a channel have rising numbers and show what is there).
use Rattle.std.proofs.Common.{◌≡◌, drop, map}
use Rattle.channel_view_model.specs.Rules.{are_days_of}
use Rattle.channel_view_rules.proofs.day_rules.are_days_of.Given as goal

-- what is left decides
abbrev pub invariant-loop-row : goal.invariant-loop-row
invariant-loop-row g l =
    are_days_of l.plan (g.S.Sources.seen l.sources) l.last (map g.D.OfDay.day_of (drop l.row-index l.days))
    ≡ are_days_of l.plan (g.S.Sources.seen l.sources) 0 (map g.D.OfDay.day_of l.days)
