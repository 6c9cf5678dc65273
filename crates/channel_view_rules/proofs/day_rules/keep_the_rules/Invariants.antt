-- The loops of `keep_the_rules` (each day keeps the rules of a day).
use Rattle.std.proofs.Common.{drop}
use Rattle.std.specs.List.{AllByRecursion}
use Rattle.playlist_core.specs.Day.{KeepsDayRules}
use Rattle.channel_view_rules.proofs.day_rules.keep_the_rules.Given as goal

-- what is left decides
abbrev pub invariant-loop-row : goal.invariant-loop-row
invariant-loop-row l =
    AllByRecursion (λ r. KeepsDayRules r.1) (drop l.row-index l.days) → AllByRecursion (λ r. KeepsDayRules r.1) l.days
