-- The loops of `keep_the_rules` (what was aired of each day keeps the rules).
use Rattle.std.proofs.Common.{drop}
use Rattle.std.specs.List.{AllByRecursion}
use Rattle.asrun_match.specs.Aired.{KeepsAiringRules}
use Rattle.channel_view_rules.proofs.airing_rules.keep_the_rules.Given as goal

-- what is left decides
abbrev pub invariant-loop-row : goal.invariant-loop-row
invariant-loop-row l =
    AllByRecursion (λ r. KeepsAiringRules r.1.aired) (drop l.row-index l.airings)
    → AllByRecursion (λ r. KeepsAiringRules r.1.aired) l.airings
