-- `keep_the_rules`: what was aired of each day keeps the rules.
use Rattle.std.proofs.Common.{ap, subst, arith}
use Rattle.asrun_match.specs.Aired.{KeepsAiringRules}
use Rattle.channel_view_model.proofs.DayWalkLemmas.{each_more, each_end}
use Rattle.channel_view_rules.proofs.airing_rules.keep_the_rules.Goals as goal

pub loop-row-init : goal.loop-row-init
loop-row-init c = λ each. each

pub loop-row-preserved : goal.loop-row-preserved
loop-row-preserved c = λ rest.
    c.loop-row.invariant
    (each_more (λ r. KeepsAiringRules r.1.aired) c.args.airings.now c.loop-row.row-index c.row-item.result
    (omega arith)
    (subst KeepsAiringRules (ap (λ r. r.1.aired) c.row-item.is) c.keep_the_rules.ensures) rest)

pub returns : goal.returns
returns c =
    c.loop-row.invariant
    (each_end (λ r. KeepsAiringRules r.1.aired) c.args.airings.now c.loop-row.row-index (omega arith))
