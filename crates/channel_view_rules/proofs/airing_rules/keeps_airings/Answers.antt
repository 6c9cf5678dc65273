-- `keeps_airings`: whether what was aired is a table of the plan's channels, and each channel's is of its sealed days.
use Rattle.std.proofs.Common.{◌≡◌, true, sym, ◌∙◌, ap, subst, arith, rules}
use Rattle.std.specs.List.{AllByRecursion}
use Rattle.std.proofs.lemmas.Bool.{false≢true}
use Rattle.asrun_match.specs.Aired.{KeepsAiringRules}
use Rattle.channel_view_model.specs.Rules.{has_airings}
use Rattle.channel_view_model.proofs.DayWalkLemmas.{each_has, have-each, each-have, turn_lacks, turn_ends}
use Rattle.channel_view_rules.proofs.AiringWalkLemmas.{found_in}
use Rattle.channel_view_rules.proofs.airing_rules.keeps_airings.Goals as goal

pub has_airings-requires-clause-planned : goal.has_airings-requires-clause-planned
has_airings-requires-clause-planned c =
    let items = c.deref-plan-items.result.now in
    let same : items ≡ c.args.rows.now.channels =
    c.deref-plan-items.ensures.value ∙ ap (λ r. r.channels) c.rows.view_is in
    found_in c.args.rows.now.channels items c.loop-plan.plan-index _ same c.requires.plan (omega arith)

pub returns-then-not-has_airings : goal.returns-then-not-has_airings
returns-then-not-has_airings c =
    let rows = c.args.rows.now in
    let items = c.deref-plan-items.result.now in
    let same : items ≡ rows.channels = c.deref-plan-items.ensures.value ∙ ap (λ r. r.channels) c.rows.view_is in
    let lacks =
    turn_lacks (has_airings rows) rows.channels items c.loop-plan.plan-index _ same (omega arith)
    (sym c.has_airings.ensures ∙ c.if-not-has_airings.true) in (
      search rules,
      λ kept. absurd
          (false≢true
          (sym lacks ∙ c.loop-plan.invariant ∙ each-have (has_airings rows) rows.channels c.requires.plan kept.sealed)),
    )

pub returns : goal.returns
returns c =
    let rows = c.args.rows.now in
    let items = c.deref-plan-items.result.now in
    let same : items ≡ rows.channels = c.deref-plan-items.ensures.value ∙ ap (λ r. r.channels) c.rows.view_is in
    let all : each_has (has_airings rows) rows.channels ≡ true =
    sym c.loop-plan.invariant
    ∙ turn_ends (has_airings rows) rows.channels items c.loop-plan.plan-index same (omega arith) in
    let aired : c.deref.result.now ≡ rows.aired = c.deref.ensures.value ∙ ap (λ r. r.aired) c.rows.view_is in (
      λ t. record {
        table = search rules;
        each =
            subst (AllByRecursion (λ r. KeepsAiringRules r.1.aired)) aired c.keep_the_rules.ensures;
        sealed =
            have-each (has_airings rows) rows.channels all;
      },
      search rules,
    )
