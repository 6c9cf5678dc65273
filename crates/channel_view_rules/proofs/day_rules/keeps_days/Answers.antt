-- `keeps_days`: whether the days are a table of the plan's channels.
use Rattle.std.proofs.Common.{◌≡◌, true, sym, ◌∙◌, ap, subst, arith, rules}
use Rattle.std.specs.List.{AllByRecursion}
use Rattle.std.proofs.lemmas.Bool.{false≢true}
use Rattle.playlist_core.specs.Day.{KeepsDayRules}
use Rattle.channel_view_model.specs.Rules.{has_days}
use Rattle.channel_view_model.proofs.DayWalkLemmas.{each_has, have-each, each-have, turn_lacks, turn_ends}
use Rattle.channel_view_rules.proofs.day_rules.keeps_days.Goals as goal

pub returns-then-not-branch : goal.returns-then-not-branch
returns-then-not-branch c =
    let rows = c.args.rows.now in
    let items = c.deref-plan-items.result.now in
    let same : items ≡ rows.channels = c.deref-plan-items.ensures.value ∙ ap (λ r. r.channels) c.rows.view_is in
    let lacks =
    turn_lacks (has_days rows) rows.channels items c.loop-plan.plan-index _ same (omega arith)
    (sym c.in_ok-has_days.ensures ∙ c.if-not-branch.true) in (
      search rules,
      λ kept. absurd
          (false≢true
          (sym lacks ∙ c.loop-plan.invariant ∙ each-have (has_days rows) rows.channels c.requires.plan kept.seen)),
    )

pub returns : goal.returns
returns c =
    let rows = c.args.rows.now in
    let items = c.deref-plan-items.result.now in
    let same : items ≡ rows.channels = c.deref-plan-items.ensures.value ∙ ap (λ r. r.channels) c.rows.view_is in
    let all : each_has (has_days rows) rows.channels ≡ true =
    sym c.loop-plan.invariant
    ∙ turn_ends (has_days rows) rows.channels items c.loop-plan.plan-index same (omega arith) in
    let days : c.deref.result.now ≡ rows.days = c.deref.ensures.value ∙ ap (λ r. r.days) c.rows.view_is in (
      λ t. record {
        table = search rules;
        each =
            subst (AllByRecursion (λ r. KeepsDayRules r.1)) days c.keep_the_rules.ensures;
        seen =
            have-each (has_days rows) rows.channels all;
      },
      search rules,
    )
