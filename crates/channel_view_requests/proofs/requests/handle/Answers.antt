-- `handle`: answers one request.
use Rattle.std.proofs.Common.{inl, inr, sym, ◌∙◌, ap, subst}
use Rattle.channel_view_model.specs.declared.command.Outcome.TheVariants.{Replied, Unavailable}
use Rattle.channel_view_laws.specs.Requests.{is_made}
use Rattle.channel_view_model.proofs.ViewLemmas.{view_of-after_other}
use Rattle.channel_view_model.proofs.RuleLemmas.{KeepsRules-after}
use Rattle.channel_view_laws.proofs.ServedLemmas.{remains_one}
use Rattle.channel_view_laws.proofs.ServingLemmas.{step_none, step_some, change_of, change_made}
use Rattle.channel_view_requests.proofs.requests.handle.Goals as goal

pub returns-in-Ok-None-clause-answer : goal.returns-in-Ok-None-clause-answer
returns-in-Ok-None-clause-answer g c = λ clean rows stands.
    (step_none c.args.channel c.args.command.now rows
    (sym c.in-Ok-None.field-0-is ∙ (c.in-Ok-None.ensures.prepared clean rows stands).of_set)).0

pub returns-in-Ok-None-clause-rows : goal.returns-in-Ok-None-clause-rows
returns-in-Ok-None-clause-rows g c = λ clean rows stands.
    let step =
    step_none c.args.channel c.args.command.now rows
    (sym c.in-Ok-None.field-0-is ∙ (c.in-Ok-None.ensures.prepared clean rows stands).of_set) in
    subst (g.S.RowStore.stands_for _) step.1 (c.prepare.ensures.same clean rows stands)

pub returns-in-Ok-None-clause-others : goal.returns-in-Ok-None-clause-others
returns-in-Ok-None-clause-others g c =
    λ clean rows stands other differ. view_of-after_other other c.args.channel c.args.command.now rows
    (c.in-Ok-None.ensures.rules clean rows stands) differ

pub returns-in-Ok-None-clause-rules : goal.returns-in-Ok-None-clause-rules
returns-in-Ok-None-clause-rules g c =
    λ clean rows stands. let rules = c.in-Ok-None.ensures.rules clean rows stands in
    (rules, KeepsRules-after rows (c.args.channel, c.args.command.now) rules)

pub returns-in-Ok-clause-answer : goal.returns-in-Ok-clause-answer
returns-in-Ok-clause-answer g c = λ clean rows stands.
    (step_some c.args.channel c.args.command.now rows c.in-Ok-Some.reply c.in-Ok-Some.change
    (sym c.in-Ok-Some.field-0-is
    ∙ (c.in-Ok-Some.ensures.prepared (c.commit.ensures.clean clean) rows stands).of_set)).0

pub returns-in-Ok-clause-rows : goal.returns-in-Ok-clause-rows
returns-in-Ok-clause-rows g c = λ clean rows stands.
    let before = c.commit.ensures.clean clean in
    let made = sym c.in-Ok-Some.field-0-is ∙ (c.in-Ok-Some.ensures.prepared before rows stands).of_set in
    let step = step_some c.args.channel c.args.command.now rows c.in-Ok-Some.reply c.in-Ok-Some.change made in
    subst (g.S.RowStore.stands_for _) step.1
    (c.in-Ok.ensures.ok clean rows (c.prepare.ensures.same before rows stands)
    (change_of c.args.channel c.args.command.now rows c.in-Ok-Some.reply c.in-Ok-Some.change made))

pub returns-in-Ok-clause-others : goal.returns-in-Ok-clause-others
returns-in-Ok-clause-others g c =
    λ clean rows stands other differ. view_of-after_other other c.args.channel c.args.command.now rows
    (c.in-Ok-Some.ensures.rules (c.commit.ensures.clean clean) rows stands) differ

pub returns-in-Ok-clause-rules : goal.returns-in-Ok-clause-rules
returns-in-Ok-clause-rules g c = λ clean rows stands.
    let rules = c.in-Ok-Some.ensures.rules (c.commit.ensures.clean clean) rows stands in
    (rules, KeepsRules-after rows (c.args.channel, c.args.command.now) rules)

pub returns-in-Ok-clause-stop : goal.returns-in-Ok-clause-stop
returns-in-Ok-clause-stop g c = λ clean rows stands left may.
    let before = c.commit.ensures.clean clean in
    let made = sym c.in-Ok-Some.field-0-is ∙ (c.in-Ok-Some.ensures.prepared before rows stands).of_set in
    let step = step_some c.args.channel c.args.command.now rows c.in-Ok-Some.reply c.in-Ok-Some.change made in
    elim (c.in-Ok.ensures.stop_ok clean rows (c.prepare.ensures.same before rows stands)
    (change_of c.args.channel c.args.command.now rows c.in-Ok-Some.reply c.in-Ok-Some.change made) left may) [
      | inl l ↦ inl (l ∙ step.1)
      | inr none ↦ inr (
        change_made c.args.channel c.args.command.now rows c.in-Ok-Some.reply c.in-Ok-Some.change made
            ∙ ap is_made none.0,
        c.prepare.ensures.stop before left none.1,
      )
    ]

pub returns-in-Err-commit-clause-stop : goal.returns-in-Err-commit-clause-stop
returns-in-Err-commit-clause-stop g c = λ clean rows stands left may.
    let ready = c.commit.ensures.clean clean in
    let made = sym c.in-Ok-Some.field-0-is ∙ (c.in-Ok-Some.ensures.prepared ready rows stands).of_set in
    let step = step_some c.args.channel c.args.command.now rows c.in-Ok-Some.reply c.in-Ok-Some.change made in
    elim (c.commit.ensures.stop clean rows (c.prepare.ensures.same ready rows stands)
    (change_of c.args.channel c.args.command.now rows c.in-Ok-Some.reply c.in-Ok-Some.change made) left may) [
      | inl l ↦ inl (c.prepare.ensures.stop ready left l)
      | inr l ↦ inr (l ∙ step.1)
    ]

pub returns-in-Ok-clause-remains : goal.returns-in-Ok-clause-remains
returns-in-Ok-clause-remains g c = λ clean rows stands in_doubt before left may.
    remains_one _ in_doubt rows (c.args.channel, c.args.command.now) (Replied c.in-Ok-Some.reply)
    (returns-in-Ok-clause-answer g c clean rows stands) before left
    (returns-in-Ok-clause-stop g c clean rows stands left may)

pub returns-in-Err-clause-remains : goal.returns-in-Err-clause-remains
returns-in-Err-clause-remains g c = λ clean rows stands in_doubt before left may.
    remains_one _ in_doubt rows (c.args.channel, c.args.command.now) Unavailable tt before left
    (inl (c.prepare.ensures.stop clean left may))

pub returns-in-Err-commit-clause-remains : goal.returns-in-Err-commit-clause-remains
returns-in-Err-commit-clause-remains g c = λ clean rows stands in_doubt before left may.
    remains_one _ in_doubt rows (c.args.channel, c.args.command.now) Unavailable tt before left
    (returns-in-Err-commit-clause-stop g c clean rows stands left may)
