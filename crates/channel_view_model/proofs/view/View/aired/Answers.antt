-- `View::aired`: what was aired of the day that is asked for.
use Rattle.std.proofs.Common.{◌∙◌, sym, ap, subst}
use Rattle.std.specs.Prelude.{Some, List, find, ◌==◌}
use Rattle.std.specs.Option.{option_map}
use Rattle.asrun_match.specs.declared.day.DayAsRun.{DayAsRun}
use Rattle.channel_view_model.specs.Need.{IsAiringAnswer}
use Rattle.vault_core.specs.Questions.{listed}
use Rattle.channel_view_model.proofs.NeedLemmas.{not_aired_is, aired_is}
use Rattle.channel_view_model.proofs.view.View.aired.Goals as goal

pub returns-in_ok-nothing_aired-in-None : goal.returns-in_ok-nothing_aired-in-None
returns-in_ok-nothing_aired-in-None c =
    let aired = ap (λ (more : List DayAsRun). find (λ a. a.day == c.get.result) more) (sym c.as_slice.ensures) in
    let none = aired ∙ sym c.of_day.ensures ∙ ap (option_map (λ a. a.now)) c.in-None.is in
    let number = c.get.ensures.value in
    subst
    (λ asked. IsAiringAnswer asked c.args.self.now.own.plan (listed c.args.self.now.aired)
    (Some c.in_ok-nothing_aired-in-None.field-0)) (sym c.in-Some.is)
    (not_aired_is c.args.self.now c.in-Some.number c.get.result c.plan.result c.in_ok-nothing_aired-in-None.field-0
    number c.plan.ensures c.in_ok-nothing_aired-in-None.ensures none)

pub returns-in_ok-copied-in-Some-of_day : goal.returns-in_ok-copied-in-Some-of_day
returns-in_ok-copied-in-Some-of_day c =
    let aired = ap (λ (as_rows : List DayAsRun). find (λ a. a.day == c.get.result) as_rows) (sym c.as_slice.ensures) in
    let some = aired ∙ sym c.of_day.ensures ∙ ap (option_map (λ a. a.now)) c.in-Some-of_day.is in
    subst
    (λ asked. IsAiringAnswer asked c.args.self.now.own.plan (listed c.args.self.now.aired)
    (Some c.in_ok-copied-in-Some-of_day.field-0)) (sym c.in-Some.is)
    (aired_is c.args.self.now c.in-Some.number c.get.result _ c.in_ok-copied-in-Some-of_day.field-0 c.get.ensures.value
    c.in_ok-copied-in-Some-of_day.ensures some)
