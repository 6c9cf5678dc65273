-- `day_found`: the day that is asked for, there or not.
use Rattle.std.proofs.Common.{◌∙◌, sym, ap, subst}
use Rattle.std.specs.Prelude.{Some, find, ◌==◌}
use Rattle.std.specs.Option.{option_map}
use Rattle.vault_core.specs.Questions.{listed}
use Rattle.channel_view_model.specs.Tables.{rows_alone}
use Rattle.channel_view_model.specs.Need.{IsDayAnswer}
use Rattle.channel_view_model.specs.Days.{no_day, day_or}
use Rattle.channel_view.proofs.DayPlaceLemmas.{first_alone}
use Rattle.channel_view.proofs.mem_days.day_found.Goals as goal

pub returns-in-None : goal.returns-in-None
returns-in-None c =
    let plan = c.args.plan.now in
    let days = rows_alone c.args.days.now in
    let same = c.get-number.ensures.value in
    let none =
    sym (first_alone (λ d. d.number == c.get-number.result) c.args.days.now) ∙ sym c.day_of.ensures
    ∙ ap (option_map (λ d. d.now)) c.in-None.is in
    subst (λ asked. IsDayAnswer asked plan (listed days) (Some c.not_there.result)) (sym c.in-Some.is)
    (ap Some
    (c.not_there.ensures ∙ ap (no_day plan) same
    ∙ ap (day_or (no_day plan c.in-Some.number))
    (sym (ap (λ m. find (λ d. d.number == m) days) (sym same) ∙ none))))

pub returns-in_ok-copied-in-Some-day_of : goal.returns-in_ok-copied-in-Some-day_of
returns-in_ok-copied-in-Some-day_of c =
    let plan = c.args.plan.now in
    let days = rows_alone c.args.days.now in
    let same = c.get-number.ensures.value in
    let some =
    sym (first_alone (λ d. d.number == c.get-number.result) c.args.days.now) ∙ sym c.day_of.ensures
    ∙ ap (option_map (λ d. d.now)) c.in-Some-day_of.is in
    subst (λ asked. IsDayAnswer asked plan (listed days) (Some c.in_ok-copied-in-Some-day_of.field-0))
    (sym c.in-Some.is)
    (ap Some
    (c.in_ok-copied-in-Some-day_of.ensures
    ∙ ap (day_or (no_day plan c.in-Some.number))
    (sym (ap (λ m. find (λ d. d.number == m) days) (sym same) ∙ some))))
