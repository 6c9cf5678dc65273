-- `airing_found`: what was aired of the day that is asked for.
use Rattle.std.proofs.Common.{◌∙◌, sym, ap, subst}
use Rattle.std.specs.Prelude.{Some, find, ◌==◌}
use Rattle.std.specs.Option.{option_map}
use Rattle.vault_core.specs.Questions.{listed}
use Rattle.channel_view_model.specs.Tables.{rows_alone}
use Rattle.channel_view_model.specs.Need.{IsAiringAnswer}
use Rattle.channel_view_model.specs.Airings.{airing_or}
use Rattle.channel_view.proofs.DayPlaceLemmas.{first_alone}
use Rattle.channel_view.proofs.mem_days.airing_found.Goals as goal

pub returns-in_ok-nothing_aired-in-None : goal.returns-in_ok-nothing_aired-in-None
returns-in_ok-nothing_aired-in-None c =
    let plan = c.args.plan.now in
    let airings = rows_alone c.args.airings.now in
    let same = c.get.ensures.value in
    let none =
    sym (first_alone (λ a. a.day == c.get.result) c.args.airings.now) ∙ sym c.airing_of.ensures
    ∙ ap (option_map (λ a. a.now)) c.in-None.is in
    subst (λ asked. IsAiringAnswer asked plan (listed airings) (Some c.in_ok-nothing_aired-in-None.field-0))
    (sym c.in-Some.is)
    (ap Some
    (c.in_ok-nothing_aired-in-None.ensures
    ∙ ap (airing_or plan) (sym (ap (λ m. find (λ a. a.day == m) airings) (sym same) ∙ none))))

pub returns-in_ok-copied-in-Some-airing_of : goal.returns-in_ok-copied-in-Some-airing_of
returns-in_ok-copied-in-Some-airing_of c =
    let plan = c.args.plan.now in
    let airings = rows_alone c.args.airings.now in
    let same = c.get.ensures.value in
    let some =
    sym (first_alone (λ a. a.day == c.get.result) c.args.airings.now) ∙ sym c.airing_of.ensures
    ∙ ap (option_map (λ a. a.now)) c.in-Some-airing_of.is in
    subst (λ asked. IsAiringAnswer asked plan (listed airings) (Some c.in_ok-copied-in-Some-airing_of.field-0))
    (sym c.in-Some.is)
    (ap Some
    (c.in_ok-copied-in-Some-airing_of.ensures
    ∙ ap (airing_or plan) (sym (ap (λ m. find (λ a. a.day == m) airings) (sym same) ∙ some))))
