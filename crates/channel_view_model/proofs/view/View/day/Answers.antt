-- `View::day`: the day that is asked for, there or not.
use Rattle.std.proofs.Common.{◌∙◌, sym, ap, subst}
use Rattle.std.specs.Prelude.{Some, List, find, ◌==◌}
use Rattle.playlist_core.specs.Day.{Day}
use Rattle.std.specs.Option.{option_map}
use Rattle.channel_view_model.specs.Need.{IsDayAnswer}
use Rattle.vault_core.specs.Questions.{listed}
use Rattle.channel_view_model.proofs.NeedLemmas.{not_there_is}
use Rattle.channel_view_model.proofs.view.View.day.Goals as goal

pub returns-in-None : goal.returns-in-None
returns-in-None c =
    let days = ap (λ (ds : List Day). find (λ d. d.number == c.get-number.result) ds) (sym c.as_slice.ensures) in
    let none = days ∙ sym c.with_number.ensures ∙ ap (option_map (λ d. d.now)) c.in-None.is in
    let number = c.get-number.ensures.value in
    subst (λ asked. IsDayAnswer asked c.args.self.now.own.plan (listed c.args.self.now.days) (Some c.not_there.result))
    (sym c.in-Some.is)
    (not_there_is c.args.self.now c.in-Some.number c.get-number.result c.plan.result c.not_there.result number
    c.plan.ensures c.not_there.ensures none)
