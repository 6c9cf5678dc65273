-- `decide_day`: what is decided of a day, by a part.
use Rattle.std.proofs.lemmas.Result.{IfOk-weaker}
use Rattle.std.proofs.Common.{◌∙◌, ap}
use Rattle.playlist_core.specs.Source.{RowsSeen, seen_of}
use Rattle.channel_view_model.specs.Decide.{day_decision}
use Rattle.channel_view_model.proofs.NeedLemmas.{asked_of_part}
use Rattle.channel_view_decisions.proofs.decisions.decide_day.Goals as goal

pub returns-in-Some : goal.returns-in-Some
returns-in-Some c = λ view named its part.
    IfOk-weaker c.decide_on_day.result _ _
    (λ d is. is
    ∙ ap
    (λ (rows : RowsSeen). day_decision c.args.part.now.plan c.in-Some.day (seen_of rows.clips rows.grants)
    c.args.command.now) c.rows-sources.ensures
    ∙ asked_of_part view c.args.part.now c.args.number.now c.args.command.now named.now c.in-Some.day its
    c.is_asked_of.ensures c.in-Some.is part.plan part.day part.sources)
    c.decide_on_day.ensures
