-- `stores_answer_alike`: two stores, of whatever kinds, that stand for sets that a channel sees alike answer it alike.
use Rattle.std.proofs.Common.{sym, ◌∙◌, ap}
use Rattle.channel_view_model.specs.Solo.{solo_reply, solo_after}
use Rattle.channel_view_model.proofs.StepLemmas.{reply_is}
use Rattle.channel_view_model.proofs.ViewLemmas.{view_of-after_own}
use Rattle.channel_view_laws.proofs.ServingLemmas.{answers_alike, views_alike}
use Rattle.channel_view.proofs.laws.stores_answer_alike.Goals as goal

pub returns-clause-answers : goal.returns-clause-answers
returns-clause-answers g c = λ clean clean_too rows others stands stands_too alike.
    let n = c.args.channel in
    let q = c.args.command.now in
    answers_alike rows others (n, q) c.handle.result c.handle-2.result
    (reply_is n q rows ∙ ap (λ v. solo_reply v q) alike ∙ sym (reply_is n q others))
    (c.handle.ensures.answer clean rows stands) (c.handle-2.ensures.answer clean_too others stands_too)

pub returns-clause-views : goal.returns-clause-views
returns-clause-views g c = λ clean clean_too rows others stands stands_too alike.
    let n = c.args.channel in
    let q = c.args.command.now in
    views_alike rows others n (n, q) c.handle.result c.handle-2.result
    (λ kept kept_too. view_of-after_own n q rows kept ∙ ap (λ v. solo_after v q) alike
    ∙ sym (view_of-after_own n q others kept_too))
    (c.handle.ensures.rules clean rows stands) (c.handle-2.ensures.rules clean_too others stands_too)
