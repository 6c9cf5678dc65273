-- `what_is_seen_decides`: two sets that a channel sees alike answer it alike, and it sees them alike afterwards.
use Rattle.std.proofs.Common.{sym, ◌∙◌, ap}
use Rattle.channel_view_model.specs.Solo.{solo_reply, solo_after}
use Rattle.channel_view_model.proofs.StepLemmas.{reply_is}
use Rattle.channel_view_model.proofs.ViewLemmas.{view_of-after_own}
use Rattle.channel_view_laws.proofs.laws.what_is_seen_decides.Goals as goal

pub returns-clause-reply : goal.returns-clause-reply
returns-clause-reply c = λ rows others ch q alike.
    reply_is ch q rows ∙ ap (λ v. solo_reply v q) alike ∙ sym (reply_is ch q others)

pub returns-clause-view : goal.returns-clause-view
returns-clause-view c = λ rows others ch q kept kept_too alike.
    view_of-after_own ch q rows kept ∙ ap (λ v. solo_after v q) alike ∙ sym (view_of-after_own ch q others kept_too)
