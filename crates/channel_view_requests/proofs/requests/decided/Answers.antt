-- `decided`: what is decided by a part of what the channel sees.
use Rattle.std.proofs.Common.{subst}
use Rattle.channel_view_model.specs.Seen.{seen_in}
use Rattle.channel_view_model.specs.Decide.{decision}
use Rattle.channel_view_model.specs.Need.{need_of, IsFetched}
use Rattle.channel_view_model.proofs.NeedLemmas.{none_fetched, some_fetched}
use Rattle.channel_view_requests.proofs.requests.decided.Goals as goal

pub returns-in_ok-decide_part-in-Some : goal.returns-in_ok-decide_part-in-Some
returns-in_ok-decide_part-in-Some c = λ view named its fetched.
    let q = c.args.command.now in
    some_fetched (λ v. decision (seen_in v) q) (need_of q named) view c.in-Some.part
    c.in_ok-decide_part-in-Some.field-0 (subst (IsFetched (need_of q named) view) c.in-Some.is fetched)
    (λ v is. c.in_ok-decide_part-in-Some.ensures v named its is)

pub returns-in-None : goal.returns-in-None
returns-in-None c = λ view named its fetched.
    let q = c.args.command.now in
    none_fetched (λ v. decision (seen_in v) q) (need_of q named) view
    (subst (IsFetched (need_of q named) view) c.in-None.is fetched)
