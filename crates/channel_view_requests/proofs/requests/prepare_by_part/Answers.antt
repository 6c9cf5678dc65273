-- `prepare_by_part`: the reply and the change of a command that is decided by a part.
use Rattle.std.proofs.Common.{subst, ◌∙◌}
use Rattle.channel_view_model.specs.Centre.{view_of}
use Rattle.channel_view_model.specs.Need.{IsFetched}
use Rattle.channel_view_requests.proofs.requests.prepare_by_part.Goals as goal

pub returns-clause-decided : goal.returns-clause-decided
returns-clause-decided g c = λ clean rows stands.
    c.decided.ensures (view_of c.args.channel rows) c.deref.result (c.deref.ensures.value ∙ c.in_ok-named.ensures)
    (subst (λ n. IsFetched n (view_of c.args.channel rows) c.in_ok-part.part) c.of.ensures
    (c.in_ok-part.ensures.part clean rows stands))
