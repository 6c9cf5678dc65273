-- `members_in`: how many members an object has.
use Rattle.std.proofs.Common.{◌∙◌}
use Rattle.http_office_requests.proofs.RouteLemmas.{members_total}
use Rattle.http_office_requests.proofs.body.members_in.Goals as goal

pub returns-in-Some : goal.returns-in-Some
returns-in-Some c = c.len.ensures.len ∙ members_total _ _ c.in-Some.ensures
