-- `one_request`: a message asks one thing.
use Rattle.http_office.proofs.MessageLemmas.{one_request}
use Rattle.http_office.proofs.laws.one_request.Goals as goal

pub returns : goal.returns
returns c = one_request
