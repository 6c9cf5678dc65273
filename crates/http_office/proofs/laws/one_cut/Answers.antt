-- `one_cut`: a stream is cut into pieces in one way.
use Rattle.http_office.proofs.StreamLemmas.{one_cut}
use Rattle.http_office.proofs.laws.one_cut.Goals as goal

pub returns : goal.returns
returns c = one_cut
