-- `one_piece`: bytes begin with one piece at most, whatever follows it.
use Rattle.http_office_requests.proofs.PieceLemmas.{one_piece}
use Rattle.http_office.proofs.laws.one_piece.Goals as goal

pub returns : goal.returns
returns c = one_piece
