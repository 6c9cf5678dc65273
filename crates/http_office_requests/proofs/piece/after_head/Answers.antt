-- `after_head`: what stands at the front of the bytes, of which the first n are a head.
use Rattle.http_office_requests.proofs.PieceLemmas.{last_piece}
use Rattle.http_office_requests.proofs.piece.after_head.Goals as goal

pub returns-in-Ends : goal.returns-in-Ends
returns-in-Ends c = last_piece c.args.bytes.now c.args.n _ c.requires.within c.requires.head c.in-Ends.ensures
