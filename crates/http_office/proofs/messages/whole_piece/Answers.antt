-- `whole_piece`: the one piece that the bytes are, if they are one.
use Rattle.http_office.proofs.MessageLemmas.{bad_message}
use Rattle.http_office_requests.proofs.PieceLemmas.{nothing_seen}
use Rattle.http_office.proofs.messages.whole_piece.Goals as goal

pub returns-else-is_of_length-clause-none : goal.returns-else-is_of_length-clause-none
returns-else-is_of_length-clause-none c =
    bad_message c.args.message.now c.next_piece-next.result c.next_piece-next.ensures
    (λ whole. let is = c.is_of_length.ensures.1 whole in let not = c.if-is_of_length.false in cc)

pub next_piece-next-requires : goal.next_piece-next-requires
next_piece-next-requires c = nothing_seen c.args.message.now
