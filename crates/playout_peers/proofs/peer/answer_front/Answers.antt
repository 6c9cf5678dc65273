-- `answer_front`: answers the first message of what is pending, if a whole one is there.
use Rattle.http_office_requests.proofs.PieceLemmas.{nothing_seen}
use Rattle.playout_peers.proofs.TurnLemmas.{message_goes, last_goes}
use Rattle.playout_peers.proofs.peer.answer_front.Goals as goal

pub next_piece-next-requires : goal.next_piece-next-requires
next_piece-next-requires g c = nothing_seen c.deref.result.now

pub returns-in-Message : goal.returns-in-Message
returns-in-Message g c =
    let e = c.answer_piece-answer.ensures in
    let next = rw (c.in-Message.is, c.deref.ensures.value) at c.next_piece-next.ensures in
    let piece = rw c.deref-in-Message.ensures.value at e.1 in (
      c.in-Message.m.len,
      e.0,
      piece,
      message_goes c.args.pending.now.items c.in-Message.m e.0 next piece,
      c.remove_front.ensures,
      e.2,
    )

pub returns-in-Last : goal.returns-in-Last
returns-in-Last g c =
    let e = rw (c.in-Last.is, c.deref-in-Last.ensures.value) at c.answer_piece.ensures in
    let next = rw (c.in-Last.is, c.deref.ensures.value) at c.next_piece-next.ensures in (
      c.in-Last.field-0,
      e.0,
      e.1,
      last_goes c.args.pending.now.items c.in-Last.field-0 c.in-Last.field-1 e.0 next e.1,
      e.2,
    )
