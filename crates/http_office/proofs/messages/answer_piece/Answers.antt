-- `answer_piece`: answers the piece that was found at the front of the bytes, and does what it asks.
use Rattle.std.proofs.Common.{sym}
use Rattle.http_office_requests.specs.Request.{request_of, refused}
use Rattle.http_office_requests.specs.FoundPiece.{status_of}
use Rattle.http_office.proofs.MessageLemmas.{OfPiece-weaker}
use Rattle.http_office.proofs.RunLemmas.{refused_did, did_asked}
use Rattle.http_office.proofs.messages.answer_piece.Goals as goal

pub returns-in-Ok-Refused : goal.returns-in-Ok-Refused
returns-in-Ok-Refused g c =
    let store = g.S.RowStore in
    OfPiece-weaker c.args.bytes.now c.args.next.now _ _ (λ p asked.
    let is = rw c.in-Ok-Refused.field-0-is at asked in
    did_asked store.is_clean store.stands_for store.may_leave store.leaves_sets _ _
    (refused (status_of c.in-Ok-Refused.status)) (request_of p) c.refuse.result (sym is)
    (refused_did store.is_clean store.stands_for store.may_leave store.leaves_sets c.args.store.now
    (status_of c.in-Ok-Refused.status) c.refuse.result c.refuse.ensures)) c.in-Ok-Refused.ensures
