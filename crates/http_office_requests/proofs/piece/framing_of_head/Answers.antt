-- `framing_of_head`: what follows this head.
use Rattle.std.proofs.Common.{arith}
use Rattle.http_office_requests.proofs.FieldLemmas.{framed_by}
use Rattle.http_office_requests.proofs.piece.framing_of_head.Goals as goal

pub returns-in-Ok-Complete : goal.returns-in-Ok-Complete
returns-in-Ok-Complete c =
    let read = rw c.in-Ok-Complete.field-0-is at c.in-Ok-Complete.ensures.complete in
    let within = rw c.in-Ok-Complete.field-0-is at c.in-Ok-Complete.ensures.within in
    framed_by c.args.head.now c.parse_request.new.headers c.in-Ok-Complete.spans read.0 c.framing_by_fields.result
    (omega arith) within read.1 c.if-spans-head.true c.framing_by_fields.ensures
