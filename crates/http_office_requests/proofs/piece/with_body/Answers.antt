-- `with_body`: what stands at the front of the bytes, which have this head.
use Rattle.http_office_requests.proofs.PieceLemmas.{whole_message}
use Rattle.http_office_requests.proofs.piece.with_body.Goals as goal

pub returns : goal.returns
returns c =
    let head = c.args.head in
    whole_message c.args.bytes.now head.end head.content head.method head.path c.requires.within c.requires.text
    (c.lacks_body.ensures.whole c.if-lacks_body.false) c.requires.framed
