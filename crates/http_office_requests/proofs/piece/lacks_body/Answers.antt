-- `lacks_body`: whether the body of this head isn't all there.
use Rattle.std.proofs.Common.{◌<◌, ◌-◌, length, rules}
use Rattle.http_office_requests.proofs.PieceLemmas.{waits_for_body}
use Rattle.http_office_requests.proofs.piece.lacks_body.Goals as goal

pub returns-clause-lacks : goal.returns-clause-lacks
returns-clause-lacks c = λ lacks.
    let head = c.args.head.now in
    let f = c.requires.framed in
    let few : length c.args.bytes.now - head.end < head.content = search rules in
    waits_for_body c.args.bytes.now head.end head.content f.0 c.requires.within c.requires.text f.1 f.2 few
