-- `others_messages_deleted`: what channels that lend a channel nothing asked may be deleted from a stream.
use Rattle.std.proofs.Common.{map}
use Rattle.http_office_requests.specs.Request.{request_of}
use Rattle.http_office.proofs.AloneLemmas.{given_alike}
use Rattle.http_office.proofs.laws.others_messages_deleted.Goals as goal

pub returns : goal.returns
returns c = λ rows rules ps qs xs ys ch answered answered_too purged.
    given_alike ch rows (map request_of ps) (map request_of qs) xs ys rules answered answered_too purged
