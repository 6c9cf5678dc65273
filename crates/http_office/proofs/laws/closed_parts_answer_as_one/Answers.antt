-- `closed_parts_answer_as_one`: offices side by side over closed parts answer as one.
use Rattle.std.proofs.Common.{map}
use Rattle.http_office_requests.specs.Request.{request_of}
use Rattle.http_office.proofs.AloneLemmas.{given_by_part, left_by_part}
use Rattle.http_office.proofs.laws.closed_parts_answer_as_one.Goals as goal

pub returns-clause-bytes : goal.returns-clause-bytes
returns-clause-bytes c = λ rows rules mine ps qs xs ys answered answered_too closed same.
    given_by_part mine rows (map request_of ps) (map request_of qs) xs ys rules closed same answered answered_too

pub returns-clause-rows : goal.returns-clause-rows
returns-clause-rows c = λ rows rules mine ps qs xs ys answered answered_too closed same.
    left_by_part mine rows (map request_of ps) (map request_of qs) xs ys rules closed same
