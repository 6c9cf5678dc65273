-- `Answer::bytes`: the bytes of the answer.
use Rattle.std.specs.Fmt.{digits}
use Rattle.http_office_answers.specs.Answer.{unavailable_answer, with_body}
use Rattle.http_office_answers.proofs.answers.Answer.bytes.Goals as goal

pub returns-in-Unavailable : goal.returns-in-Unavailable
unfolding unavailable_answer with_body digits
returns-in-Unavailable c = rw c.in-Unavailable.is c.as_bytes.ensures.value
