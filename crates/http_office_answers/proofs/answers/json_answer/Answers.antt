-- `json_answer`: the bytes of an answer with a JSON body.
use Rattle.std.proofs.Common.{◌∙◌}
use Rattle.http_office_answers.specs.Answer.{json_answer}
use Rattle.http_office_answers.proofs.answers.json_answer.Goals as goal

pub returns : goal.returns
unfolding json_answer
returns c =
    let text = c.as_bytes.ensures.value ∙ c.in_ok-text.ensures.text c.requires in
    rw text at c.with_body.ensures
