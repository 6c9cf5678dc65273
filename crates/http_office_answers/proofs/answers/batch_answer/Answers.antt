-- `batch_answer`: the answer with a batch's number and its frames.
use Rattle.std.proofs.Common.{rules, ◌≡◌}
use Rattle.http_office_answers.specs.Answer.{batch_data}
use Rattle.serde_json.specs.View.{view}
use Rattle.serde_json.specs.declared.value.Value.{the_lemmas}
use Rattle.http_office_answers.proofs.answers.batch_answer.Goals as goal

pub returns : goal.returns
returns c =
    let built : view c.in_ok-body.body ≡ batch_data c.args.number c.args.frames = search (rules, the_lemmas) in
    rw built at c.json_answer.ensures
