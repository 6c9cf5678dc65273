-- `plain_refusal`: the answer of a refusal without a detail.
use Rattle.std.proofs.Common.{rules, ◌≡◌, None}
use Rattle.http_office_answers.specs.Answer.{refusal_data}
use Rattle.serde_json.specs.View.{view}
use Rattle.serde_json.specs.declared.value.Value.{the_lemmas}
use Rattle.http_office_answers.proofs.answers.plain_refusal.Goals as goal

pub returns : goal.returns
returns c =
    let built : view c.in_ok-body.body ≡ refusal_data None c.args.code c.args.name.now = search (rules, the_lemmas) in
    rw built at c.json_answer.ensures
