-- `tape_answer`: the answer with a tape's number.
use Rattle.std.proofs.Common.{rules, ◌≡◌, codes}
use Rattle.http_office_answers.specs.Answer.{number_data}
use Rattle.serde_json.specs.View.{view}
use Rattle.serde_json.specs.declared.value.Value.{the_lemmas}
use Rattle.http_office_answers.proofs.answers.tape_answer.Goals as goal

pub returns : goal.returns
returns c =
    let built : view c.in_ok-body.body ≡ number_data (codes "tape") c.args.number = search (rules, the_lemmas) in
    rw built at c.json_answer.ensures
