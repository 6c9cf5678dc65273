-- `items_answer`: the answer with how many events of a list became items, and how many were skipped.
use Rattle.std.proofs.Common.{rules, ◌≡◌}
use Rattle.http_office_answers.specs.Answer.{counts_data}
use Rattle.serde_json.specs.View.{view}
use Rattle.serde_json.specs.declared.value.Value.{the_lemmas}
use Rattle.http_office_answers.proofs.answers.items_answer.Goals as goal

pub returns : goal.returns
returns c =
    let built : view c.in_ok-body.body ≡ counts_data c.args.counts.now = search (rules, the_lemmas) in
    rw built at c.json_answer.ensures
