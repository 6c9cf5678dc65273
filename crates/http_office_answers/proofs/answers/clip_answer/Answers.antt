-- `clip_answer`: the answer with a clip's reel.
use Rattle.std.proofs.Common.{rules, ◌≡◌, codes}
use Rattle.http_office_answers.specs.Answer.{text_data}
use Rattle.vault_core.specs.Reel.{clip_reel}
use Rattle.serde_json.specs.View.{view}
use Rattle.serde_json.specs.declared.value.Value.{the_lemmas}
use Rattle.http_office_answers.proofs.answers.clip_answer.Goals as goal

pub returns : goal.returns
returns c =
    let built : view c.in_ok-body.body ≡ text_data (codes "clip") (clip_reel c.args.number) =
    search (rules, the_lemmas) in
    rw built at c.json_answer.ensures
