-- `plan_row_answer`: the answer with a channel's row of the plan.
use Rattle.std.proofs.Common.{rules, ◌≡◌, ◌∙◌, ap}
use Rattle.timecode.specs.Label.{label_text}
use Rattle.playlist_core.specs.Day.{label_at}
use Rattle.http_office_answers.proofs.answers.plan_row_answer.Goals as goal

pub returns : goal.returns
returns c =
    let told : c.as_str.result.now ≡ label_text c.label_at.result = search rules in
    let built = c.in_ok-body.ensures (told ∙ ap label_text c.label_at.ensures) in
    rw built at c.json_answer.ensures
