-- `push_record`: the members of an event's record, as JSON.
use Rattle.std.proofs.Common.{◌∙◌, ◌++◌, List, ℕ, ap}
use Rattle.std.specs.Prelude.{codes}
use Rattle.std.proofs.lemmas.List.{append_assoc}
use Rattle.edl_lines.specs.Json.{json_record, numbered}
use Rattle.edl_lines.proofs.json_form.push_record.Goals as goal

pub returns : goal.returns
unfolding json_record
returns c =
    let second : List ℕ = numbered (codes ",\"length\":") c.args.event.now.length in
    c.in_ok-push_numbered-2.ensures ∙ ap (λ (front : List ℕ). front ++ second) c.in_ok-push_numbered.ensures
    ∙ append_assoc c.args.out.now.items (numbered (codes ",\"record_first\":") c.args.event.now.record_first) second
