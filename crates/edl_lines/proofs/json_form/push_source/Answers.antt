-- `push_source`: the members of an event's source, as JSON.
use Rattle.std.proofs.Common.{◌∙◌, ◌++◌, List, ℕ, ap}
use Rattle.std.specs.Prelude.{codes}
use Rattle.std.proofs.lemmas.List.{append_assoc}
use Rattle.edl_lines.specs.Json.{json_source, numbered}
use Rattle.edl_lines.proofs.json_form.push_source.Goals as goal

pub returns : goal.returns
unfolding json_source
returns c =
    let second : List ℕ = numbered (codes ",\"source_end\":") c.args.event.now.source_end in
    c.in_ok-push_numbered-2.ensures ∙ ap (λ (front : List ℕ). front ++ second) c.in_ok-push_numbered.ensures
    ∙ append_assoc c.args.out.now.items (numbered (codes ",\"source_first\":") c.args.event.now.source_first) second
