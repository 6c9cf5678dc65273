-- `push_detail`: the detail of a refusal, if there is one.
use Rattle.std.proofs.Common.{◌++◌, ap, ◌∙◌, sym}
use Rattle.std.specs.Prelude.{codes}
use Rattle.std.proofs.lemmas.List.{append_assoc}
use Rattle.timecode.specs.Label.{label_text}
use Rattle.channel_plan.specs.Refusal.{detail_text, text_of}
use Rattle.playout_lists.proofs.fault_text.push_detail.Goals as goal

pub returns-in-Place-clause-items : goal.returns-in-Place-clause-items
returns-in-Place-clause-items c =
    let line = c.args.line.now.items in
    c.push-in-Place.ensures.items
    ∙ ap (λ front. front ++ c.bytes.result) c.push.ensures.items
    ∙ ap (λ label. (line ++ codes " at ") ++ label) c.bytes.ensures.text
    ∙ append_assoc line (codes " at ") (label_text c.in-Place.label)
    ∙ ap (λ at. line ++ detail_text (text_of at)) (sym c.in-Place.is)
