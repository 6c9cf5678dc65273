-- How a refusal is written: its number, its name and what goes with it.
use Rattle.std.proofs.Common.{◌≡◌, ◌++◌, ◌∙◌, ap, sym, subst}
use Rattle.std.specs.Prelude.{codes, decimal}
use Rattle.std.specs.Fmt.{HasWritten}
use Rattle.timecode.specs.Label.{label_text}
use Rattle.channel_plan.specs.Refusal.{number_of, name_of, text_of, detail_text, refusal_text}
use Rattle.channel_plan.proofs.refusal.RefusalDisplay.fmt.Goals as goal

pub returns-in-Place-clause-writes : goal.returns-in-Place-clause-writes
returns-in-Place-clause-writes g c = λ plain ok.
    let refusal = c.args.self.now in
    let written : decimal c.number-number.result
    ++ (codes " " ++ (c.name-name.result.now ++ (codes " at " ++ label_text c.in-Place.label)))
    ≡ refusal_text refusal =
    ap (λ n. decimal n ++ (codes " " ++ (c.name-name.result.now ++ (codes " at " ++ label_text c.in-Place.label))))
    c.number-number.ensures
    ∙ ap
    (λ name. decimal (number_of refusal.code) ++ (codes " " ++ (name ++ (codes " at " ++ label_text c.in-Place.label))))
    c.name-name.ensures
    ∙ ap (λ at. decimal (number_of refusal.code) ++ (codes " " ++ (name_of refusal.code ++ detail_text (text_of at))))
    (sym c.in-Place.is) in
    subst (λ text. HasWritten g.W.Write.write_str_gives c.args.f.now text c.write-in-Place.new.self) written
    (c.write-in-Place.ensures.writes plain ok)
