-- `count_lines`: reads all of the input as lines of labels and of frame numbers, and writes a line for each.
use Rattle.std.proofs.Common.{◌≡◌, ◌∙◌, ℕ, List, ap, refl, subst}
use Rattle.report_texts.specs.Output.{AppendsPart}
use Rattle.timecode_lines.specs.Lines.{answered, first_fault}
use Rattle.playout_lists.proofs.counting.count_lines.Goals as goal

pub returns-in-Err-default-clause-err : goal.returns-in-Err-default-clause-err
returns-in-Err-default-clause-err g c =
    let lines : List ℕ = c.in_ok-text.text.items in
    let said = c.in-Ok.ensures.text ∙ ap (answered c.args.rate) c.deref.ensures.value in
    let sent = c.deref-2.ensures.value ∙ said in (
      answered c.args.rate lines,
      first_fault c.args.rate lines,
      (lines, c.in_ok-text.ensures.ok, refl, refl),
      subst
          (λ (text : List ℕ). AppendsPart (g.W.Write.contents c.args.output.now) (g.W.Write.contents c.send.new.output)
          text)
          sent c.in-Err-default.ensures.err,
    )
