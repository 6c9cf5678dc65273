-- `answer_lines`: what is answered to the lines of a text.
use Rattle.std.proofs.Common.{◌≡◌, ◌∙◌, ◌<◌, ℕ, List, length, ap, arith}
use Rattle.std.proofs.lemmas.Bool.Decides.{nat_tests}
use Rattle.std.specs.List.{before_first, after_first}
use Rattle.edl.specs.Text.{is_line_end, without_cr}
use Rattle.edl.proofs.TextLemmas.{after_line_shorter}
use Rattle.timecode_lines.proofs.LineLemmas.{text_next, fault_next, text_end, fault_end}
use Rattle.timecode_lines.proofs.answer_lines.Goals as goal

pub loop-rest-preserved : goal.loop-rest-preserved
loop-rest-preserved c =
    let rest : List ℕ = c.loop-rest.rest.now in
    let some : 0 < length rest = grind (arith, nat_tests, c.is_empty.ensures, c.loop-rest-test.true) in
    let line : c.without_cr.result.now ≡ without_cr (before_first is_line_end rest) =
    c.without_cr.ensures ∙ ap without_cr c.split_line.ensures.line in
    let shorter : length (after_first is_line_end rest) < length rest = after_line_shorter rest some in
    let written = c.in_ok-fault.ensures.written in let fault = c.in_ok-fault.ensures.fault in
    let so = text_next c.args.rate c.loop-rest.made.text.items rest some in
    let first = fault_next c.args.rate c.loop-rest.number c.loop-rest.made.fault rest some in record {
      text = rw (c.split_line.ensures.rest, written, line) (so ∙ c.loop-rest.invariant.text);
      fault =
          rw (c.split_line.ensures.rest, c.fault_behind-made.ensures, fault, line)
          (first ∙ c.loop-rest.invariant.fault);
      number = rw c.split_line.ensures.rest (omega (arith, shorter));
    }

pub returns-clause-text : goal.returns-clause-text
returns-clause-text c =
    let none : length c.loop-rest.rest.now ≡ 0 = grind (arith, nat_tests, c.is_empty.ensures, c.loop-rest-test.false) in
    text_end c.args.rate c.loop-rest.made.text.items c.loop-rest.rest.now _ none c.loop-rest.invariant.text

pub returns-clause-fault : goal.returns-clause-fault
returns-clause-fault c =
    let none : length c.loop-rest.rest.now ≡ 0 = grind (arith, nat_tests, c.is_empty.ensures, c.loop-rest-test.false) in
    fault_end c.args.rate c.loop-rest.number c.loop-rest.made.fault _ c.loop-rest.rest.now none
    c.loop-rest.invariant.fault
