-- `after_word`: what stands behind the word that the line begins with, without blanks in front.
use Rattle.std.proofs.Common.{ap, sym, ◌∙◌, Some, List, ℕ}
use Rattle.edl.proofs.WordLemmas.{rest_after-none, rest_after-some}
use Rattle.edl.proofs.meaning.after_word.Goals as goal

pub returns-in-Some : goal.returns-in-Some
returns-in-Some c =
    ap (λ (text : List ℕ). Some text) c.after_blanks.ensures
    ∙ sym (rest_after-some c.args.word.now c.args.line.now c.in-Some.rest.now c.in-Some.ensures.cases)

pub returns-in-None : goal.returns-in-None
returns-in-None c = sym (rest_after-none c.args.word.now c.args.line.now c.in-None.ensures.cases)
