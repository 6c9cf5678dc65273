-- `first_free`: the first number from this one on that isn't marked.
use Rattle.std.proofs.Common.{◌≡◌, ◌∙◌, ◌+◌, ◌-◌, ℕ, Bool, sym, arith, not, get_or, true, false}
use Rattle.std.proofs.lemmas.Grind.{common_steps}
use Rattle.playlist_core.specs.declared.numbers.TheConstants.{NUMBERS}
use Rattle.playlist_core.proofs.PictureLemmas.{least_here, least_none}
use Rattle.playlist_core.proofs.NumberLemmas.{least_next}
use Rattle.playlist_core.proofs.numbers.first_free.Goals as goal

pub returns-then-not-taken-number : goal.returns-then-not-taken-number
returns-then-not-taken-number c =
    let f : ℕ → Bool = λ n. not (get_or c.args.taken.now n false) in
    let free : f c.loop-number.number ≡ true = grind (arith, common_steps) in
    sym (c.loop-number.invariant
    ∙ least_here f c.loop-number.number (NUMBERS - c.loop-number.number) (omega arith) free)

pub loop-number-preserved : goal.loop-number-preserved
loop-number-preserved c =
    let f : ℕ → Bool = λ n. not (get_or c.args.taken.now n false) in
    let taken : f c.loop-number.number ≡ false = grind (arith, common_steps) in
    c.loop-number.invariant
    ∙ least_next f c.loop-number.number (NUMBERS - (c.loop-number.number + 1)) (NUMBERS - c.loop-number.number)
    taken (omega arith)

pub returns : goal.returns
returns c =
    let f : ℕ → Bool = λ n. not (get_or c.args.taken.now n false) in
    sym (c.loop-number.invariant
    ∙ least_none f c.loop-number.number (NUMBERS - c.loop-number.number) (λ q le lt. absurd (omega arith)))
