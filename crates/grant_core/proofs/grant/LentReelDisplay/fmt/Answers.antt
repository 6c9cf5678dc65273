-- How the reel of a lent clip is written.
use Rattle.std.proofs.Common.{◌≡◌, ◌∷◌, ◌++◌, ◌∙◌, ap, subst, arith}
use Rattle.std.specs.Prelude.{codes}
use Rattle.std.specs.Fmt.{HasWritten, styled_decimal}
use Rattle.timecode.proofs.DigitLemmas.{digits_written}
use Rattle.grant_core.specs.Grant.{lent_reel}
use Rattle.grant_core.proofs.grant.LentReelDisplay.fmt.Goals as goal

pub returns-clause-writes : goal.returns-clause-writes
returns-clause-writes g c = λ plain ok.
    let owner = c.args.self.now.owner in
    let n = c.args.self.now.number in
    let owner_is = ap (λ spec. styled_decimal spec owner) c.laid_out.ensures ∙ digits_written 3 owner (omega arith) in
    let number_is = ap (λ spec. styled_decimal spec n) c.laid_out-2.ensures ∙ digits_written 4 n (omega arith) in
    let written : codes "L" ++ (styled_decimal c.laid_out.result owner ++ styled_decimal c.laid_out-2.result n)
    ≡ lent_reel owner n =
    λ i. 76 ∷ (owner_is i ++ number_is i) in
    subst (λ text. HasWritten g.W.Write.write_str_gives c.args.f.now text c.write.new.self) written
    (c.write.ensures.writes plain ok)
