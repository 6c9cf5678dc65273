-- How the reel of a clip is written.
use Rattle.std.proofs.Common.{◌≡◌, ◌++◌, ◌∙◌, ap, subst, arith}
use Rattle.std.specs.Prelude.{codes}
use Rattle.std.specs.Fmt.{HasWritten, styled_decimal}
use Rattle.timecode.proofs.DigitLemmas.{digits_written}
use Rattle.vault_core.specs.Reel.{clip_reel}
use Rattle.vault_core.proofs.reel.ClipReelDisplay.fmt.Goals as goal

pub returns-clause-writes : goal.returns-clause-writes
returns-clause-writes g c = λ plain ok.
    let n = c.args.self.now.number in
    let written : codes "C" ++ styled_decimal c.laid_out.result n ≡ clip_reel n =
    ap (λ spec. codes "C" ++ styled_decimal spec n) c.laid_out.ensures
    ∙ ap (λ digits. codes "C" ++ digits) (digits_written 7 n (omega arith)) in
    subst (λ text. HasWritten g.W.Write.write_str_gives c.args.f.now text c.write.new.self) written
    (c.write.ensures.writes plain ok)
