-- How a kind of edit is written.
use Rattle.std.proofs.Common.{◌≡◌, ◌++◌, ◌∙◌, ap, subst, sym, arith}
use Rattle.std.specs.Prelude.{codes}
use Rattle.std.specs.Fmt.{HasWritten, styled_decimal}
use Rattle.timecode.proofs.DigitLemmas.{digits_written}
use Rattle.playlist_core.specs.Item.{kind_text}
use Rattle.playlist_core.proofs.item.EditKindDisplay.fmt.Goals as goal

pub returns-in-Wipe-clause-writes : goal.returns-in-Wipe-clause-writes
returns-in-Wipe-clause-writes g c = λ plain ok.
    let n = c.in-Wipe.number in
    let written : codes "W" ++ styled_decimal c.laid_out.result n ≡ kind_text c.args.self.now =
    ap (λ spec. codes "W" ++ styled_decimal spec n) c.laid_out.ensures
    ∙ ap (λ digits. codes "W" ++ digits) (digits_written 3 n (omega arith)) ∙ ap kind_text (sym c.in-Wipe.is) in
    subst (λ text. HasWritten g.W.Write.write_str_gives c.args.f.now text c.write.new.self) written
    (c.write.ensures.writes plain ok)
