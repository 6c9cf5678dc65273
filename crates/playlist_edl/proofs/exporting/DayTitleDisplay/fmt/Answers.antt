-- How the title of a day's list is written.
use Rattle.std.proofs.Common.{◌≡◌, ◌++◌, ◌∙◌, ap, subst, arith}
use Rattle.std.specs.Prelude.{codes}
use Rattle.std.specs.Fmt.{HasWritten, styled_decimal}
use Rattle.timecode.proofs.DigitLemmas.{digits_written}
use Rattle.playlist_edl.specs.Exporting.{title_text}
use Rattle.playlist_edl.proofs.exporting.DayTitleDisplay.fmt.Goals as goal

pub returns-clause-writes : goal.returns-clause-writes
returns-clause-writes g c = λ plain ok.
    let channel = c.args.self.now.channel in
    let day = c.args.self.now.day in
    let channel_is =
    ap (λ spec. styled_decimal spec channel) c.laid_out.ensures ∙ digits_written 3 channel (omega arith) in
    let day_is = ap (λ spec. styled_decimal spec day) c.laid_out-2.ensures ∙ digits_written 5 day (omega arith) in
    let written : codes "CH "
    ++ (styled_decimal c.laid_out.result channel ++ (codes " DAY " ++ styled_decimal c.laid_out-2.result day))
    ≡ title_text channel day =
    λ i. codes "CH " ++ (channel_is i ++ (codes " DAY " ++ day_is i)) in
    subst (λ text. HasWritten g.W.Write.write_str_gives c.args.f.now text c.write.new.self) written
    (c.write.ensures.writes plain ok)
