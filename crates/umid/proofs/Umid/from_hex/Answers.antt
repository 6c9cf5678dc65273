-- `Umid::from_hex`: the UMID that pairs of hexadecimal digits spell, in either case.
use Rattle.std.proofs.Common.{arith, refl}
use Rattle.umid.proofs.UmidLemmas.{IsReadingOf-no_digits, IsReadingOf-other_count}
use Rattle.umid.proofs.ReadingLemmas.{text_reading_is}
use Rattle.umid.proofs.Umid.from_hex.Goals as goal

pub returns-in_default-clause-reading : goal.returns-in_default-clause-reading
returns-in_default-clause-reading c =
    let digits = c.is_hex.ensures.0 c.if-is_hex.true in
    IsReadingOf-other_count c.args.text.now _ digits.0 digits.1 (omega arith) (omega arith) refl

pub returns-in_default-clause-value : goal.returns-in_default-clause-value
returns-in_default-clause-value c = text_reading_is c.args.text.now _ (returns-in_default-clause-reading c)

pub returns-in_default-2-clause-reading : goal.returns-in_default-2-clause-reading
returns-in_default-2-clause-reading c =
    IsReadingOf-no_digits c.args.text.now _ (λ h. cc (c.if-is_hex.false, c.is_hex.ensures.1 h)) refl

pub returns-in_default-2-clause-value : goal.returns-in_default-2-clause-value
returns-in_default-2-clause-value c = text_reading_is c.args.text.now _ (returns-in_default-2-clause-reading c)
