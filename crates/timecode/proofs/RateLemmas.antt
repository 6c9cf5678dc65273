-- Rates that are one.
use Rattle.std.proofs.Common.{◌≡◌, true, refl}
use Rattle.timecode.specs.declared.rates.Rate.{Rate}
use Rattle.timecode.specs.declared.rates.Rate.TheVariants.{F24, F25, F30, Df30}
use Rattle.timecode.specs.Rate.{is_same_rate}

pub rate_same : (a : Rate) → is_same_rate a a ≡ true
rate_same F24 = refl
rate_same F25 = refl
rate_same F30 = refl
rate_same Df30 = refl

pub rate_is : (a b : Rate) → is_same_rate a b ≡ true → a ≡ b
rate_is F24 F24 h = refl
rate_is F24 F25 h = absurd (cc)
rate_is F24 F30 h = absurd (cc)
rate_is F24 Df30 h = absurd (cc)
rate_is F25 F24 h = absurd (cc)
rate_is F25 F25 h = refl
rate_is F25 F30 h = absurd (cc)
rate_is F25 Df30 h = absurd (cc)
rate_is F30 F24 h = absurd (cc)
rate_is F30 F25 h = absurd (cc)
rate_is F30 F30 h = refl
rate_is F30 Df30 h = absurd (cc)
rate_is Df30 F24 h = absurd (cc)
rate_is Df30 F25 h = absurd (cc)
rate_is Df30 F30 h = absurd (cc)
rate_is Df30 Df30 h = refl
