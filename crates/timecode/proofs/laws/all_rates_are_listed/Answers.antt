-- `all_rates_are_listed`: the four rates of `Rate::ALL` are all there are.
use Rattle.std.proofs.Common.{refl, lit<}
use Rattle.timecode.specs.declared.rates.Rate.TheVariants.{F24, F25, F30, Df30}
use Rattle.timecode.proofs.laws.all_rates_are_listed.Goals as goal

pub returns : goal.returns
returns c F24 = (0, lit< tt, refl)
returns c F25 = (1, lit< tt, refl)
returns c F30 = (2, lit< tt, refl)
returns c Df30 = (3, lit< tt, refl)
