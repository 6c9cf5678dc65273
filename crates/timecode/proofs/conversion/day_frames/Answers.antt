-- counting says how long a day is
use Rattle.std.proofs.Common.{sym, subst}
use Rattle.timecode.specs.declared.rates.Rate.{Rate}
use Rattle.timecode.specs.declared.rates.Rate.TheVariants.{F24, F25, F30, Df30}
use Rattle.timecode.specs.Counting.{IsDayLength}
use Rattle.timecode.proofs.Days.{day_length_is}
use Rattle.timecode.proofs.conversion.day_frames.Goals as goal

pub returns-in-F24-clause-counted : goal.returns-in-F24-clause-counted
returns-in-F24-clause-counted c =
    subst (λ (rate : Rate). IsDayLength rate 2073600) (sym c.in-F24.is) (day_length_is F24)

pub returns-in-F25-clause-counted : goal.returns-in-F25-clause-counted
returns-in-F25-clause-counted c =
    subst (λ (rate : Rate). IsDayLength rate 2160000) (sym c.in-F25.is) (day_length_is F25)

pub returns-in-F30-clause-counted : goal.returns-in-F30-clause-counted
returns-in-F30-clause-counted c =
    subst (λ (rate : Rate). IsDayLength rate 2592000) (sym c.in-F30.is) (day_length_is F30)

pub returns-in-Df30-clause-counted : goal.returns-in-Df30-clause-counted
returns-in-Df30-clause-counted c =
    subst (λ (rate : Rate). IsDayLength rate 2589408) (sym c.in-Df30.is) (day_length_is Df30)
