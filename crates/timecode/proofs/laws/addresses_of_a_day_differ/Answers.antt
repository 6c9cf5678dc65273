-- `addresses_of_a_day_differ`: the frames of a day have different addresses.
use Rattle.timecode.proofs.Days.{addresses_differ}
use Rattle.timecode.proofs.laws.addresses_of_a_day_differ.Goals as goal

pub returns : goal.returns
returns c = addresses_differ
