-- `two_labels_a_minute_are_dropped`: drop-frame counting drops two labels of each minute but every tenth.
use Rattle.timecode.proofs.Tallies.{two_of_a_minute, of_an_hour}
use Rattle.timecode.proofs.laws.two_labels_a_minute_are_dropped.Goals as goal

pub returns-clause-minute : goal.returns-clause-minute
returns-clause-minute c = two_of_a_minute

pub returns-clause-hour : goal.returns-clause-hour
returns-clause-hour c = of_an_hour
