-- `equal_events_say_the_same`: two events are equal just where all that contracts see of them is the same.
use Rattle.edl.proofs.EqualLemmas.{entries_decide}
use Rattle.edl.proofs.laws.equal_events_say_the_same.Goals as goal

pub returns : goal.returns
returns c = entries_decide
