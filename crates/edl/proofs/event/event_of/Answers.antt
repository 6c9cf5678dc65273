-- `event_of`: the event of a line that begins with a digit, or the line's first fault.
use Rattle.edl.proofs.FieldLemmas.{event_of-over}
use Rattle.edl.proofs.event.event_of.Goals as goal

pub returns-in_default-clause-value : goal.returns-in_default-clause-value
returns-in_default-clause-value c = event_of-over c.args.rate c.args.line.now c.in_default.ensures
