-- `written_lists_are_read_back`: what is read of a written list is what was written.
use Rattle.edl.proofs.WrittenEvents.{LabelsAreReadBack}
use Rattle.edl.proofs.WrittenLaw.{list_read_back}
use Rattle.edl.proofs.laws.written_lists_are_read_back.Goals as goal

pub returns : goal.returns
unfolding LabelsAreReadBack
returns c =
    λ rate ignore title events plain can few. list_read_back c.labels_are_read_back.ensures rate ignore title events
    plain can few
