-- `labels_are_read_back`: the text of a frame's label is read back as that frame.
use Rattle.timecode.proofs.Readings.{read_back}
use Rattle.timecode.proofs.laws.labels_are_read_back.Goals as goal

pub returns : goal.returns
returns c = read_back
