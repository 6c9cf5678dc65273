-- `every_other_label_is_counted`: a label in range that no frame of the day has is one that is dropped.
use Rattle.timecode.proofs.Days.{dropped_iff}
use Rattle.timecode.proofs.laws.every_other_label_is_counted.Goals as goal

pub returns : goal.returns
returns c = dropped_iff
