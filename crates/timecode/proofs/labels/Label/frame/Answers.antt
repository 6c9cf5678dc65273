-- `Label::frame`: the frame of the day that the label names.
use Rattle.timecode.proofs.Readings.{found_label}
use Rattle.timecode.proofs.labels.Label.frame.Goals as goal

pub returns-clause-labelled : goal.returns-clause-labelled
returns-clause-labelled c =
    found_label c.args.self.now c.frame.result c.ok_or.result c.ok_or.ensures.value c.frame.ensures
