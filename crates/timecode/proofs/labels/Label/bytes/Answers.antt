-- `Label::bytes`: the text of the label, `HH:MM:SS:FF`; at drop-frame `;` stands before the frames.
use Rattle.std.proofs.Common.{arith}
use Rattle.timecode.proofs.Readings.{label_utf8}
use Rattle.timecode.proofs.labels.Label.bytes.Goals as goal
use Rattle.timecode.proofs.labels.Label.bytes.Goals.{then-is_drop_frame, else-is_drop_frame}

pub returns-clause-utf8 : goal.returns-clause-utf8
returns-clause-utf8 c =
    let label = c.args.self.now in
    elim c.if-is_drop_frame.branch [
      | then-is_drop_frame w ↦ label_utf8 label.hours label.minutes label.seconds c.if-is_drop_frame.last_mark
          label.frames (omega arith) (omega arith) (omega arith) (omega arith) (omega arith)
      | else-is_drop_frame w ↦ label_utf8 label.hours label.minutes label.seconds c.if-is_drop_frame.last_mark
          label.frames (omega arith) (omega arith) (omega arith) (omega arith) (omega arith)
    ]
