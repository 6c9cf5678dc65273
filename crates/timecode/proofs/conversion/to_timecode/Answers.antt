-- what is divided is the number of labels before the frame's, those dropped among them
use Rattle.std.proofs.Common.{◌≡◌, ◌<◌, sym, ◌∙◌, arith}
use Rattle.timecode.specs.Rate.{nominal_frames}
use Rattle.timecode.specs.Counting.{day_length}
use Rattle.timecode.proofs.Divided.{plain_label, drop_label}
use Rattle.timecode.proofs.conversion.to_timecode.Goals as goal
use Rattle.timecode.proofs.conversion.to_timecode.Goals.{then-is_drop_frame, else-is_drop_frame}

pub returns-clause-label : goal.returns-clause-label
returns-clause-label c =
    let low : c.args.frame < day_length c.args.rate = omega arith in
    let counts : c.from-counts.result ≡ nominal_frames c.args.rate = cc in
    elim c.if-is_drop_frame.branch [
      | then-is_drop_frame w ↦
          drop_label c.args.rate c.args.frame w.labels_dropped_before.result _ _ low
          (sym c.is_drop_frame.ensures ∙ w.if-is_drop_frame.true) counts w.labels_before-is
          w.labels_dropped_before.ensures.dropped w.labels_dropped_before.ensures.kept
      | else-is_drop_frame w ↦ plain_label c.args.rate c.args.frame _ _ low
          (sym c.is_drop_frame.ensures ∙ w.if-is_drop_frame.false) counts w.labels_before-is
    ]
