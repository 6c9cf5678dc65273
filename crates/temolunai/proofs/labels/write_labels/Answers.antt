-- `write_labels`: writes labels of 11 bytes, one behind another.
use Rattle.std.proofs.Common.{◌<◌, ℕ, length, refl}
use Rattle.timecode.specs.Label.{frame_text}
use Rattle.temolunai.proofs.LabelLemmas.{texts_next}
use Rattle.temolunai.proofs.labels.write_labels.Goals as goal

pub loop-at-preserved : goal.loop-at-preserved
loop-at-preserved c =
    let low : c.loop-at.at < length c.args.frames.now = c.loop-at-test.true in
    let next =
    texts_next (frame_text c.args.rate) c.args.frames.now c.args.out.now c.loop-at.at (λ (n : ℕ). refl) low in
    let inv = c.loop-at.invariant in let put = c.put_label.ensures in let label = c.frame_label-label.ensures in cc
