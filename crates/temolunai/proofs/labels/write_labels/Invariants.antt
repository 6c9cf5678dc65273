-- The loops of `write_labels` (writes labels of 11 bytes, one behind another).
use Rattle.std.proofs.Common.{◌≡◌, take}
use Rattle.temolunai.specs.Labels.{labels_put}
use Rattle.temolunai.proofs.labels.write_labels.Given as goal

abbrev pub invariant-loop-at : goal.invariant-loop-at
invariant-loop-at l = l.out ≡ labels_put l.rate (take l.at l.frames) l.fn.out
