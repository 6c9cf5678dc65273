-- The loops of `read_labels` (reads labels of 11 bytes, which stand one behind another).
use Rattle.std.proofs.Common.{◌≡◌, ◌<◌, ℕ, length}
use Rattle.std.specs.Prelude.{slice_get, Some}
use Rattle.timecode.specs.LabelReading.{reading_of_text}
use Rattle.temolunai.specs.Labels.{slot, reading_of}
use Rattle.temolunai.proofs.labels.read_labels.Given as goal

abbrev pub invariant-loop-at : goal.invariant-loop-at
invariant-loop-at l = record {
  len : length l.out ≡ length l.fn.out;
  each : (k : ℕ) → k < l.at → slice_get l.out k ≡ Some (reading_of (reading_of_text l.rate (slot k l.texts)));
}
