-- The loops of `frames_of` (how many frames these items have together).
use Rattle.std.proofs.Common.{◌≡◌, take}
use Rattle.std.specs.List.{sum_by}
use Rattle.station_tables_reading.proofs.day_counting.frames_of.Given as goal

-- the frames of the items so far
abbrev pub invariant-loop-row : goal.invariant-loop-row
invariant-loop-row l = l.frames ≡ sum_by (λ r. r.1.item.frames) (take l.row-index l.items)
