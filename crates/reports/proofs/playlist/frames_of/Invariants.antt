-- The loops of `frames_of` (how many frames the items of a day have).
use Rattle.std.proofs.Common.{◌≡◌, ◌≤◌, ◌*◌, take}
use Rattle.report_texts.specs.Playlist.{frames_of}
use Rattle.reports.proofs.playlist.frames_of.Given as goal

-- the sum of those so far, each below 2 ^ 32
abbrev pub invariant-loop-item : goal.invariant-loop-item
invariant-loop-item l = record {
  sum : l.frames ≡ frames_of (take l.item-index l.items);
  small : l.frames ≤ 4294967295 * l.item-index;
}
