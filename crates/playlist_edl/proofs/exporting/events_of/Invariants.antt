-- The loops of `events_of` (lines as the writer of lists takes them).
use Rattle.std.proofs.Common.{◌≡◌, take}
use Rattle.std.specs.Prelude.{map}
use Rattle.edl.specs.WrittenShown.{outs_of}
use Rattle.playlist_edl.specs.Exporting.{line_shown}
use Rattle.playlist_edl.proofs.exporting.events_of.Given as goal

abbrev pub invariant-loop-line : goal.invariant-loop-line
invariant-loop-line l = outs_of l.events.items ≡ map line_shown (take l.line-index l.lines)
