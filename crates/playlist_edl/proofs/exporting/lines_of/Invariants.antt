-- The loops of `lines_of` (the lines of a day's items, in the order of their positions).
use Rattle.std.proofs.Common.{◌≡◌, ◌+◌, ◌++◌, drop}
use Rattle.std.specs.Prelude.{map}
use Rattle.playlist_edl.specs.Exporting.{line_shown, lines_from}
use Rattle.playlist_edl.proofs.exporting.lines_of.Given as goal

-- what is left comes behind what there is
abbrev pub invariant-loop-k : goal.invariant-loop-k
invariant-loop-k g l =
    map line_shown l.lines.items ++ lines_from l.plan (g.S.Sources.seen l.sources) l.items (l.k + 1) (drop l.k l.items)
    ≡ lines_from l.plan (g.S.Sources.seen l.sources) l.items 1 l.items
