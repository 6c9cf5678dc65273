-- The loop of `count_rows` (what is told of the days of these rows).
use Rattle.std.proofs.Common.{◌≡◌, map, take, Ok}
use Rattle.timecode.specs.declared.faults.Unavailable.{Unavailable}
use Rattle.station_tables_records.specs.Inside.{inside, Looks}
use Rattle.station_tables_statements.specs.Calls.{WhileCleanCentre}
use Rattle.station_tables_reading.specs.DayLines.{counts_in}
use Rattle.station_tables_reading.proofs.day_counting.count_rows.Given as goal

-- the days in front were counted
abbrev pub invariant-loop-row : goal.invariant-loop-row
invariant-loop-row g l = record {
  looks : Looks {X = Unit {0}} {E = Unavailable} g.S.Store l.initial.tx l.tx (Ok tt);
  counts : WhileCleanCentre g.S.Store l.initial.tx l.tx
      (l.counts.items ≡ map (counts_in (inside g.S.Store l.initial.tx).now.trees) (take l.row-index l.days));
}
