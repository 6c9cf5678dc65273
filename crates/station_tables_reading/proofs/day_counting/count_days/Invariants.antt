-- The loop of `count_days` (what is told of the channel's days).
use Rattle.std.proofs.Common.{◌≡◌, ◌*◌, map, Ok}
use Rattle.timecode.specs.declared.faults.Unavailable.{Unavailable}
use Rattle.station_tables_records.specs.Inside.{inside, Looks}
use Rattle.station_tables_reading.specs.Lines.{WhileCleanSeen}
use Rattle.station_tables_reading.specs.DayLines.{counts_in, days_below}
use Rattle.station_tables_reading.proofs.day_counting.count_days.Given as goal

-- the days of the pages in front were counted
abbrev pub invariant-loop-page : goal.invariant-loop-page
invariant-loop-page g l = record {
  looks : Looks {X = Unit {0}} {E = Unavailable} g.S.Store l.initial.tx l.tx (Ok tt);
  counts : WhileCleanSeen g.S.Store l.initial.tx l.tx l.channel l.plan
      (λ view. l.counts.items
      ≡ map (counts_in (inside g.S.Store l.initial.tx).now.trees)
      (days_below l.channel (l.page * 1000) (inside g.S.Store l.initial.tx).now.trees));
}
