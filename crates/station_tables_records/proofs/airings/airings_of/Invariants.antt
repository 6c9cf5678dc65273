-- The loops of `airings_of` (what was aired of each day that has a batch, with the day's channel).
use Rattle.std.specs.Prelude.{◌≡◌, take, map, filter}
use Rattle.std.specs.List.{AllByRecursion}
use Rattle.asrun_match.specs.Aired.{KeepsAiringRules}
use Rattle.station_tables_records.specs.MadeAirings.{airing_made, is_first}
use Rattle.station_tables_records.proofs.airings.airings_of.Given as goal

-- what was aired of the days whose first batches came so far
abbrev pub invariant-loop-batch : goal.invariant-loop-batch
invariant-loop-batch l = record {
  made : l.made.items
      ≡ map (airing_made l.plan (record { batches = l.batches; lines = l.lines }))
      (filter is_first (take l.batch-index l.batches));
  rules : AllByRecursion (λ a. KeepsAiringRules a.1.aired)
      (map (airing_made l.plan (record { batches = l.batches; lines = l.lines }))
      (filter is_first (take l.batch-index l.batches)));
}
