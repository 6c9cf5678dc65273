-- The loops of `days_of` (the days, each with its channel, that the rows of the plan, of days and of items make).
use Rattle.std.specs.Prelude.{◌≡◌, take, map, true}
use Rattle.std.specs.List.{AllByRecursion, list_all}
use Rattle.playlist_core.specs.Day.{KeepsDayRules}
use Rattle.station_tables_records.specs.MadeDays.{day_made, is_planned_day}
use Rattle.station_tables_records.proofs.days.days_of.Given as goal

-- the days of the rows so far
abbrev pub invariant-loop-channel : goal.invariant-loop-channel
invariant-loop-channel l = record {
  made : l.made.items ≡ map (day_made l.plan l.items) (take l.channel-index l.days);
  rules : AllByRecursion (λ d. KeepsDayRules d.1) (map (day_made l.plan l.items) (take l.channel-index l.days));
  planned : list_all (is_planned_day l.plan) (take l.channel-index l.days) ≡ true;
}
