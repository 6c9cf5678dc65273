-- What the days table tells of days.
use Rattle.std.specs.Prelude.{List, map}
use Rattle.playlist_core.specs.Day.{Day}
use Rattle.asrun_match.specs.declared.day.DayAsRun.{DayAsRun}
use Rattle.report_texts.specs.declared.counts.DayCounts.{DayCounts}
use Rattle.report_texts.specs.Days.{batches_of, day_counts}
use Rattle.channel_view_model.specs.declared.view.View.{View}

-- of each of these days, of which this was aired
abbrev pub counts_of : List DayAsRun → List Day → List DayCounts
counts_of aired days = map (λ d. day_counts (batches_of aired d.number) d) days

-- of each day that a channel sees
abbrev pub counts_seen : View → List DayCounts
counts_seen view = counts_of view.aired view.days
