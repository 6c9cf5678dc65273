-- Commands on what was aired of a broadcast day of a channel: what each is answered, and what it leaves.
use Rattle.std.specs.Prelude.{ℕ, List, [], ◌==◌, Option, Some, None, Result, Ok}
use Rattle.timecode.specs.Counting.{day_length}
use Rattle.channel_plan.specs.declared.plan.PlanRow.{PlanRow}
use Rattle.channel_plan.specs.declared.refusal.Refusal.{Refusal}
use Rattle.vault_core.specs.Questions.{Questions, replaced}
use Rattle.playlist_core.specs.Day.{Day, picture_in}
use Rattle.asrun_match.specs.declared.day.DayAsRun.{DayAsRun}
use Rattle.asrun_match.specs.Aired.{Airing, aired_picture}
use Rattle.asrun_match.specs.Batches.{if_sealed}
use Rattle.asrun_match.specs.Status.{statuses_of}
use Rattle.report_texts.specs.Asrun.{status_table}

-- nothing aired of a day of the channel
abbrev pub no_airing : PlanRow → Airing
no_airing plan = record { frames = day_length plan.rate; batches = [] }

abbrev pub airing_or : PlanRow → Option DayAsRun → Airing
airing_or plan None = no_airing plan
airing_or plan (Some a) = a.aired

-- what was aired of the channel's day of this number
abbrev pub airing_at : PlanRow → Questions DayAsRun → ℕ → Airing
airing_at plan aired n = airing_or plan (aired.first (λ a. a.day == n))

-- what was aired with this, in the place of what was aired of the same day or in the order of the days
abbrev pub with_airing : DayAsRun → List DayAsRun → List DayAsRun
with_airing = replaced (λ a. a.day)

-- the match table of a sealed day
abbrev pub match_of : PlanRow → Day → Airing → Result (List ℕ) Refusal
match_of plan day airing =
    if_sealed day.state (Ok (status_table plan (statuses_of (picture_in day) (aired_picture airing))))
