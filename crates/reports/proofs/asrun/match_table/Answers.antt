-- `match_table`: the match table of a sealed day of this channel: that of the statuses of its frames.
use Rattle.std.proofs.Common.{◌++◌, ◌∙◌, ap}
use Rattle.playlist_core.specs.Day.{picture_in}
use Rattle.asrun_match.specs.Aired.{aired_picture}
use Rattle.asrun_match.specs.Status.{statuses_of}
use Rattle.report_texts.specs.Asrun.{match_text}
use Rattle.reports.proofs.MatchLemmas.{runs_those_made, table_of_statuses}
use Rattle.reports.proofs.asrun.match_table.Goals as goal

pub returns-in-Ok-clause-runs : goal.returns-in-Ok-clause-runs
returns-in-Ok-clause-runs c =
    let plan = c.args.plan.now in
    c.in-Ok.ensures.ok
    ∙ ap (λ front. front ++ match_text plan c.as_slice.result.now) c.new-text.ensures.items
    ∙ ap (match_text plan) (c.as_slice.ensures.value
    ∙ runs_those_made (statuses_of (picture_in c.args.day.now) (aired_picture c.args.airing.now))
    c.in_ok-runs.runs.items c.in_ok-runs.ensures.runs)

pub returns-in-Ok-clause-statuses : goal.returns-in-Ok-clause-statuses
returns-in-Ok-clause-statuses c =
    let plan = c.args.plan.now in
    c.in-Ok.ensures.ok
    ∙ ap (λ front. front ++ match_text plan c.as_slice.result.now) c.new-text.ensures.items
    ∙ ap (match_text plan) c.as_slice.ensures.value
    ∙ table_of_statuses plan (statuses_of (picture_in c.args.day.now) (aired_picture c.args.airing.now))
    c.in_ok-runs.runs.items c.in_ok-runs.ensures.runs
