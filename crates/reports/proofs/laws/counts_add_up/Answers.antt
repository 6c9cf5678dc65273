-- `counts_add_up`: each frame is counted once: the counts of a day add up to its frames.
use Rattle.std.proofs.Common.{◌∙◌, ap, length}
use Rattle.playlist_core.specs.Picture.{picture_of}
use Rattle.playlist_core.specs.Day.{picture_in}
use Rattle.asrun_match.specs.Aired.{aired, all_rows}
use Rattle.asrun_match.specs.Status.{statuses_of}
use Rattle.asrun_match.proofs.SweepLemmas.{length-statuses}
use Rattle.reports.proofs.MatchLemmas.{counts_sum}
use Rattle.reports.proofs.laws.counts_add_up.Goals as goal

pub returns-clause-list : goal.returns-clause-list
returns-clause-list c = counts_sum

pub returns-clause-day : goal.returns-clause-day
returns-clause-day c = λ day airing same.
    let rows = all_rows airing.batches in
    ap (λ n. length (statuses_of (picture_in day) (picture_of aired n rows))) same
    ∙ length-statuses day.frames day.items rows
