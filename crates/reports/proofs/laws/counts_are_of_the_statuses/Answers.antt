-- `counts_are_of_the_statuses`: the runs of a list of statuses have as many frames of each status as the list.
use Rattle.reports.proofs.MatchLemmas.{frames_counted}
use Rattle.reports.proofs.laws.counts_are_of_the_statuses.Goals as goal

pub returns : goal.returns
returns c = frames_counted
