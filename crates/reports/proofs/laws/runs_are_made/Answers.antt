-- `runs_are_made`: the runs that are made of a list of statuses are its runs.
use Rattle.reports.proofs.MatchLemmas.{runs_made}
use Rattle.reports.proofs.laws.runs_are_made.Goals as goal

pub returns : goal.returns
returns c = runs_made
