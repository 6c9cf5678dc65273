-- `runs_are_determined`: a list of statuses has one list of runs.
use Rattle.asrun_match.proofs.DeterminedLemmas.{runs_determined}
use Rattle.asrun_match.proofs.laws.runs_are_determined.Goals as goal

pub returns : goal.returns
returns c = λ list a b one other. runs_determined list a b one other
