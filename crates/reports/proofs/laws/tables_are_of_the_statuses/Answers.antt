-- `tables_are_of_the_statuses`: the table of a list's runs is the one that the list says.
use Rattle.reports.proofs.MatchLemmas.{table_of_statuses}
use Rattle.reports.proofs.laws.tables_are_of_the_statuses.Goals as goal

pub returns : goal.returns
returns c = table_of_statuses
