-- `questions_of_a_list_agree`: the questions that are asked of a list agree with one another.
use Rattle.vault_core.proofs.ReadingLemmas.{listed_is_consistent}
use Rattle.vault_core.proofs.laws.questions_of_a_list_agree.Goals as goal

pub returns : goal.returns
returns g c = listed_is_consistent
