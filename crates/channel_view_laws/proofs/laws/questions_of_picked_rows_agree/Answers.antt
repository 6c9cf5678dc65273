-- `questions_of_picked_rows_agree`: the questions that are asked of the rows that a test picks agree with one another.
use Rattle.channel_view_model.proofs.TableLemmas.{picked_is_consistent}
use Rattle.channel_view_laws.proofs.laws.questions_of_picked_rows_agree.Goals as goal

pub returns : goal.returns
returns g c = picked_is_consistent
