-- `closed_parts_answer_as_one`: closed parts of a centre, side by side, answer as one.
use Rattle.channel_view_laws.proofs.PartLemmas.{rules-part, replies-part, rows-part}
use Rattle.channel_view_laws.proofs.laws.closed_parts_answer_as_one.Goals as goal

pub returns-clause-rules : goal.returns-clause-rules
returns-clause-rules c = λ rows rules mine rs closed. rules-part mine rows rules rs closed

pub returns-clause-replies : goal.returns-clause-replies
returns-clause-replies c = λ rows rules mine rs closed. replies-part mine rows rules rs closed

pub returns-clause-rows : goal.returns-clause-rows
returns-clause-rows c = λ rows rules mine rs closed. rows-part mine rs rows rules closed
