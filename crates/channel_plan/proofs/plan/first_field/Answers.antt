-- `first_field`: the text before the first comma, and the text after it, if there is one.
use Rattle.channel_plan.proofs.PlanLemmas.{first_field_at, first_field_whole}
use Rattle.channel_plan.proofs.plan.first_field.Goals as goal

pub returns-in-Some : goal.returns-in-Some
returns-in-Some c = first_field_at c.args.text.now c.in-Some.at c.in-Some.ensures.value

pub returns-in-None : goal.returns-in-None
returns-in-None c = first_field_whole c.args.text.now c.in-None.ensures.value
