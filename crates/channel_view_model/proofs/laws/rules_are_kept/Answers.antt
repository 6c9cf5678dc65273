-- `rules_are_kept`: a request keeps the integrity rules of the set.
use Rattle.channel_view_model.proofs.RuleLemmas.{KeepsRules-after}
use Rattle.channel_view_model.proofs.laws.rules_are_kept.Goals as goal

pub returns : goal.returns
returns c = KeepsRules-after
