-- The offers of one more owner behind those of others keep the rules of lent clips.
use Rattle.grant_core.proofs.OwnGrantLemmas.{both_lent}
use Rattle.grant_core.proofs.laws.offers_of_more_owners_keep_the_lent_rules.Goals as goal

pub returns : goal.returns
returns c = both_lent
