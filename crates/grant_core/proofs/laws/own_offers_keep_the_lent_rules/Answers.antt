-- `own_offers_keep_the_lent_rules`: the offers of own rows to a channel keep the rules of lent clips.
use Rattle.grant_core.proofs.OwnGrantLemmas.{own_lent}
use Rattle.grant_core.proofs.laws.own_offers_keep_the_lent_rules.Goals as goal

pub returns : goal.returns
returns c = own_lent c.args.own.now c.args.channel c.keep_the_rules.ensures
