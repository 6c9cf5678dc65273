-- `have_own_grants`: whether no two open offers are of one clip to one grantee.
use Rattle.std.proofs.Common.{◌∙◌, rules}
use Rattle.vault_core.specs.Keys.{open_grant}
use Rattle.vault_core.specs.Rules.{open_grants, is_same_grant}
use Rattle.vault_core.proofs.ApartLemmas.{grants_apart, apart_both}
use Rattle.vault_core.proofs.keys.have_own_grants.Goals as goal

pub returns-in-Ok : goal.returns-in-Ok
returns-in-Ok c = grants_apart _ (open_grants c.args.offers.now) c.are_apart.result (search rules) c.are_apart.ensures

pub returns-in-Err : goal.returns-in-Err
returns-in-Err c = c.are_pairs_apart.ensures ∙ apart_both is_same_grant open_grant c.args.offers.now
