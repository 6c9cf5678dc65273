-- `views_keep_the_rules`: rows that keep the rules give each channel a view that keeps its own.
use Rattle.channel_view_rules.proofs.ViewRuleLemmas.{view_kept}
use Rattle.channel_view_rules.proofs.view_rules.views_keep_the_rules.Goals as goal

pub returns : goal.returns
returns c = view_kept
