-- `equal_feeds_are_answered_alike`: equal views and equal feeds are answered alike.
use Rattle.channel_view_laws.proofs.RunLemmas.{feeds_law}
use Rattle.channel_view_laws.proofs.laws.equal_feeds_are_answered_alike.Goals as goal

pub returns : goal.returns
returns c = feeds_law
