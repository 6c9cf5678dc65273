-- `one_channel_alone`: in a run a channel is answered as by a machine of its own.
use Rattle.channel_view_laws.proofs.RunLemmas.{alone_law}
use Rattle.channel_view_laws.proofs.laws.one_channel_alone.Goals as goal

pub returns : goal.returns
returns c = alone_law
