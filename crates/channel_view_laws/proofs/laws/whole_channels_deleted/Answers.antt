-- `whole_channels_deleted`: all requests of some channels may be deleted from a run.
use Rattle.channel_view_laws.proofs.RunLemmas.{part_law}
use Rattle.channel_view_laws.proofs.laws.whole_channels_deleted.Goals as goal

pub returns : goal.returns
returns c = part_law
