-- `others_deleted`: the requests of channels that lend it nothing may be deleted from a run.
use Rattle.channel_view_laws.proofs.RunLemmas.{purge_law}
use Rattle.channel_view_laws.proofs.laws.others_deleted.Goals as goal

pub returns : goal.returns
returns c = purge_law
