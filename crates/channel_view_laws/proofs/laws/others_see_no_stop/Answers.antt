-- `others_see_no_stop`: a stop leaves the requests in doubt undone, or one of them done whole.
use Rattle.channel_view_laws.proofs.ServedLemmas.{stop_unseen}
use Rattle.channel_view_laws.proofs.laws.others_see_no_stop.Goals as goal

pub returns : goal.returns
returns c = stop_unseen
