-- `a_picture_knows_no_order`: the picture doesn't depend on the order in which the items are painted.
use Rattle.playlist_core.specs.Item.{planned}
use Rattle.playlist_core.proofs.AnyOrderLemmas.{picture-IsPermutation}
use Rattle.playlist_core.proofs.laws.a_picture_knows_no_order.Goals as goal

pub returns : goal.returns
returns c = λ day items rules moved. picture-IsPermutation planned day.frames items day.items moved rules.apart
