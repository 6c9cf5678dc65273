-- `adding_is_painting`: to add an item is to paint it.
use Rattle.playlist_core.specs.Item.{planned}
use Rattle.playlist_core.proofs.OrderLemmas.{picture-put}
use Rattle.playlist_core.proofs.laws.adding_is_painting.Goals as goal

pub returns : goal.returns
returns c = λ day item. picture-put planned item day.frames day.items
