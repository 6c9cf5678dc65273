-- `DayBuilder::free_number`: the least number that no item has.
use Rattle.std.proofs.Common.{◌∙◌, ap}
use Rattle.playlist_core.specs.Day.{Day, free_number}
use Rattle.playlist_core.proofs.FillingLemmas.{free_marked}
use Rattle.playlist_core.proofs.filling.DayBuilder.free_number.Goals as goal

pub returns : goal.returns
returns c =
    c.free.ensures
    ∙ free_marked c.self.inside.numbers c.self.inside.items.items c.self.invariant.1
    ∙ ap (λ (d : Day). free_number d.items) c.self.view_is
