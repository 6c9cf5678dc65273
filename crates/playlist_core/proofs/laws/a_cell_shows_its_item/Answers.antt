-- `a_cell_shows_its_item`: the cell of a frame that an item covers shows that item, and other cells are empty.
use Rattle.playlist_core.specs.Item.{planned}
use Rattle.playlist_core.proofs.FullLemmas.{cell_covered, cell_uncovered}
use Rattle.playlist_core.proofs.laws.a_cell_shows_its_item.Goals as goal

pub returns-clause-covered : goal.returns-clause-covered
returns-clause-covered c =
    λ day item p rules among here. cell_covered planned day.frames day.items item p rules.apart among here

pub returns-clause-empty : goal.returns-clause-empty
returns-clause-empty c = λ day p rules none. cell_uncovered planned day.frames day.items p rules.apart none
