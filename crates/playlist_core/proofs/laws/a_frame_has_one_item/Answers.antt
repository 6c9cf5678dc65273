-- `a_frame_has_one_item`: no frame of a day has two items, and each frame of a sealed day has one.
use Rattle.std.proofs.Common.{subst}
use Rattle.playlist_core.specs.Item.{planned}
use Rattle.playlist_core.specs.Day.{FitState}
use Rattle.playlist_core.proofs.FullLemmas.{covered_at_most_once, covered_once}
use Rattle.playlist_core.proofs.laws.a_frame_has_one_item.Goals as goal

pub returns-clause-at_most : goal.returns-clause-at_most
returns-clause-at_most c = λ day p rules. covered_at_most_once planned p 0 day.frames day.items rules.apart

pub returns-clause-sealed : goal.returns-clause-sealed
returns-clause-sealed c =
    λ day p rules is_sealed lt. covered_once planned day.frames day.items p rules.apart
    (subst (λ state. FitState state day.frames day.items) is_sealed rules.state) lt
