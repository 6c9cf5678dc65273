-- A day that is being filled: what is kept beside its items, and the tests that look at none of them.
use Rattle.std.specs.Prelude.{◌≡◌, ℕ, ◌+◌, ◌≤◌, List, Bool, false, nat_lt, slice_index_or, Option, Some, None, Result}
use Rattle.std.specs.Prelude.{Ok, Err, if◌then◌else◌}
use Rattle.channel_plan.specs.declared.plan.PlanRow.{PlanRow}
use Rattle.channel_plan.specs.declared.refusal.Code.TheVariants.{NoSource, MixLong, PastDayEnd}
use Rattle.channel_plan.specs.declared.refusal.Refusal.{Refusal}
use Rattle.channel_plan.specs.Refusal.{refused}
use Rattle.playlist_core.specs.declared.source.Source.{Source}
use Rattle.playlist_core.specs.declared.item.Item.{Item}
use Rattle.playlist_core.specs.declared.item.NewItem.{NewItem}
use Rattle.playlist_core.specs.Limits.{most_items}
use Rattle.playlist_core.specs.Source.{SourcesSeen}
use Rattle.playlist_core.specs.Day.{has_number, source_fault, unless}

-- a mark for each number that an item has, up to the most that a day may have
abbrev pub AreMarked : List Bool → List Item → Type 0
AreMarked marks items = (n : ℕ) → n ≤ most_items → slice_index_or marks n false ≡ has_number items n

-- the source of an item that fits day n, of so many frames, whatever its other items are, or the first refusal whose
-- condition holds
abbrev pub fitting_of : PlanRow → ℕ → SourcesSeen → NewItem → Option Source → Result Source Refusal
fitting_of plan n seen new None = Err (refused NoSource)
fitting_of plan n seen new (Some source) =
    unless (source_fault plan n seen new source)
    (if nat_lt new.frames new.mix then Err (refused MixLong) else Ok source)

unfoldable pub fitting_source : ℕ → ℕ → PlanRow → SourcesSeen → NewItem → Result Source Refusal
fitting_source n frames plan seen new =
    if nat_lt frames (new.pos + new.frames) then Err (refused PastDayEnd)
    else fitting_of plan n seen new new.src
