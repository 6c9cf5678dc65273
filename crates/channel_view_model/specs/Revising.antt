-- Part of the promise: a day that is revised: items are taken out of it and others put in, one after another, each as
-- the command for one does it.
use Rattle.std.specs.Prelude.{ℕ, ◌+◌, List, [], ◌∷◌, Option, Some, None, Result, Ok, Err}
use Rattle.channel_plan.specs.declared.plan.PlanRow.{PlanRow}
use Rattle.channel_plan.specs.declared.refusal.Refusal.{Refusal}
use Rattle.playlist_core.specs.declared.item.EditKind.{EditKind}
use Rattle.playlist_core.specs.declared.item.EditKind.TheVariants.{Wipe}
use Rattle.playlist_core.specs.declared.item.Item.{Item}
use Rattle.playlist_core.specs.declared.item.NewItem.{NewItem}
use Rattle.playlist_core.specs.Source.{SourcesSeen}
use Rattle.playlist_core.specs.Day.{Day, number_removed, with_item, without_item}
use Rattle.channel_view_model.specs.Days.{item_said, item_of_said, kind_of_mix}
use Rattle.channel_view_model.specs.declared.revision.ItemRefusal.{ItemRefusal}
use Rattle.channel_view_model.specs.declared.revision.SaidItem.{SaidItem}
use Rattle.channel_view_model.specs.Revision.{SaidRevision}

-- the day without the item of a number
abbrev pub taken_out : ℕ → Day → Result ℕ Refusal → Result Day Refusal
taken_out n day (Ok m) = Ok (without_item n day)
taken_out n day (Err e) = Err e

abbrev pub day_without : ℕ → Day → Result Day Refusal
day_without n day = taken_out n day (number_removed day n)

-- an item with a wipe's number is this wipe, and another one what its mix makes it
abbrev pub kind_said : Option ℕ → ℕ → EditKind
kind_said None mix = kind_of_mix mix
kind_said (Some n) mix = Wipe n

abbrev pub of_kind : EditKind → Result NewItem Refusal → Result NewItem Refusal
of_kind kind (Ok new) = Ok (record new { kind = kind })
of_kind kind (Err e) = Err e

abbrev pub new_said : PlanRow → SaidItem → Result NewItem Refusal
new_said plan said =
    of_kind (kind_said said.wipe said.mix) (item_said plan said.at said.frames said.source_in said.mix said.source)

-- the day with an item that is said
abbrev pub put_in : Day → Result Item Refusal → Result Day Refusal
put_in day (Ok item) = Ok (with_item item day)
put_in day (Err e) = Err e

abbrev pub day_with : PlanRow → SourcesSeen → SaidItem → Day → Result Day Refusal
day_with plan seen said day = put_in day (item_of_said day plan seen (new_said plan said))

-- what comes next, unless one was refused
abbrev pub and_then : Result Day ItemRefusal → (Day → Result Day ItemRefusal) → Result Day ItemRefusal
and_then (Ok day) next = next day
and_then (Err e) next = Err e

abbrev pub at_place : ℕ → Result Day Refusal → Result Day ItemRefusal
at_place k (Ok day) = Ok day
at_place k (Err e) = Err (record { item = k; refusal = e })

-- the day after one of a list after another, or the first refusal with its place, which is counted from k
abbrev pub in_turn : {X : Type 0} → (X → Day → Result Day Refusal) → ℕ → List X → Day → Result Day ItemRefusal
in_turn step k [] day = Ok day
in_turn step k (x ∷ xs) day = and_then (at_place k (step x day)) (in_turn step (k + 1) xs)

-- the day after all that is taken out, and then all that is put in
unfoldable pub day_revised : PlanRow → SourcesSeen → SaidRevision → Day → Result Day ItemRefusal
day_revised plan seen said day =
    and_then (in_turn day_without 1 said.remove day) (in_turn (day_with plan seen) 1 said.add)
