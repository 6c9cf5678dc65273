-- Part of the promise: a revision of a day beside the commands for one item, and beside the revision that takes it
-- back.
use Rattle.std.specs.Prelude.{◌≡◌, ℕ, List, Bool, not, ◌==◌, Option, Some, None, Result, Ok, Err, map, filter}
use Rattle.std.specs.List.{list_any}
use Rattle.std.specs.Option.{option_map}
use Rattle.channel_plan.specs.declared.plan.PlanRow.{PlanRow}
use Rattle.channel_plan.specs.declared.refusal.Refusal.{Refusal}
use Rattle.playlist_core.specs.declared.item.Item.{Item}
use Rattle.playlist_core.specs.declared.item.NewItem.{NewItem}
use Rattle.playlist_core.specs.declared.source.Source.{Source}
use Rattle.playlist_core.specs.Picture.{Picture}
use Rattle.playlist_core.specs.Item.{first_kept}
use Rattle.playlist_core.specs.Day.{Day, has_number, picture_in}
use Rattle.channel_view_model.specs.declared.command.Reply.{Reply}
use Rattle.channel_view_model.specs.declared.command.Reply.TheVariants.{Refused}
use Rattle.channel_view_model.specs.declared.command.Change.{Change}
use Rattle.channel_view_model.specs.declared.command.Change.TheVariants.{Day as OnDay}
use Rattle.channel_view_model.specs.Decide.{Decided}
use Rattle.channel_view_model.specs.Revision.{SaidRevision}
use Rattle.channel_view_model.specs.Revising.{new_said}

-- the day after a decision on it, or the refusal
abbrev pub changed_to : Change → Day → Day
changed_to (OnDay change) day = change.day
changed_to _ day = day

abbrev pub replied_to : Reply → Day → Result Day Refusal
replied_to (Refused e) after = Err e
replied_to _ after = Ok after

abbrev pub day_decided : Day → Decided → Result Day Refusal
day_decided day decided = replied_to decided.0 (changed_to decided.1 day)

-- what a day shows at each frame, by whatever item: a source and a frame of it
abbrev pub showing : Day → Picture (Source × ℕ)
showing day = map (option_map (λ cell. (cell.source, cell.frame))) (picture_in day)

-- where an item lies, and what it shows
pub record Placed : Type 0 where
  pub pos : ℕ
  pub frames : ℕ
  pub source : Source
  pub first : ℕ

abbrev pub placed : Item → Placed
placed i = record { pos = i.pos; frames = i.frames; source = i.src; first = i.src_first }

-- where a new item would lie, if its source is one
abbrev pub placed_new : NewItem → Option Source → Option Placed
placed_new new None = None
placed_new new (Some source) =
    Some (record { pos = new.pos; frames = new.frames; source = source; first = first_kept source new.src_first })

abbrev pub placed_said : Result NewItem Refusal → Option Placed
placed_said (Ok new) = placed_new new new.src
placed_said (Err e) = None

-- the items that a revision takes out of a day, and those that it leaves
abbrev pub is_out : SaidRevision → Item → Bool
is_out said i = list_any (λ n. i.n == n) said.remove

abbrev pub items_out : SaidRevision → Day → List Item
items_out said day = filter (is_out said) day.items

abbrev pub items_left : SaidRevision → Day → List Item
items_left said day = filter (λ i. not (is_out said i)) day.items

-- A revision that takes back another one, of a day that became another: it takes out all items that aren't left of the
-- day, by their numbers, and puts in those that were taken out, each where it lay, showing what it showed.
pub record TakesBack (plan : PlanRow) (said : SaidRevision) (day after : Day) (back : SaidRevision) : Type 0 where
  pub remove : back.remove ≡ map (λ i. i.n) (filter (λ i. not (has_number (items_left said day) i.n)) after.items)
  pub add : map (λ said. placed_said (new_said plan said)) back.add ≡ map (λ i. Some (placed i)) (items_out said day)
