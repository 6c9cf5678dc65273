-- Part of the promise: the day after a list is imported.
use Rattle.std.specs.Prelude.{ℕ, ◌≤◌, List, [], ◌∷◌, Bool, true, false, not, ◌&&◌, ◌||◌, ◌==◌, Option, Some, None}
use Rattle.std.specs.Prelude.{Result, Ok, Err, count_by, if◌then◌else◌}
use Rattle.timecode.specs.declared.rates.Rate.{Rate}
use Rattle.channel_plan.specs.declared.plan.PlanRow.{PlanRow}
use Rattle.channel_plan.specs.declared.refusal.Code.{Code}
use Rattle.channel_plan.specs.declared.refusal.Code.TheVariants.{List as OfList, Overlap, SpeedEvent}
use Rattle.channel_plan.specs.declared.refusal.Code.TheVariants.{KeyEvent, Unavailable as NoMemory}
use Rattle.channel_plan.specs.declared.refusal.At.TheVariants.{Count, LineLabel}
use Rattle.channel_plan.specs.declared.refusal.Refusal.{Refusal}
use Rattle.channel_plan.specs.Refusal.{refused}
use Rattle.channel_plan.specs.declared.fault.LineFault.{LineFault}
use Rattle.channel_plan.specs.declared.fault.LineFault.TheVariants.{BadLabel}
use Rattle.channel_plan.specs.declared.fault.ListFault.{ListFault}
use Rattle.channel_plan.specs.declared.fault.ListFault.TheVariants.{InLine, Unavailable}
use Rattle.edl.specs.Text.{lines_of}
use Rattle.edl.specs.Entry.{EventEntry, is_picture}
use Rattle.edl.specs.Faults.{first_fault}
use Rattle.edl.specs.ListOf.{events_from}
use Rattle.playlist_core.specs.declared.item.EditKind.{EditKind}
use Rattle.playlist_core.specs.declared.item.Item.{Item}
use Rattle.playlist_core.specs.declared.item.NewItem.{NewItem}
use Rattle.playlist_core.specs.Source.{SourcesSeen, source_of_reel}
use Rattle.playlist_core.specs.Item.{kind_of}
use Rattle.playlist_core.specs.Day.{Day, if_open, item_in, position_of, with_item}
use Rattle.playlist_edl.specs.declared.importing.Imported.{Imported}

-- sound is skipped, and so is a picture without a frame that isn't of another speed
abbrev pub is_skipped : EventEntry → Bool
is_skipped event = not (is_picture event) || (event.length == 0 && not event.speed)

-- a cut has no mix
abbrev pub mix_of : Option ℕ → ℕ
mix_of None = 0
mix_of (Some frames) = frames

-- an item's mix has at most three digits
abbrev pub HasShortMix : EventEntry → Type 0
HasShortMix event = mix_of event.duration ≤ 999

-- the item that an event says
abbrev pub new_of : PlanRow → EventEntry → EditKind → NewItem
new_of plan event kind = record {
  pos = position_of plan event.record_first;
  frames = event.length;
  src = source_of_reel event.reel;
  src_first = event.source_first;
  kind = kind;
  mix = mix_of event.duration;
}

-- the item that a day takes for an event, or the first refusal whose condition holds; a kind that is no cut, dissolve
-- or wipe is a key
abbrev pub item_of_kind : Day → PlanRow → SourcesSeen → EventEntry → Option EditKind → Result Item Refusal
item_of_kind day plan seen event None = Err (refused KeyEvent)
item_of_kind day plan seen event (Some kind) =
    if event.speed then Err (refused SpeedEvent) else item_in day plan seen (new_of plan event kind)

abbrev pub item_of_event : Day → PlanRow → SourcesSeen → EventEntry → Result Item Refusal
item_of_event day plan seen event = item_of_kind day plan seen event (kind_of event.kind)

-- an overlap has the label of a frame for its detail, want of memory none, and any other refusal of an event its line
abbrev pub keeps_detail : Code → Bool
keeps_detail Overlap = true
keeps_detail NoMemory = true
keeps_detail _ = false

abbrev pub on_line : ℕ → Refusal → Refusal
on_line line e = if keeps_detail e.code then e else record { code = e.code; at = Count line }

abbrev pub with_taken : ℕ → Day → Result Item Refusal → Result Day Refusal
with_taken line day (Ok item) = Ok (with_item item day)
with_taken line day (Err e) = Err (on_line line e)

-- the day after an event
unfoldable pub day_after : Day → PlanRow → SourcesSeen → EventEntry → Result Day Refusal
day_after day plan seen event =
    if is_skipped event then Ok day else with_taken event.line day (item_of_event day plan seen event)

-- the day after one event after another, or the refusal of the first that is refused
abbrev pub go_on : Result Day Refusal → (Day → Result Day Refusal) → Result Day Refusal
go_on (Ok day) next = next day
go_on (Err e) next = Err e

abbrev pub after_events : Day → PlanRow → SourcesSeen → List EventEntry → Result Day Refusal
after_events day plan seen [] = Ok day
after_events day plan seen (event ∷ events) =
    go_on (day_after day plan seen event) (λ next. after_events next plan seen events)

-- the refusal of a list's fault
abbrev pub at_line : ℕ → LineFault → Refusal
at_line line (BadLabel fault) = record { code = OfList (BadLabel fault); at = LineLabel line fault }
at_line line fault = record { code = OfList fault; at = Count line }

abbrev pub list_refusal : ListFault → Refusal
list_refusal (InLine line fault) = at_line line fault
list_refusal Unavailable = refused NoMemory

abbrev pub unless_faulty : Option ListFault → Result Day Refusal → Result Day Refusal
unless_faulty (Some fault) next = Err (list_refusal fault)
unless_faulty None next = next

-- the events of a text that is a list
abbrev pub events_in : Rate → List ℕ → List EventEntry
events_in rate text = events_from rate 1 (lines_of text)

-- the day after a list is imported, or the first refusal whose condition holds
unfoldable pub import_of : Day → PlanRow → SourcesSeen → Bool → List ℕ → Result Day Refusal
import_of day plan seen ignore text =
    if_open day.state (unless_faulty (first_fault plan.rate ignore text)
    (after_events day plan seen (events_in plan.rate text)))

-- how many events become items, and how many are skipped
abbrev pub counts_of : List EventEntry → Imported
counts_of events = record {
  items = count_by (λ event. not (is_skipped event)) events;
  skipped = count_by is_skipped events;
}
