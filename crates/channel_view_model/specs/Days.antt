-- Commands on a broadcast day of a channel: what each is answered, and the day that it leaves.
use Rattle.std.specs.Prelude.{ℕ, List, [], Bool, ◌&&◌, ◌==◌, nat_lt, nat_le, Option, Some, None, Result, Ok, Err}
use Rattle.std.specs.Prelude.{if◌then◌else◌}
use Rattle.timecode.specs.Counting.{day_length}
use Rattle.timecode.specs.declared.faults.TcFault.{TcFault}
use Rattle.timecode.specs.LabelReading.{reading_of_text}
use Rattle.channel_plan.specs.Limits.{last_day}
use Rattle.channel_plan.specs.declared.plan.PlanRow.{PlanRow}
use Rattle.channel_plan.specs.declared.refusal.Code.TheVariants.{Label}
use Rattle.channel_plan.specs.declared.refusal.Refusal.{Refusal}
use Rattle.channel_plan.specs.Refusal.{refused}
use Rattle.vault_core.specs.Questions.{Questions, replaced}
use Rattle.playlist_core.specs.Limits.{most_mix}
use Rattle.playlist_core.specs.declared.item.EditKind.{EditKind}
use Rattle.playlist_core.specs.declared.item.EditKind.TheVariants.{Cut, Dissolve}
use Rattle.playlist_core.specs.declared.item.Item.{Item}
use Rattle.playlist_core.specs.declared.item.NewItem.{NewItem}
use Rattle.playlist_core.specs.declared.day.DayState.TheVariants.{NotThere}
use Rattle.playlist_core.specs.Source.{SourcesSeen, source_of_reel}
use Rattle.playlist_core.specs.Day.{Day, position_of, item_for}

-- the number of a day has at most five digits
abbrev pub is_day_number : ℕ → Bool
is_day_number n = nat_lt 0 n && nat_le n last_day

abbrev pub day_number : ℕ → Option ℕ
day_number n = if is_day_number n then Some n else None

-- a mix has at most three
abbrev pub mix_frames : ℕ → Option ℕ
mix_frames n = if nat_le n most_mix then Some n else None

-- a day that isn't there
abbrev pub no_day : PlanRow → ℕ → Day
no_day plan n = record { number = n; frames = day_length plan.rate; state = NotThere; items = [] }

abbrev pub day_or : Day → Option Day → Day
day_or day None = day
day_or day (Some d) = d

-- the channel's day of this number
abbrev pub day_at : PlanRow → Questions Day → ℕ → Day
day_at plan days n = day_or (no_day plan n) (days.first (λ d. d.number == n))

-- the days with this one, in the place of the one with its number or in the order of the numbers
abbrev pub with_day : Day → List Day → List Day
with_day = replaced (λ d. d.number)

-- the frame of the day from 00:00:00:00 that a label names, or the refusal of its fault
abbrev pub or_refused : Result ℕ TcFault → Result ℕ Refusal
or_refused (Ok frame) = Ok frame
or_refused (Err fault) = Err (refused (Label fault))

abbrev pub frame_named : PlanRow → List ℕ → Result ℕ Refusal
frame_named plan text = or_refused (reading_of_text plan.rate text)

-- an item with a mix is a dissolve
abbrev pub kind_of_mix : ℕ → EditKind
kind_of_mix mix = if mix == 0 then Cut else Dissolve

-- the item that begins at the frames of two labels, or the refusal of the first that names none
abbrev pub item_at : PlanRow → ℕ → ℕ → List ℕ → Result ℕ Refusal → Result ℕ Refusal → Result NewItem Refusal
item_at plan frames mix source (Err e) first = Err e
item_at plan frames mix source (Ok at) (Err e) = Err e
item_at plan frames mix source (Ok at) (Ok first) = Ok (record {
  pos = position_of plan at;
  frames = frames;
  src = source_of_reel source;
  src_first = first;
  kind = kind_of_mix mix;
  mix = mix;
})

-- the item whose places are given by labels and whose source by a reel
abbrev pub item_said : PlanRow → List ℕ → ℕ → List ℕ → ℕ → List ℕ → Result NewItem Refusal
item_said plan at frames source_in mix source =
    item_at plan frames mix source (frame_named plan at) (frame_named plan source_in)

-- the item that the day takes for it
abbrev pub item_of_said : Day → PlanRow → SourcesSeen → Result NewItem Refusal → Result Item Refusal
item_of_said day plan seen (Ok new) = item_for day plan seen new
item_of_said day plan seen (Err e) = Err e
