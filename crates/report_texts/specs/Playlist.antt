-- The plan table: a line for the day, one for each of its items, by position, and one that sums their frames.
use Rattle.std.specs.Prelude.{ℕ, List, ◌++◌, Bool, length, map, codes, decimal}
use Rattle.std.specs.List.{flat_map, list_all, sum}
use Rattle.timecode.specs.Decimal.{in_digits}
use Rattle.timecode.specs.Label.{label_text, frame_text}
use Rattle.channel_plan.specs.declared.plan.PlanRow.{PlanRow}
use Rattle.playlist_core.specs.declared.item.Item.{Item}
use Rattle.playlist_core.specs.declared.day.DayState.{DayState}
use Rattle.playlist_core.specs.declared.day.DayState.TheVariants.{NotThere, Open, Sealed}
use Rattle.playlist_core.specs.Day.{Day, label_at}
use Rattle.playlist_core.specs.Item.{kind_text}
use Rattle.playlist_core.specs.Source.{source_reel}
use Rattle.report_texts.specs.Fields.{left_in, number_in, has_label}

-- whether the day is sealed
abbrev pub day_state : DayState → List ℕ
day_state NotThere = codes "OPEN"
day_state Open = codes "OPEN"
day_state Sealed = codes "SEALED"

-- the day's number and its state
abbrev pub plan_head : Day → List ℕ
plan_head day = codes "DAY " ++ (decimal day.number ++ (codes " " ++ (day_state day.state ++ codes "\n")))

-- number, label at which it is aired, frames, kind, mix, reel, label of its first source frame
abbrev pub item_line : PlanRow → Item → List ℕ
item_line plan i =
    number_in 4 i.n
    ++ (codes " " ++ (label_text (label_at plan i.pos) ++ (codes " " ++ (number_in 7 i.frames ++ (codes " "
    ++ (left_in 4 (kind_text i.kind)
    ++ (codes " " ++ (in_digits 3 i.mix ++ (codes " " ++ (left_in 8 (source_reel i.src) ++ (codes " "
    ++ (frame_text plan.rate i.src_first ++ codes "\n"))))))))))))

-- how many frames these items have
abbrev pub frames_of : List Item → ℕ
frames_of items = sum (map (λ i. i.frames) items)

-- how many items there are, how many frames they have, and how many the day has
abbrev pub plan_end : Day → List ℕ
plan_end day =
    codes "ITEMS " ++ (decimal (length day.items)
    ++ (codes " FRAMES "
    ++ (decimal (frames_of day.items) ++ (codes " OF " ++ (decimal day.frames ++ codes "\n")))))

abbrev pub plan_text : PlanRow → Day → List ℕ
plan_text plan day = plan_head day ++ (flat_map (item_line plan) day.items ++ plan_end day)

-- whether the first source frame of each has a label
abbrev pub items_have_labels : PlanRow → List Item → Bool
items_have_labels plan items = list_all (λ i. has_label plan.rate i.src_first) items
