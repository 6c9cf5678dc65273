-- Part of the promise: the batches of a day, and one that comes.
use Rattle.std.specs.Prelude.{ℕ, ◌+◌, ◌-◌, List, [], ◌∷◌, ◌++◌, Bool, ◌&&◌, ◌==◌, not, nat_lt, nat_le, length, bytes_eq}
use Rattle.std.specs.Prelude.{sum_by, get_or, Option, Some, None, Result, Ok, Err, if◌then◌else◌}
use Rattle.std.specs.Cmp.Lexicographic.{pointwise}
use Rattle.channel_plan.specs.declared.plan.PlanRow.{PlanRow}
use Rattle.channel_plan.specs.declared.refusal.Code.TheVariants.{NoDay, NotSealed, AiredTwice}
use Rattle.channel_plan.specs.declared.refusal.Code.TheVariants.{BatchDiffers, BatchOrder, BatchesFull}
use Rattle.channel_plan.specs.declared.refusal.Refusal.{Refusal}
use Rattle.channel_plan.specs.Refusal.{refused}
use Rattle.playlist_core.specs.declared.day.DayState.{DayState}
use Rattle.playlist_core.specs.declared.day.DayState.TheVariants.{NotThere, Open, Sealed}
use Rattle.playlist_core.specs.Day.{refused_at}
use Rattle.asrun_match.specs.declared.aired.AiredRow.{AiredRow}
use Rattle.asrun_match.specs.Limits.{most_batches}
use Rattle.asrun_match.specs.Aired.{Airing, aired_picture, first_twice}
use Rattle.asrun_match.specs.Rows.{go_on, rows_said}

-- the frames of a batch
abbrev pub batch_frames : List AiredRow → ℕ
batch_frames rows = sum_by (λ r. r.frames) rows

abbrev pub same_row : AiredRow → AiredRow → Bool
same_row a b = a.pos == b.pos
    && (a.frames == b.frames && (bytes_eq a.src b.src && a.src_first == b.src_first))

abbrev pub same_rows : List AiredRow → List AiredRow → Bool
same_rows xs ys = pointwise same_row xs ys

-- whether batch n is there
abbrev pub has_batch : ℕ → Airing → Bool
has_batch n day = nat_le 1 n && nat_le n (length day.batches)

-- the rows of batch n, where it is there
abbrev pub batch_in : ℕ → Airing → List AiredRow
batch_in n day = get_or day.batches (n - 1) []

-- the day with one batch more
abbrev pub with_batch : List AiredRow → Airing → Airing
with_batch rows day = record day { batches = day.batches ++ rows ∷ [] }

-- a frame that is aired twice refuses the batch
abbrev pub unless_twice : PlanRow → Option ℕ → Airing → Result Airing Refusal
unless_twice plan None day = Ok day
unless_twice plan (Some p) day = Err (refused_at AiredTwice plan p)

-- the day after batch n came with these rows: the same one, where it is there with equal rows; with one batch more,
-- where it is the next; or the first refusal whose condition holds
abbrev pub day_with : PlanRow → ℕ → List AiredRow → Airing → Result Airing Refusal
day_with plan n rows day =
    if has_batch n day then (if same_rows (batch_in n day) rows then Ok day else Err (refused BatchDiffers)) else
    if nat_lt most_batches n then Err (refused BatchesFull) else
    if not (n == length day.batches + 1) then Err (refused BatchOrder) else
    unless_twice plan (first_twice (aired_picture day) rows) (with_batch rows day)

-- what is done in a day that is sealed
abbrev pub if_sealed : {X : Type 0} → DayState → Result X Refusal → Result X Refusal
if_sealed NotThere reply = Err (refused NoDay)
if_sealed Open reply = Err (refused NotSealed)
if_sealed Sealed reply = reply

-- the day after the text of batch n came, or the first refusal whose condition holds
abbrev pub day_after : DayState → PlanRow → ℕ → List ℕ → Airing → Result Airing Refusal
day_after state plan n text day =
    if_sealed state (go_on (rows_said plan.rate plan.start text) (λ rows. day_with plan n rows day))
