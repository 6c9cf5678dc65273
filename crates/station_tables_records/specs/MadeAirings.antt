-- The rows of batches and of their lines, each with its channel, and what was aired by them.
use Rattle.std.specs.Prelude.{◌≡◌, ℕ, ◌+◌, Bool, true, false, ◌&&◌, ◌||◌, ◌==◌, nat_lt, List, [], ◌∷◌, map, filter}
use Rattle.std.specs.declared.cmp.Ordering.{Ordering}
use Rattle.std.specs.Ordering.{nat_cmp, ordering_then}
use Rattle.std.specs.List.{AllByRecursion, list_any, list_all}
use Rattle.channel_plan.specs.declared.plan.PlanRow.{PlanRow}
use Rattle.asrun_match.specs.declared.aired.AiredRow.{AiredRow}
use Rattle.asrun_match.specs.declared.day.DayAsRun.{DayAsRun}
use Rattle.asrun_match.specs.Aired.{Airing, KeepsAiringRules}
use Rattle.station_tables_records.specs.MadeDays.{frames_of}
use Rattle.station_tables_records.specs.declared.aired_rows.BatchRow.{BatchRow}
use Rattle.station_tables_records.specs.declared.aired_rows.AiredLine.{AiredLine}

-- by channel, day and number
abbrev pub batch_cmp : ℕ × BatchRow → ℕ × BatchRow → Ordering
batch_cmp a b = ordering_then (nat_cmp a.0 b.0)
    (ordering_then (nat_cmp a.1.day b.1.day) (nat_cmp a.1.number b.1.number))

-- by channel, day, batch and line
abbrev pub line_cmp : ℕ × AiredLine → ℕ × AiredLine → Ordering
line_cmp a b = ordering_then (nat_cmp a.0 b.0)
    (ordering_then (nat_cmp a.1.day b.1.day) (ordering_then (nat_cmp a.1.batch b.1.batch) (nat_cmp a.1.line b.1.line)))

-- the rows of both tables
pub record AiredSet : Type 0 where
  pub batches : List (ℕ × BatchRow)
  pub lines : List (ℕ × AiredLine)

-- a batch of day n of channel c
abbrev pub is_batch_of : ℕ → ℕ → ℕ × BatchRow → Bool
is_batch_of c n b = b.0 == c && b.1.day == n

-- batch k of day n of channel c
abbrev pub is_batch : ℕ → ℕ → ℕ → ℕ × BatchRow → Bool
is_batch c n k b = b.0 == c && (b.1.day == n && b.1.number == k)

-- a line of a batch of day n of channel c
abbrev pub is_line_in : ℕ → ℕ → ℕ × AiredLine → Bool
is_line_in c n r = r.0 == c && r.1.day == n

-- a line of batch k of day n of channel c
abbrev pub is_line_of : ℕ → ℕ → ℕ → ℕ × AiredLine → Bool
is_line_of c n k r = r.0 == c && (r.1.day == n && r.1.batch == k)

-- line l of batch k of day n of channel c
abbrev pub is_line : ℕ → ℕ → ℕ → ℕ → ℕ × AiredLine → Bool
is_line c n k l r = r.0 == c && (r.1.day == n && (r.1.batch == k && r.1.line == l))

-- where a batch's row stands beside those of day n of channel c
abbrev pub side_of_day : ℕ → ℕ → ℕ × BatchRow → Ordering
side_of_day c n b = ordering_then (nat_cmp b.0 c) (nat_cmp b.1.day n)

-- where a line's row stands beside those of batch k of day n of channel c
abbrev pub side_of_batch : ℕ → ℕ → ℕ → ℕ × AiredLine → Ordering
side_of_batch c n k r = ordering_then (nat_cmp r.0 c) (ordering_then (nat_cmp r.1.day n) (nat_cmp r.1.batch k))

-- the rows of a batch, in the order of their lines
abbrev pub rows_in_batch : ℕ → ℕ → ℕ → List (ℕ × AiredLine) → List AiredRow
rows_in_batch c n k lines = map (λ r. r.1.row) (filter (is_line_of c n k) lines)

-- the batches of a day, in the order of their numbers
abbrev pub batches_at : ℕ → ℕ → AiredSet → List (List AiredRow)
batches_at c n set = map (λ b. rows_in_batch c n b.1.number set.lines) (filter (is_batch_of c n) set.batches)

-- what was aired of day n of channel c, which has so many frames
abbrev pub airing_of_rows : ℕ → ℕ → ℕ → AiredSet → Airing
airing_of_rows frames c n set = record { frames = frames; batches = batches_at c n set }

-- what was aired of the day of a batch
abbrev pub airing_made : List PlanRow → AiredSet → ℕ × BatchRow → ℕ × DayAsRun
airing_made plan set b = (b.0, record { day = b.1.day; aired = airing_of_rows (frames_of plan b.0) b.0 b.1.day set })

-- the first batch of a day
abbrev pub is_first : ℕ × BatchRow → Bool
is_first b = b.1.number == 1

-- what was aired of each day that has a batch: a first one
abbrev pub airings_made : List PlanRow → AiredSet → List (ℕ × DayAsRun)
airings_made plan set = map (airing_made plan set) (filter is_first set.batches)

-- day n of channel c
abbrev pub is_airing : ℕ → ℕ → ℕ × DayAsRun → Bool
is_airing c n a = a.1.day == n && a.0 == c

-- the line's batch is there
abbrev pub has_its_batch : List (ℕ × BatchRow) → ℕ × AiredLine → Bool
has_its_batch batches r = list_any (is_batch r.0 r.1.day r.1.batch) batches

-- batch b comes next behind batch a of the same day
abbrev pub is_batch_behind : ℕ × BatchRow → ℕ × BatchRow → Bool
is_batch_behind b a = a.0 == b.0 && (a.1.day == b.1.day && a.1.number + 1 == b.1.number)

-- the batch has number 1, or the one with the number before is there
abbrev pub follows_batch : List (ℕ × BatchRow) → ℕ × BatchRow → Bool
follows_batch batches b = b.1.number == 1 || list_any (is_batch_behind b) batches

-- the line has a number: 1 or more
abbrev pub has_number : ℕ × AiredLine → Bool
has_number r = nat_lt 0 r.1.line

-- the batch's channel is planned
abbrev pub is_planned_batch : List PlanRow → ℕ × BatchRow → Bool
is_planned_batch plan b = list_any (λ p. p.ch == b.0) plan

-- The numbers of the batches of a day run from 1 without a hole; each line's batch is there, and the line has a number.
pub record HaveNoHoles (set : AiredSet) : Type 0 where
  pub owned : list_all (has_its_batch set.batches) set.lines ≡ true
  pub batches : list_all (follows_batch set.batches) set.batches ≡ true
  pub lines : list_all has_number set.lines ≡ true

-- The rows make airings that keep the rules: they have no holes, and each batch's channel is planned.
pub record MakeAirings (plan : List PlanRow) (set : AiredSet) : Type 0 where
  pub whole : HaveNoHoles set
  pub planned : list_all (is_planned_batch plan) set.batches ≡ true
  pub rules : AllByRecursion (λ a. KeepsAiringRules a.1.aired) (airings_made plan set)

-- a batch's row, and a line's

abbrev pub row_of_batch : ℕ → ℕ → ℕ → ℕ × BatchRow
row_of_batch c n k = (c, record { day = n; number = k })

abbrev pub row_of_line : ℕ → ℕ → ℕ → ℕ → AiredRow → ℕ × AiredLine
row_of_line c n k l row = (c, record { day = n; batch = k; line = l; row = row })

-- these rows as lines l, l + 1 and so on of batch k of day n of channel c
abbrev pub lines_from : ℕ → ℕ → ℕ → ℕ → List AiredRow → List (ℕ × AiredLine)
lines_from c n k l [] = []
lines_from c n k l (row ∷ rows) = row_of_line c n k l row ∷ lines_from c n k (l + 1) rows

-- day n of channel c has no batch k
abbrev pub LacksBatch : ℕ → ℕ → ℕ → List (ℕ × BatchRow) → Type 0
LacksBatch c n k = AllByRecursion (λ b. is_batch c n k b ≡ false)

-- batch k of day n of channel c has no line l
abbrev pub LacksLine : ℕ → ℕ → ℕ → ℕ → List (ℕ × AiredLine) → Type 0
LacksLine c n k l = AllByRecursion (λ r. is_line c n k l r ≡ false)
