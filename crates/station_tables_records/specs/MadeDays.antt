-- The rows of days and of their items, each with its channel, and the days that they make.
use Rattle.std.specs.Prelude.{◌≡◌, ℕ, Bool, true, false, ◌&&◌, ◌||◌, ◌==◌, nat_lt, nat_le, List, [], ◌∷◌, map}
use Rattle.std.specs.Prelude.{filter, find, Option, Some, None, length, codes, bytes_eq, if◌then◌else◌}
use Rattle.std.specs.declared.cmp.Ordering.{Ordering}
use Rattle.std.specs.declared.cmp.Ordering.TheVariants.{Less}
use Rattle.std.specs.Ordering.{nat_cmp, ordering_then}
use Rattle.std.specs.List.{AllByRecursion, list_any, list_all}
use Rattle.sqlite_keyed.specs.Lists.{insert_sorted, sort_by, update_where}
use Rattle.sqlite_trees.specs.Tree.{IsAscending}
use Rattle.timecode.specs.Counting.{day_length}
use Rattle.channel_plan.specs.declared.plan.PlanRow.{PlanRow}
use Rattle.playlist_core.specs.declared.item.Item.{Item}
use Rattle.playlist_core.specs.declared.source.Source.{Source}
use Rattle.playlist_core.specs.declared.source.Source.TheVariants.{Black}
use Rattle.playlist_core.specs.declared.day.DayState.{DayState}
use Rattle.playlist_core.specs.declared.day.DayState.TheVariants.{NotThere, Open, Sealed}
use Rattle.playlist_core.specs.declared.item.EditKind.{EditKind}
use Rattle.playlist_core.specs.declared.item.EditKind.TheVariants.{Wipe}
pub use Rattle.playlist_core.specs.Source.{is_source}
use Rattle.playlist_core.specs.Item.{is_kind}
use Rattle.playlist_core.specs.Day.{Day, KeepsDayRules}
use Rattle.station_tables_records.specs.declared.day_rows.DayRow.{DayRow}
use Rattle.station_tables_records.specs.declared.day_rows.ItemRow.{ItemRow}

-- by channel, and then by number
abbrev pub day_cmp : ℕ × DayRow → ℕ × DayRow → Ordering
day_cmp a b = ordering_then (nat_cmp a.0 b.0) (nat_cmp a.1.number b.1.number)

-- by channel, day and number
abbrev pub item_cmp : ℕ × ItemRow → ℕ × ItemRow → Ordering
item_cmp a b = ordering_then (nat_cmp a.0 b.0)
    (ordering_then (nat_cmp a.1.day b.1.day) (nat_cmp a.1.item.n b.1.item.n))

-- by number
abbrev pub plan_cmp : PlanRow → PlanRow → Ordering
plan_cmp a b = nat_cmp a.ch b.ch

-- each is below each later one
abbrev pub Rise : {K : Type 0} → (K → K → Ordering) → List K → Type 0
Rise cmp = IsAscending (λ a b. cmp a b ≡ Less)

-- the rows of both tables
pub record DaySet : Type 0 where
  pub days : List (ℕ × DayRow)
  pub items : List (ℕ × ItemRow)

-- day n of channel c
abbrev pub is_day : ℕ → ℕ → ℕ × DayRow → Bool
is_day c n r = r.0 == c && r.1.number == n

-- an item of day n of channel c
abbrev pub is_of_day : ℕ → ℕ → ℕ × ItemRow → Bool
is_of_day c n r = r.0 == c && r.1.day == n

-- where an item's row stands beside those of day n of channel c
abbrev pub side_of_day : ℕ → ℕ → ℕ × ItemRow → Ordering
side_of_day c n r = ordering_then (nat_cmp r.0 c) (nat_cmp r.1.day n)

-- item k of day n of channel c
abbrev pub is_item_of : ℕ → ℕ → ℕ → ℕ × ItemRow → Bool
is_item_of c n k r = r.0 == c && (r.1.day == n && r.1.item.n == k)

-- of this channel, with a number of a day from one to another: a day's row, an item's row, and a day

abbrev pub is_day_in : ℕ → ℕ → ℕ → ℕ × DayRow → Bool
is_day_in c first last r = r.0 == c && (nat_le first r.1.number && nat_le r.1.number last)

abbrev pub is_item_in : ℕ → ℕ → ℕ → ℕ × ItemRow → Bool
is_item_in c first last r = r.0 == c && (nat_le first r.1.day && nat_le r.1.day last)

abbrev pub is_made_in : ℕ → ℕ → ℕ → ℕ × Day → Bool
is_made_in c first last d = d.0 == c && (nat_le first d.1.number && nat_le d.1.number last)

-- the items of a day, in the order of their numbers
abbrev pub items_at : ℕ → ℕ → List (ℕ × ItemRow) → List Item
items_at c n rows = map (λ r. r.1.item) (filter (is_of_day c n) rows)

abbrev pub position_cmp : Item → Item → Ordering
position_cmp a b = nat_cmp a.pos b.pos

-- the row, if it is the channel's
abbrev pub row_of : ℕ → Option PlanRow → Option PlanRow
row_of c None = None
row_of c (Some p) = if p.ch == c then Some p else None

-- the frames of a day of the channel: none where it isn't planned
abbrev pub frames_in : Option PlanRow → ℕ
frames_in None = 0
frames_in (Some p) = day_length p.rate

abbrev pub frames_of : List PlanRow → ℕ → ℕ
frames_of plan c = frames_in (find (λ p. p.ch == c) plan)

abbrev pub state_in : Bool → DayState
state_in true = Sealed
state_in false = Open

abbrev pub state_of : DayRow → DayState
state_of row = state_in row.sealed

-- the day of a row of frames and of these items, which stand by their positions
abbrev pub made_day : ℕ → List Item → DayRow → Day
made_day frames items row =
    record { number = row.number; frames = frames; state = state_of row; items = sort_by position_cmp items }

abbrev pub day_made : List PlanRow → List (ℕ × ItemRow) → ℕ × DayRow → ℕ × Day
day_made plan items d = (d.0, made_day (frames_of plan d.0) (items_at d.0 d.1.number items) d.1)

-- the days that the rows make, in the order of the rows of days
abbrev pub days_made : List PlanRow → DaySet → List (ℕ × Day)
days_made plan rows = map (day_made plan rows.items) rows.days

-- the item's day is there
abbrev pub has_day : List (ℕ × DayRow) → ℕ × ItemRow → Bool
has_day days r = list_any (is_day r.0 r.1.day) days

-- the day's channel is planned
abbrev pub is_planned_day : List PlanRow → ℕ × DayRow → Bool
is_planned_day plan d = list_any (λ p. p.ch == d.0) plan

-- The rows make days that keep the rules: each item's day is there, and each day's channel is planned.
pub record MakeDays (plan : List PlanRow) (rows : DaySet) : Type 0 where
  pub owned : list_all (has_day rows.days) rows.items ≡ true
  pub planned : list_all (is_planned_day plan) rows.days ≡ true
  pub rules : AllByRecursion (λ d. KeepsDayRules d.1) (days_made plan rows)

-- the row of a day that is there
abbrev pub is_sealed : DayState → Bool
is_sealed NotThere = false
is_sealed Open = false
is_sealed Sealed = true

abbrev pub row_of_day : Day → DayRow
row_of_day day = record { number = day.number; sealed = is_sealed day.state }

-- the texts of the item's source and kind read as these
abbrev pub has_texts : Item → Bool
has_texts i = is_source i.src && is_kind i.kind

-- of a reel that names this source: black has a long name too
abbrev pub is_short_name : Source → List ℕ → Bool
is_short_name Black reel = bytes_eq reel (codes "BL")
is_short_name _ reel = true

-- of a word that says this kind: a wipe's number may have fewer digits
abbrev pub is_full_word : EditKind → List ℕ → Bool
is_full_word (Wipe n) word = length word == 4
is_full_word _ word = true

-- a row of a channel, in the place of its row with the same key, or in the order of the keys
abbrev pub replace_row : {A : Type 0} → (A → ℕ) → ℕ → A → List (ℕ × A) → List (ℕ × A)
replace_row key c x [] = (c, x) ∷ []
replace_row key c x (r ∷ rs) =
    if r.0 == c && key r.1 == key x then (c, x) ∷ rs else
    if nat_lt c r.0 || (r.0 == c && nat_lt (key x) (key r.1)) then (c, x) ∷ r ∷ rs else
    r ∷ replace_row key c x rs

-- day n of channel c has no item k
abbrev pub LacksItem : ℕ → ℕ → ℕ → List (ℕ × ItemRow) → Type 0
LacksItem c n k = AllByRecursion (λ t. is_item_of c n k t ≡ false)

-- the days' rows with this one, which is there, and then only its state is set, or not
abbrev pub put_day : Bool → ℕ → DayRow → List (ℕ × DayRow) → List (ℕ × DayRow)
put_day true c row days = update_where (is_day c row.number) (λ t. (t.0, record t.1 { sealed = row.sealed })) days
put_day false c row days = insert_sorted day_cmp (c, row) days
