-- The plan: which channels there are, at which rate each counts, where its day starts, how many slots it has.
use Rattle.std.specs.Prelude.{◌≡◌, ℕ, List, [], ◌∷◌, Bool, true, not, ◌&&◌, ◌==◌, nat_lt, nat_le, Some, Ok}
use Rattle.std.specs.List.{list_any, list_all, slice_split}
use Rattle.timecode.specs.Rate.{rate_text}
use Rattle.timecode.specs.Counting.{day_length}
use Rattle.timecode.specs.LabelReading.{reading_of_text}
use Rattle.channel_plan.specs.Limits.{last_channel, most_slots}
use Rattle.channel_plan.specs.declared.plan.PlanRow.{PlanRow}
use Rattle.timecode.specs.Decimal.{whole_number}

-- each field is in range: channels to 999, a frame of the day, slots to 9,999
abbrev pub is_plan_row : PlanRow → Bool
is_plan_row row = nat_lt 0 row.ch && nat_le row.ch last_channel && nat_lt row.start (day_length row.rate)
    && nat_lt 0 row.slots && nat_le row.slots most_slots

-- each row is in range, and no channel comes twice
abbrev pub is_plan : List PlanRow → Bool
is_plan [] = true
is_plan (row ∷ rows) = is_plan_row row && not (list_any (λ other. other.ch == row.ch) rows) && is_plan rows

-- each row is in range, and the channels rise
abbrev pub is_plan_in_order : List PlanRow → Bool
is_plan_in_order [] = true
is_plan_in_order (row ∷ rows) =
    is_plan_row row && list_all (λ other. nat_lt row.ch other.ch) rows && is_plan_in_order rows

-- a comma
abbrev pub is_comma : ℕ → Bool
is_comma b = b == 44

-- The fields of a plan row's text.
pub record HasPlanFields (channel rate start slots : List ℕ) (row : PlanRow) : Type 0 where
  pub channel_is : whole_number 3 channel ≡ Some row.ch
  pub rate_is : rate ≡ rate_text row.rate
  pub start_is : reading_of_text row.rate start ≡ Ok row.start
  pub slots_is : whole_number 4 slots ≡ Some row.slots
  pub in_range : is_plan_row row ≡ true

-- The text of a plan row: channel, rate, start label and slots, with a comma between, as `1,25,06:00:00:00,40`.
pub record IsPlanText (text : List ℕ) (row : PlanRow) : Type 0 where
  pub channel : List ℕ
  pub rate : List ℕ
  pub start : List ℕ
  pub slots : List ℕ
  pub fields : slice_split is_comma text ≡ channel ∷ rate ∷ start ∷ slots ∷ []
  pub row_is : HasPlanFields channel rate start slots row
