-- Part of the promise: a broadcast day: its number, how many frames it has, its state, and its items.
use Rattle.std.specs.Prelude.{◌≡◌, ℕ, ◌+◌, ◌-◌, ◌%◌, ◌<◌, ◌≤◌, List, [], ◌∷◌, Bool, true, false, not, ◌||◌, ◌==◌}
use Rattle.std.specs.Prelude.{nat_lt, Option, Some, None, Result, Ok, Err, ◌⊎◌, map, filter, find}
use Rattle.std.specs.Prelude.{if◌then◌else◌}
use Rattle.std.specs.List.{list_any, list_all}
use Rattle.std.proofs.Common.{inl, inr}
use Rattle.timecode.specs.declared.labels.Label.{Label}
use Rattle.timecode.specs.Rate.{is_same_rate}
use Rattle.timecode.specs.Counting.{address_of_frame, day_length}
use Rattle.timecode.specs.Label.{label_of}
use Rattle.channel_plan.specs.Limits.{last_day}
use Rattle.channel_plan.specs.declared.plan.PlanRow.{PlanRow}
use Rattle.channel_plan.specs.declared.refusal.Code.{Code}
use Rattle.channel_plan.specs.declared.refusal.Code.TheVariants.{ClipRetired, Withdrawn, OutsideWindow, NoDay, DayKnown}
use Rattle.channel_plan.specs.declared.refusal.Code.TheVariants.{DaySealed, Overlap, Gap, NoSource, RateDiffers}
use Rattle.channel_plan.specs.declared.refusal.Code.TheVariants.{SourceRange, MixLong, Recalled, NoItem, DayFull}
use Rattle.channel_plan.specs.declared.refusal.Code.TheVariants.{PastDayEnd, EmptyItem}
use Rattle.channel_plan.specs.declared.refusal.At.TheVariants.{Place, Count}
use Rattle.channel_plan.specs.declared.refusal.Refusal.{Refusal}
use Rattle.channel_plan.specs.Refusal.{refused}
use Rattle.vault_core.specs.declared.clip.Clip.{Clip}
use Rattle.vault_core.specs.Window.{is_in}
use Rattle.grant_core.specs.declared.grant.Grant.{Grant}
use Rattle.playlist_core.specs.declared.source.Source.{Source}
use Rattle.playlist_core.specs.declared.source.Source.TheVariants.{Black, Bars}
use Rattle.playlist_core.specs.declared.item.Item.{Item}
use Rattle.playlist_core.specs.declared.item.NewItem.{NewItem}
use Rattle.playlist_core.specs.Limits.{most_items}
use Rattle.playlist_core.specs.declared.day.DayState.{DayState}
use Rattle.playlist_core.specs.declared.day.DayState.TheVariants.{NotThere, Open, Sealed}
use Rattle.playlist_core.specs.Picture.{Picture, picture_of, first_painted, first_empty, least}
use Rattle.playlist_core.specs.Order.{AreApart, put}
use Rattle.playlist_core.specs.Source.{SourcesSeen, found}
use Rattle.playlist_core.specs.Item.{Cell, planned, is_item, numbered}

pub record Day : Type 0 where
  pub number : ℕ
  pub frames : ℕ
  pub state : DayState
  pub items : List Item

-- its picture
abbrev pub picture_in : Day → Picture Cell
picture_in day = picture_of planned day.frames day.items

-- whether an item has this number
abbrev pub has_number : List Item → ℕ → Bool
has_number items n = list_any (λ i. i.n == n) items

-- each item has a number of its own, from 1 to the most that a day may have
abbrev pub AreNumbered : List Item → Type 0
AreNumbered [] = Unit {0}
AreNumbered (i ∷ is) = (0 < i.n) × (i.n ≤ most_items) × (has_number is i.n ≡ false) × AreNumbered is

-- a day that isn't there has no items, and a sealed one has no empty cell
abbrev pub FitState : DayState → ℕ → List Item → Type 0
FitState NotThere frames items = items ≡ []
FitState Open frames items = Unit {0}
FitState Sealed frames items = first_empty (picture_of planned frames items) ≡ None

-- The rules of a day: its number has at most five digits, its items lie one behind the other within it, each with a
-- number of its own, and they fit its state.
pub record KeepsDayRules (day : Day) : Type 0 where
  pub some : 0 < day.number
  pub digits : day.number ≤ last_day
  pub apart : AreApart planned 0 day.frames day.items
  pub numbered : AreNumbered day.items
  pub fields : list_all is_item day.items ≡ true
  pub state : FitState day.state day.frames day.items

-- the least number that no item has
abbrev pub free_number : List Item → Option ℕ
free_number items = least (λ n. not (has_number items n)) 1 most_items

-- the label of a frame of the broadcast day, which begins at the start of the channel's plan row
abbrev pub label_at : PlanRow → ℕ → Label
label_at plan p = label_of plan.rate (address_of_frame plan.rate ((plan.start + p) % day_length plan.rate))

-- the frame of the broadcast day at a label, given as a frame of the day from 00:00:00:00
abbrev pub position_of : PlanRow → ℕ → ℕ
position_of plan frame = (frame + day_length plan.rate - plan.start) % day_length plan.rate

-- a refusal with that label
abbrev pub refused_at : Code → PlanRow → ℕ → Refusal
refused_at code plan p = record { code = code; at = Place (label_at plan p) }

-- what is done in a day that is there and open
abbrev pub if_open : {X : Type 0} → DayState → Result X Refusal → Result X Refusal
if_open NotThere reply = Err (refused NoDay)
if_open Open reply = reply
if_open Sealed reply = Err (refused DaySealed)

-- the item's frames of a clip lie outside of it
abbrev pub range_fault : ℕ → ℕ → NewItem → Option Code
range_fault first frames new =
    if nat_lt new.src_first first || nat_lt (first + frames) (new.src_first + new.frames) then Some SourceRange
    else None

-- why an item doesn't show in a day what its source names, if there is a reason: a retired clip, a lent clip that is
-- withdrawn, that may not be shown in this day, or of another rate than the channel's
abbrev pub row_fault : PlanRow → ℕ → NewItem → Option (Clip ⊎ Grant) → Option Code
row_fault plan n new None = Some NoSource
row_fault plan n new (Some (inl k)) = if k.retired then Some ClipRetired else range_fault k.src_first k.frames new
row_fault plan n new (Some (inr g)) =
    if g.offer.withdrawn then Some Withdrawn else
    if not (is_in g.offer.window n) then Some OutsideWindow else
    if not (is_same_rate g.offer.rate plan.rate) then Some RateDiffers else
    range_fault g.offer.src_first g.offer.frames new

-- black and bars show any frames
abbrev pub source_fault : PlanRow → ℕ → SourcesSeen → NewItem → Source → Option Code
source_fault plan n seen new Black = None
source_fault plan n seen new Bars = None
source_fault plan n seen new source = row_fault plan n new (found seen source)

abbrev pub unless : {X : Type 0} → Option Code → Result X Refusal → Result X Refusal
unless (Some code) reply = Err (refused code)
unless None reply = reply

-- a cell that is taken refuses an item, and so does want of a number
abbrev pub unless_taken : PlanRow → Option ℕ → Result Item Refusal → Result Item Refusal
unless_taken plan (Some p) reply = Err (refused_at Overlap plan p)
unless_taken plan None reply = reply

abbrev pub with_number : Option ℕ → Source → NewItem → Result Item Refusal
with_number (Some n) source new = Ok (numbered n source new)
with_number None source new = Err (refused DayFull)

-- the item of a source, within the day
abbrev pub item_of : Day → PlanRow → SourcesSeen → NewItem → Option Source → Result Item Refusal
item_of day plan seen new None = Err (refused NoSource)
item_of day plan seen new (Some source) =
    unless (source_fault plan day.number seen new source) (
    if nat_lt new.frames new.mix then Err (refused MixLong) else
    unless_taken plan (first_painted new.pos new.frames (picture_in day))
    (with_number (free_number day.items) source new))

-- the item that a day takes, of one frame or more, or the first refusal whose condition holds
unfoldable pub item_in : Day → PlanRow → SourcesSeen → NewItem → Result Item Refusal
item_in day plan seen new =
    if nat_lt day.frames (new.pos + new.frames) then Err (refused PastDayEnd) else
    item_of day plan seen new new.src

-- the item that is added, or the first refusal whose condition holds
unfoldable pub item_for : Day → PlanRow → SourcesSeen → NewItem → Result Item Refusal
item_for day plan seen new =
    if_open day.state (if new.frames == 0 then Err (refused EmptyItem) else item_in day plan seen new)

-- With one item more: to add it is to paint it, and leaves all others (the laws `adding_is_painting` and
-- `adding_leaves_the_others`). For the order of the positions it stands in front of the first that ends behind its
-- first frame.
abbrev pub with_item : Item → Day → Day
with_item item day = record day { items = put (λ i. nat_lt item.pos (i.pos + i.frames)) item day.items }

-- without the item of a number
abbrev pub without_item : ℕ → Day → Day
without_item n day = record day { items = filter (λ i. not (i.n == n)) day.items }

-- a picture in which each cell of the item of a number is empty
abbrev pub erased : ℕ → Option Cell → Option Cell
erased n None = None
erased n (Some cell) = if cell.item == n then None else Some cell

abbrev pub picture_without : ℕ → Picture Cell → Picture Cell
picture_without n picture = map (erased n) picture

-- the number of the item that is taken out, or the first refusal whose condition holds
abbrev pub number_of : Option Item → Result ℕ Refusal
number_of None = Err (refused NoItem)
number_of (Some i) = Ok i.n

abbrev pub number_removed : Day → ℕ → Result ℕ Refusal
number_removed day n = if_open day.state (number_of (find (λ i. i.n == n) day.items))

-- the number of the day that is opened
abbrev pub if_not_there : DayState → Result ℕ Refusal → Result ℕ Refusal
if_not_there NotThere reply = reply
if_not_there Open reply = Err (refused DayKnown)
if_not_there Sealed reply = Err (refused DayKnown)

abbrev pub day_opened : Day → Result ℕ Refusal
day_opened day = if_not_there day.state (Ok day.number)

-- the lent clip that an item shows is withdrawn
abbrev pub is_withdrawn : Option (Clip ⊎ Grant) → Bool
is_withdrawn None = false
is_withdrawn (Some (inl k)) = false
is_withdrawn (Some (inr g)) = g.offer.withdrawn

abbrev pub is_recalled : SourcesSeen → Item → Bool
is_recalled seen i = is_withdrawn (found seen i.src)

abbrev pub unless_recalled : Option Item → Result ℕ Refusal → Result ℕ Refusal
unless_recalled (Some i) reply = Err (record { code = Recalled; at = Count i.n })
unless_recalled None reply = reply

-- the lent clip that an item shows may not be shown in day n
abbrev pub is_barred : ℕ → Option (Clip ⊎ Grant) → Bool
is_barred n None = false
is_barred n (Some (inl k)) = false
is_barred n (Some (inr g)) = not (is_in g.offer.window n)

abbrev pub is_outside : SourcesSeen → ℕ → Item → Bool
is_outside seen n i = is_barred n (found seen i.src)

abbrev pub unless_outside : Option Item → Result ℕ Refusal → Result ℕ Refusal
unless_outside (Some i) reply = Err (record { code = OutsideWindow; at = Count i.n })
unless_outside None reply = reply

abbrev pub unless_empty : PlanRow → Option ℕ → Result ℕ Refusal → Result ℕ Refusal
unless_empty plan (Some p) reply = Err (refused_at Gap plan p)
unless_empty plan None reply = reply

-- the number of the day that is sealed, or the first refusal whose condition holds
unfoldable pub day_sealed : Day → PlanRow → SourcesSeen → Result ℕ Refusal
day_sealed day plan seen =
    if_open day.state (
    unless_recalled (find (is_recalled seen) day.items) (
    unless_outside (find (is_outside seen day.number) day.items) (
    unless_empty plan (first_empty (picture_in day)) (Ok day.number))))

-- the day as it stands behind a call: in another state, or without an item; a refusal leaves it
abbrev pub in_state : DayState → Result ℕ Refusal → Day → Day
in_state state (Ok n) day = record day { state = state }
in_state state (Err e) day = day

abbrev pub with_removed : ℕ → Result ℕ Refusal → Day → Day
with_removed n (Ok m) day = without_item n day
with_removed n (Err e) day = day
