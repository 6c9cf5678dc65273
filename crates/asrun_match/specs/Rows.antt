-- The rows that the text of a batch says.
use Rattle.std.specs.Prelude.{ℕ, ◌+◌, ◌-◌, ◌%◌, List, [], ◌∷◌, ◌++◌, ◌&&◌, nat_le, nat_lt, Option, Some, None, Result}
use Rattle.std.specs.Prelude.{Ok, Err, if◌then◌else◌}
use Rattle.std.specs.Option.{option_and_then}
use Rattle.std.specs.Result.{result_ok}
use Rattle.csv.specs.Reading.{default_config, records, strip_bom}
use Rattle.timecode.specs.declared.rates.Rate.{Rate}
use Rattle.timecode.specs.Counting.{day_length}
use Rattle.timecode.specs.Decimal.{decimal_number}
use Rattle.timecode.specs.LabelReading.{reading_of_text}
use Rattle.channel_plan.specs.declared.refusal.Code.{Code}
use Rattle.channel_plan.specs.declared.refusal.Code.TheVariants.{PastDayEnd, RowForm}
use Rattle.channel_plan.specs.declared.refusal.At.TheVariants.{Count}
use Rattle.channel_plan.specs.declared.refusal.Refusal.{Refusal}
use Rattle.playlist_core.specs.declared.source.Source.{Source}
use Rattle.playlist_core.specs.Source.{source_of_reel}
use Rattle.playlist_core.specs.Item.{first_kept}
use Rattle.asrun_match.specs.declared.aired.AiredRow.{AiredRow}
use Rattle.asrun_match.specs.declared.reading.Fields.{Fields}
use Rattle.asrun_match.specs.Aired.{is_source_range, reel_said}

-- the records of a text of CSV (RFC 4180) without a header; a byte order mark at its start is none of it
abbrev pub records_of : List ℕ → List (List (List ℕ))
records_of text = records default_config (strip_bom text)

-- A row's fields: the label at which it began, its frames, its reel, and the label at which its source began.
pub record RowFields : Type 0 where
  pub label : List ℕ
  pub frames : List ℕ
  pub reel : List ℕ
  pub source : List ℕ

abbrev pub fields_shown : Fields → RowFields
fields_shown f = record { label = f.label.now; frames = f.frames.now; reel = f.reel.now; source = f.source.now }

-- a row has just these four
abbrev pub row_fields : List (List ℕ) → Option RowFields
row_fields (label ∷ frames ∷ reel ∷ source ∷ []) =
    Some (record { label = label; frames = frames; reel = reel; source = source })
row_fields fields = None

-- the frame of a label that is one (SMPTE ST 12-1)
abbrev pub frame_said : Rate → List ℕ → Option ℕ
frame_said rate text = result_ok (reading_of_text rate text)

-- the frame of a broadcast day from a start label on, at the label of another frame
abbrev pub position_from : Rate → ℕ → ℕ → ℕ
position_from rate start frame = (frame + day_length rate - start) % day_length rate

-- one to seven digits that say 1 to as many frames as the day has
abbrev pub if_some_frames : Rate → ℕ → Option ℕ
if_some_frames rate n = if nat_le 1 n && nat_le n (day_length rate) then Some n else None

abbrev pub frames_said : Rate → List ℕ → Option ℕ
frames_said rate text = option_and_then (if_some_frames rate) (decimal_number 7 text)

-- the first source frame that a row keeps: black and bars have none but 0
abbrev pub kept_of : Option Source → ℕ → ℕ
kept_of None first = first
kept_of (Some source) first = first_kept source first

abbrev pub if_place : Rate → Option Source → ℕ → ℕ → Option ℕ
if_place rate source first frames = if is_source_range (day_length rate) source first frames then Some first else None

abbrev pub place_said : Rate → List ℕ → ℕ → ℕ → Option ℕ
place_said rate reel frames first = if_place rate (source_of_reel reel) (kept_of (source_of_reel reel) first) frames

-- the row that fields say, where each has its form
abbrev pub row_said : Rate → ℕ → RowFields → Option AiredRow
row_said rate start fields =
    option_and_then (λ frame.
    option_and_then (λ frames.
    option_and_then (λ reel.
    option_and_then (λ place.
    option_and_then (λ first.
    Some (record { pos = position_from rate start frame; frames = frames; src = reel; src_first = first }))
    (place_said rate reel frames place))
    (frame_said rate fields.source))
    (reel_said fields.reel))
    (frames_said rate fields.frames))
    (frame_said rate fields.label)

-- the row of a record, which lies within the day; or why it has none, with its number
abbrev pub refused_row : Code → ℕ → Refusal
refused_row code n = record { code = code; at = Count n }

abbrev pub if_in_day : Rate → ℕ → Option AiredRow → Result AiredRow Refusal
if_in_day rate n None = Err (refused_row RowForm n)
if_in_day rate n (Some row) =
    if nat_lt (day_length rate) (row.pos + row.frames) then Err (refused_row PastDayEnd n) else Ok row

abbrev pub row_of_record : Rate → ℕ → ℕ → List (List ℕ) → Result AiredRow Refusal
row_of_record rate start n fields = if_in_day rate n (option_and_then (row_said rate start) (row_fields fields))

-- what is done with a value that isn't refused
abbrev pub go_on : {X Y : Type 0} → Result X Refusal → (X → Result Y Refusal) → Result Y Refusal
go_on (Ok x) next = next x
go_on (Err e) next = Err e

abbrev pub behind : List AiredRow → Result (List AiredRow) Refusal → Result (List AiredRow) Refusal
behind rows more = go_on more (λ others. Ok (rows ++ others))

-- the rows of records, of which the first has the number n; or the refusal of the first that has one
abbrev pub rows_from : Rate → ℕ → ℕ → List (List (List ℕ)) → Result (List AiredRow) Refusal
rows_from rate start n [] = Ok []
rows_from rate start n (fields ∷ more) =
    go_on (row_of_record rate start n fields) (λ row. behind (row ∷ []) (rows_from rate start (n + 1) more))

-- the rows of a batch's text, counted from 1
abbrev pub rows_said : Rate → ℕ → List ℕ → Result (List AiredRow) Refusal
rows_said rate start text = rows_from rate start 1 (records_of text)
