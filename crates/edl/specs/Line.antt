-- What the fields of an event's line say.
use Rattle.std.specs.Prelude.{ℕ, ◌+◌, ◌-◌, ◌%◌, Bool, not, ◌&&◌, ◌||◌, ◌==◌, nat_lt, nat_le, if◌then◌else◌, List, []}
use Rattle.std.specs.Prelude.{◌∷◌, length, take, drop, slice_index, slice_index_or, Option, Some, None, ok_or, Result}
use Rattle.std.specs.Prelude.{Ok, Err, codes}
use Rattle.std.specs.Str.{bytes_eq}
use Rattle.std.specs.Str.Parse.{digits_value}
use Rattle.timecode.specs.declared.rates.Rate.{Rate}
use Rattle.timecode.specs.declared.faults.TcFault.{TcFault}
use Rattle.timecode.specs.Counting.{day_length}
use Rattle.timecode.specs.Decimal.{is_decimal}
use Rattle.timecode.specs.LabelReading.{reading_of_text}
use Rattle.timecode.specs.Letters.{letter_K, letter_W}
use Rattle.channel_plan.specs.declared.fault.LineFault.{LineFault}
use Rattle.channel_plan.specs.declared.fault.LineFault.TheVariants.{FieldCount, EventNumber, EditKind, BadLabel}
use Rattle.channel_plan.specs.declared.fault.LineFault.TheVariants.{SourceBackwards}
use Rattle.edl.specs.declared.event.Places.{Places}
use Rattle.edl.specs.Limits.{highest_event_number}
use Rattle.edl.specs.Text.{fields_of}

-- what the next step makes of the value, or the fault that came in its place
abbrev pub and_then : {A B : Type 0} → Result A LineFault → (A → Result B LineFault) → Result B LineFault
and_then (Ok value) step = step value
and_then (Err fault) step = Err fault

-- an event's number has one to six digits, and is at most highest_event_number
abbrev pub event_number : List ℕ → Option ℕ
event_number text = if is_decimal 6 text && nat_le (digits_value 10 text) highest_event_number
    then Some (digits_value 10 text) else None

-- The kind of an edit: `C` for a cut, `D` for a dissolve, `W` and one to three digits for a wipe, or a word that
-- begins with `K` for a key.
abbrev pub is_cut : List ℕ → Bool
is_cut kind = bytes_eq kind (codes "C")

abbrev pub is_mix : List ℕ → Bool
is_mix kind = bytes_eq kind (codes "D") || ((slice_index kind 0 == letter_W) && is_decimal 3 (drop 1 kind))

abbrev pub is_key : List ℕ → Bool
is_key kind = slice_index kind 0 == letter_K

-- the word that says the kind, and a dissolve's or a wipe's duration in frames
pub record EditWords : Type 0 where
  pub kind : List ℕ
  pub duration : Option ℕ

abbrev pub edit : List ℕ → Option ℕ → EditWords
edit kind duration = record { kind = kind; duration = duration }

-- a cut is one word, a dissolve or a wipe has a duration of one to three digits behind it, a key up to two more words
unfoldable pub edit_of : List (List ℕ) → Option EditWords
edit_of (kind ∷ []) = if is_cut kind || is_key kind then Some (edit kind None) else None
edit_of (kind ∷ word ∷ []) =
    if is_key kind then Some (edit kind None)
    else if is_mix kind && is_decimal 3 word then Some (edit kind (Some (digits_value 10 word)))
    else None
edit_of (kind ∷ word ∷ other ∷ []) = if is_key kind then Some (edit kind None) else None
edit_of _ = None

-- the frame of a label
abbrev pub bad_label : Result ℕ TcFault → Result ℕ LineFault
bad_label (Ok frame) = Ok frame
bad_label (Err fault) = Err (BadLabel fault)

abbrev pub label_frame : Rate → List ℕ → Result ℕ LineFault
label_frame rate text = bad_label (reading_of_text rate text)

-- a source that ends at 00:00:00:00 and begins later ends with the day
abbrev pub source_end : Rate → ℕ → ℕ → ℕ
source_end rate from to = if (to == 0) && nat_lt 0 from then day_length rate else to

-- the source may not go backwards; the record may go over the day's end
abbrev pub places_between : Rate → ℕ → ℕ → ℕ → ℕ → Result Places LineFault
places_between rate source_in source_out record_in record_out =
    if nat_lt source_out source_in && not (source_out == 0) then Err SourceBackwards else Ok (record {
      source_first = source_in;
      source_end = source_end rate source_in source_out;
      record_first = record_in;
      record_length = (record_out + day_length rate - record_in) % day_length rate;
    })

-- the four labels: source in, source out, record in, record out
unfoldable pub places_of : Rate → List ℕ → List ℕ → List ℕ → List ℕ → Result Places LineFault
places_of rate first second third fourth =
    and_then (label_frame rate first) (λ source_in.
    and_then (label_frame rate second) (λ source_out.
    and_then (label_frame rate third) (λ record_in.
    and_then (label_frame rate fourth) (λ record_out.
    places_between rate source_in source_out record_in record_out))))

-- an event, as its line says it
pub record EventLine : Type 0 where
  pub number : ℕ
  pub reel : List ℕ
  pub channels : List ℕ
  pub edit : EditWords
  pub places : Places

abbrev pub event_line : ℕ → List ℕ → List ℕ → EditWords → Places → EventLine
event_line number reel channels edit places =
    record { number = number; reel = reel; channels = channels; edit = edit; places = places }

-- field i, counted from 0
abbrev pub field : List (List ℕ) → ℕ → List ℕ
field fields i = slice_index_or fields i []

-- what stands between the first three fields and the last four
abbrev pub words_in : List (List ℕ) → List (List ℕ)
words_in fields = take (length fields - 7) (drop 3 fields)

-- the last four fields are labels
abbrev pub places_in : Rate → List (List ℕ) → Result Places LineFault
places_in rate fields =
    let count = length fields in
    places_of rate (field fields (count - 4)) (field fields (count - 3)) (field fields (count - 2))
    (field fields (count - 1))

-- number, reel, channels, the one to three words of the kind, and the four labels; the first fault is told
abbrev pub event_in : Rate → List (List ℕ) → Result EventLine LineFault
event_in rate fields =
    and_then (ok_or (event_number (field fields 0)) EventNumber) (λ number.
    and_then (ok_or (edit_of (words_in fields)) EditKind) (λ words.
    and_then (places_in rate fields) (λ places.
    Ok (event_line number (field fields 1) (field fields 2) words places))))

-- eight to ten fields are an event's
unfoldable pub event_of_fields : Rate → List (List ℕ) → Result EventLine LineFault
event_of_fields rate fields =
    if nat_le 8 (length fields) && nat_le (length fields) 10 then event_in rate fields else Err FieldCount

abbrev pub event_of : Rate → List ℕ → Result EventLine LineFault
event_of rate line = event_of_fields rate (fields_of line)
