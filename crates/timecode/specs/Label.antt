-- Labels: time addresses as text, by SMPTE ST 12-1 and the common use of `;` for drop-frame.
use Rattle.std.specs.Prelude.{ℕ, ◌+◌, ◌/◌, ◌%◌, List, [], ◌∷◌, Result, Ok, Err, nat_lt, if◌then◌else◌}
use Rattle.timecode.specs.declared.rates.Rate.{Rate}
use Rattle.timecode.specs.declared.labels.Label.{Label}
use Rattle.timecode.specs.declared.faults.TcFault.{TcFault}
use Rattle.timecode.specs.declared.faults.TcFault.TheVariants.{FrameRange}
use Rattle.timecode.specs.Letters.{digit_0, colon, semicolon}
use Rattle.timecode.specs.Rate.{is_drop_frame}
use Rattle.timecode.specs.Address.{Address, address}
use Rattle.timecode.specs.Counting.{address_of_frame, day_length}

-- `:`, or `;` before the frames at drop-frame
abbrev pub last_mark : Rate → ℕ
last_mark rate = if is_drop_frame rate then semicolon else colon

-- HH:MM:SS:FF, each number in two decimal digits
abbrev pub address_text : Rate → Address → List ℕ
address_text rate a =
    (digit_0 + a.hours / 10) ∷ (digit_0 + a.hours % 10) ∷ colon ∷
    (digit_0 + a.minutes / 10) ∷ (digit_0 + a.minutes % 10) ∷ colon ∷
    (digit_0 + a.seconds / 10) ∷ (digit_0 + a.seconds % 10) ∷ last_mark rate ∷
    (digit_0 + a.frames / 10) ∷ (digit_0 + a.frames % 10) ∷ []

abbrev pub address_of_label : Label → Address
address_of_label label = address label.hours label.minutes label.seconds label.frames

abbrev pub label_text : Label → List ℕ
label_text label = address_text label.rate (address_of_label label)

abbrev pub label_of : Rate → Address → Label
label_of rate a = record { hours = a.hours; minutes = a.minutes; seconds = a.seconds; frames = a.frames; rate = rate }

-- the label of a frame of the day; a later frame has none
abbrev pub label_of_frame : Rate → ℕ → Result Label TcFault
label_of_frame rate n =
    if nat_lt n (day_length rate) then Ok (label_of rate (address_of_frame rate n)) else Err FrameRange

-- the text of a frame's label
abbrev pub frame_text : Rate → ℕ → List ℕ
frame_text rate n = address_text rate (address_of_frame rate n)
