-- The frame that a label's text names, or the first fault of the text, and the same of a label itself.
use Rattle.std.specs.Prelude.{ℕ, ◌+◌, ◌-◌, ◌*◌, Bool, not, ◌&&◌, ◌||◌, List, length, slice_index, Result, Err, ok_or}
use Rattle.std.specs.Prelude.{◌==◌, if◌then◌else◌}
use Rattle.std.specs.Char.{is_ascii_digit}
use Rattle.timecode.specs.declared.rates.Rate.{Rate}
use Rattle.timecode.specs.declared.faults.TcFault.{TcFault}
use Rattle.timecode.specs.declared.faults.TcFault.TheVariants.{LabelForm, LabelRange, DropMark, DroppedLabel}
use Rattle.timecode.specs.Letters.{digit_0, colon, semicolon}
use Rattle.timecode.specs.Rate.{is_drop_frame}
use Rattle.timecode.specs.Address.{Address, address, is_in_range}
use Rattle.timecode.specs.Counting.{frame_at}
use Rattle.timecode.specs.declared.labels.Label.{Label}
use Rattle.timecode.specs.Label.{address_of_label}

-- `:` or `;`
abbrev pub is_mark : ℕ → Bool
is_mark byte = (byte == colon) || (byte == semicolon)

-- two digits from byte i of the text on, and the number that they write
abbrev pub has_number_at : List ℕ → ℕ → Bool
has_number_at text i = is_ascii_digit (slice_index text i) && is_ascii_digit (slice_index text (i + 1))

abbrev pub number_at : List ℕ → ℕ → ℕ
number_at text i = 10 * (slice_index text i - digit_0) + (slice_index text (i + 1) - digit_0)

-- eleven bytes: four numbers of two digits, with a mark between
abbrev pub has_label_form : List ℕ → Bool
has_label_form text = (length text == 11)
    && has_number_at text 0 && is_mark (slice_index text 2)
    && has_number_at text 3 && is_mark (slice_index text 5)
    && has_number_at text 6 && is_mark (slice_index text 8)
    && has_number_at text 9

abbrev pub address_of_text : List ℕ → Address
address_of_text text = address (number_at text 0) (number_at text 3) (number_at text 6) (number_at text 9)

-- one of the three marks is `;`
abbrev pub has_drop_mark : List ℕ → Bool
has_drop_mark text = (slice_index text 2 == semicolon) || (slice_index text 5 == semicolon)
    || (slice_index text 8 == semicolon)

-- a label in range that no frame of the day has is one that drop-frame counting drops
unfoldable pub reading_of_text : Rate → List ℕ → Result ℕ TcFault
reading_of_text rate text =
    if not (has_label_form text) then Err LabelForm else
    if not (is_in_range rate (address_of_text text)) then Err LabelRange else
    if has_drop_mark text && not (is_drop_frame rate) then Err DropMark else
    ok_or (frame_at rate (address_of_text text)) DroppedLabel

-- the frame of the day with a label's numbers; one in range that no frame has is dropped
abbrev pub frame_of_label : Label → Result ℕ TcFault
frame_of_label label =
    if not (is_in_range label.rate (address_of_label label)) then Err LabelRange else
    ok_or (frame_at label.rate (address_of_label label)) DroppedLabel
