-- What a label's text reads as.
use Rattle.std.proofs.Common.{◌≡◌, ℕ, ◌+◌, ◌-◌, ◌*◌, ◌/◌, ◌%◌, ◌<◌, true, false, not, ◌&&◌, List, [], ◌∷◌, Result, Ok}
use Rattle.std.proofs.Common.{Err, Option, Some, None, lit<, subst, refl, ap, sym, ◌∙◌, arith}
use Rattle.std.proofs.lemmas.Bool.{and_from, le-leb, lt-ltb, cond-true, cond-false}
use Rattle.std.proofs.lemmas.Str.{IsUtf8-from_ascii}
use Rattle.std.proofs.lemmas.Str.Ascii.{IsAscii-nil, IsAscii-cons}
use Rattle.std.specs.Prelude.{ok_or, IfOk, IsUtf8, IsAscii}
use Rattle.std.specs.Char.{is_ascii_digit}
use Rattle.timecode.specs.declared.rates.Rate.{Rate}
use Rattle.timecode.specs.declared.rates.Rate.TheVariants.{F24, F25, F30, Df30}
use Rattle.timecode.specs.declared.faults.TcFault.{TcFault}
use Rattle.timecode.specs.declared.faults.TcFault.TheVariants.{LabelForm, LabelRange, DropMark, DroppedLabel}
use Rattle.timecode.specs.Rate.{nominal_frames, is_drop_frame}
use Rattle.timecode.specs.Address.{Address, is_in_range}
use Rattle.timecode.specs.Counting.{address_of_frame, day_length, frame_at}
use Rattle.timecode.specs.declared.labels.Label.{Label}
use Rattle.timecode.specs.Label.{last_mark, address_of_label, address_text, frame_text, label_of, label_of_frame}
use Rattle.timecode.specs.LabelReading.{is_mark, has_label_form, address_of_text, has_drop_mark, reading_of_text}
use Rattle.timecode.proofs.Counted.{same_fields}
use Rattle.timecode.proofs.Days.{InRange, range_from, counted, frame_at-counted, frame_at-sound}

-- the faults, and what is read of a text without those three
pub reading_form : (rate : Rate) (text : List ℕ) → has_label_form text ≡ false
    → reading_of_text rate text ≡ Err LabelForm
unfolding reading_of_text
reading_form rate text form = cond-true _ _ _ (ap not form)

pub reading_range : (rate : Rate) (text : List ℕ) → has_label_form text ≡ true
    → is_in_range rate (address_of_text text) ≡ false → reading_of_text rate text ≡ Err LabelRange
unfolding reading_of_text
reading_range rate text form range = cond-false _ _ _ (ap not form) ∙ cond-true _ _ _ (ap not range)

pub reading_mark : (rate : Rate) (text : List ℕ) → has_label_form text ≡ true
    → is_in_range rate (address_of_text text) ≡ true → has_drop_mark text ≡ true → is_drop_frame rate ≡ false
    → reading_of_text rate text ≡ Err DropMark
unfolding reading_of_text
reading_mark rate text form range mark plain =
    cond-false _ _ _ (ap not form) ∙ cond-false _ _ _ (ap not range)
    ∙ cond-true _ _ _ (and_from _ _ mark (ap not plain))

pub reading_found : (rate : Rate) (text : List ℕ) → has_label_form text ≡ true
    → is_in_range rate (address_of_text text) ≡ true → (has_drop_mark text && not (is_drop_frame rate)) ≡ false
    → reading_of_text rate text ≡ ok_or (frame_at rate (address_of_text text)) DroppedLabel
unfolding reading_of_text
reading_found rate text form range mark =
    cond-false _ _ _ (ap not form) ∙ cond-false _ _ _ (ap not range) ∙ cond-false _ _ _ mark

pub ruleset readings = (reading_form, reading_range, reading_mark, reading_found)

digit : (d : ℕ) → d < 10 → is_ascii_digit (48 + d) ≡ true
digit d low = and_from _ _ (le-leb 48 (48 + d) (omega arith)) (le-leb (48 + d) 57 (omega arith))

-- the two digits of a number below 100 are digits, and write it
two_digits : (n : ℕ) → n < 100 → (is_ascii_digit (48 + n / 10) && is_ascii_digit (48 + n % 10)) ≡ true
two_digits n low = and_from _ _ (digit (n / 10) (omega arith)) (digit (n % 10) (omega arith))

written : (n : ℕ) → 10 * (48 + n / 10 - 48) + (48 + n % 10 - 48) ≡ n
written n = omega arith

last_is_mark : (rate : Rate) → is_mark (last_mark rate) ≡ true
last_is_mark F24 = refl
last_is_mark F25 = refl
last_is_mark F30 = refl
last_is_mark Df30 = refl

few_frames : (rate : Rate) (f : ℕ) → f < nominal_frames rate → f < 100
few_frames F24 f low = omega arith
few_frames F25 f low = omega arith
few_frames F30 f low = omega arith
few_frames Df30 f low = omega arith

text_form : (rate : Rate) (a : Address) → InRange rate a → has_label_form (address_text rate a) ≡ true
text_form rate a p =
    let h : a.hours < 24 = p.hours in
    let m : a.minutes < 60 = p.minutes in
    let s : a.seconds < 60 = p.seconds in
    and_from _ _ (and_from _ _ (and_from _ _ (and_from _ _ (and_from _ _ (and_from _ _ (
    two_digits a.hours (omega arith)) refl)
    (two_digits a.minutes (omega arith))) refl)
    (two_digits a.seconds (omega arith))) (last_is_mark rate))
    (two_digits a.frames (few_frames rate a.frames p.frames))

text_address : (rate : Rate) (a : Address) → address_of_text (address_text rate a) ≡ a
text_address rate a =
    same_fields (address_of_text (address_text rate a)) a (written a.hours) (written a.minutes) (written a.seconds)
    (written a.frames)

text_mark : (rate : Rate) (a : Address) → (has_drop_mark (address_text rate a) && not (is_drop_frame rate)) ≡ false
text_mark F24 a = refl
text_mark F25 a = refl
text_mark F30 a = refl
text_mark Df30 a = refl

-- the text of a frame's label is read back
pub read_back : (rate : Rate) (n : ℕ) → n < day_length rate → reading_of_text rate (frame_text rate n) ≡ Ok n
read_back rate n low =
    let a = address_of_frame rate n in
    let p = counted rate n low in
    let range : InRange rate a =
    record { hours = p.hours; minutes = p.minutes; seconds = p.seconds; frames = p.frames } in
    let same = text_address rate a in
    reading_found rate (frame_text rate n) (text_form rate a range)
    (ap (is_in_range rate) same ∙ range_from rate a range) (text_mark rate a)
    ∙ ap (λ x. ok_or (frame_at rate x) DroppedLabel) same
    ∙ ap (λ x. ok_or x DroppedLabel) (frame_at-counted rate n a p)

-- what is found is a frame of the day with the text's digits
pub found_frame : (rate : Rate) (text : List ℕ) (a : Address) (o : Option ℕ) (r : Result ℕ TcFault)
    → r ≡ ok_or o DroppedLabel → o ≡ frame_at rate a → a ≡ address_of_text text
    → IfOk r (λ n. (n < day_length rate) × (address_of_frame rate n ≡ address_of_text text))
found_frame rate text a None r given found same =
    subst
    (λ (x : Result ℕ TcFault). IfOk x (λ n. (n < day_length rate) × (address_of_frame rate n ≡ address_of_text text)))
    (sym given) tt
found_frame rate text a (Some n) r given found same =
    let frame = frame_at-sound rate a n (sym found) in
    subst
    (λ (x : Result ℕ TcFault). IfOk x
    (λ n. (n < day_length rate) × (address_of_frame rate n ≡ address_of_text text))) (sym given)
    (frame.0, frame.1 ∙ same)

-- the frame that is found at a label's address has the label
pub found_label : (label : Label) (o : Option ℕ) (r : Result ℕ TcFault) → r ≡ ok_or o DroppedLabel
    → o ≡ frame_at label.rate (address_of_label label)
    → IfOk r (λ n. label_of_frame label.rate n ≡ Ok label)
found_label label None r given found =
    subst (λ (x : Result ℕ TcFault). IfOk x (λ n. label_of_frame label.rate n ≡ Ok label)) (sym given) tt
found_label label (Some n) r given found =
    let frame = frame_at-sound label.rate (address_of_label label) n (sym found) in
    subst (λ (x : Result ℕ TcFault). IfOk x (λ n. label_of_frame label.rate n ≡ Ok label)) (sym given)
    (cond-true _ _ _ (lt-ltb n (day_length label.rate) frame.0) ∙ ap (λ a. Ok (label_of label.rate a)) frame.1)

-- each byte is below 128
AreLow : List ℕ → Type 0
AreLow [] = Unit {0}
AreLow (b ∷ bs) = (b < 128) × AreLow bs

low_ascii : (bs : List ℕ) → AreLow bs → IsAscii bs
unfolding AreLow
low_ascii [] low = IsAscii-nil
low_ascii (b ∷ bs) low = IsAscii-cons b bs low.0 (low_ascii bs low.1)

-- the bytes of a label are text
pub label_utf8 : (h m s mark f : ℕ) → h < 256 → m < 256 → s < 256 → mark < 128 → f < 256
    → IsUtf8
    ((48 + h / 10) ∷ (48 + h % 10) ∷ 58 ∷ (48 + m / 10) ∷ (48 + m % 10) ∷ 58 ∷ (48 + s / 10) ∷ (48 + s % 10) ∷ mark
    ∷ (48 + f / 10) ∷ (48 + f % 10) ∷ [])
unfolding AreLow
label_utf8 h m s mark f hl ml sl marked fl =
    IsUtf8-from_ascii _
    (low_ascii
    ((48 + h / 10) ∷ (48 + h % 10) ∷ 58 ∷ (48 + m / 10) ∷ (48 + m % 10) ∷ 58 ∷ (48 + s / 10) ∷ (48 + s % 10) ∷ mark
    ∷ (48 + f / 10) ∷ (48 + f % 10) ∷ []) (
      omega arith,
      (
        omega arith,
        (
          lit< tt,
          (
            omega arith,
            (omega arith, (lit< tt, (omega arith, (omega arith, (marked, (omega arith, (omega arith, tt))))))),
          ),
        ),
      ),
    ))
