-- The fields of an event's line as the reader holds them.
use Rattle.std.proofs.Common.{◌≡◌, ℕ, ◌-◌, ◌<◌, ◌≤◌, true, false, ◌&&◌, nat_le, List, length, take, drop, get_or, []}
use Rattle.std.proofs.Common.{Option, Some, None, Result, Ok, Err, refl, sym, ap, ◌∙◌, arith}
use Rattle.std.specs.Prelude.{option_map}
use Rattle.std.proofs.lemmas.List.{length-map, get_or-map, take-map, drop-map}
use Rattle.std.proofs.lemmas.Bool.Decides.{nat_tests}
use Rattle.std.specs.Borrow.{Bor}
use Rattle.timecode.specs.declared.rates.Rate.{Rate}
use Rattle.channel_plan.specs.declared.fault.LineFault.{LineFault}
use Rattle.channel_plan.specs.declared.fault.LineFault.TheVariants.{EditKind, FieldCount}
use Rattle.edl.specs.declared.event.ReadEdit.{ReadEdit}
use Rattle.edl.specs.declared.event.Places.{Places}
use Rattle.edl.specs.Text.{fields_of}
use Rattle.edl.specs.Line.{event_of, EditWords, EventLine, event_line, event_number, edit_of, places_of}
use Rattle.edl.specs.Line.{event_of_fields, field, and_then}
use Rattle.edl.specs.Texts.{texts_of}
use Rattle.edl.specs.Shown.{edit_shown}

pub length-texts_of : (texts : List (Bor (List ℕ))) → length (texts_of texts) ≡ length texts
length-texts_of texts = length-map texts (λ (text : Bor (List ℕ)). text.now)

pub field-texts_of : (texts : List (Bor (List ℕ))) (i : ℕ) (d : Bor (List ℕ)) → i < length texts
    → field (texts_of texts) i ≡ (get_or texts i d).now
field-texts_of texts i d lt = get_or-map (λ (text : Bor (List ℕ)). text.now) texts i d _ lt

pub texts_of-part : (texts : List (Bor (List ℕ))) (i n : ℕ)
    → take n (drop i (texts_of texts)) ≡ texts_of (take n (drop i texts))
texts_of-part texts i n =
    ap (λ (l : List (List ℕ)). take n l) (drop-map (λ (text : Bor (List ℕ)). text.now) i texts)
    ∙ take-map (λ (text : Bor (List ℕ)). text.now) n (drop i texts)

pub ruleset fields_read = (length-texts_of, field-texts_of, texts_of-part)

-- ---- what the fields say, read one after another

step_edit : (rate : Rate) (fs : List (List ℕ)) (number : ℕ) → (nat_le 8 (length fs) && nat_le (length fs) 10) ≡ true
    → event_number (field fs 0) ≡ Some number → edit_of (take (length fs - 7) (drop 3 fs)) ≡ None
    → event_of_fields rate fs ≡ Err EditKind
unfolding event_of_fields
step_edit rate fs number range e words = rw (range, e, words) refl

-- the event of what was read, or the fault of its labels
abbrev pub with_places : ℕ → List ℕ → List ℕ → EditWords → Result Places LineFault → Result EventLine LineFault
with_places number reel channels words (Ok places) = Ok (event_line number reel channels words places)
with_places number reel channels words (Err fault) = Err fault

step_places : (rate : Rate) (fs : List (List ℕ)) (number : ℕ) (words : EditWords) (places : Result Places LineFault)
    → (nat_le 8 (length fs) && nat_le (length fs) 10) ≡ true
    → event_number (field fs 0) ≡ Some number → edit_of (take (length fs - 7) (drop 3 fs)) ≡ Some words
    → places_of rate (field fs (length fs - 4)) (field fs (length fs - 3)) (field fs (length fs - 2))
    (field fs (length fs - 1)) ≡ places
    → event_of_fields rate fs ≡ with_places number (field fs 1) (field fs 2) words places
unfolding event_of_fields
step_places rate fs number words places range e f g = rw (range, e, f, g) (at places)
  where
    at : (r : Result Places LineFault)
        → and_then r (λ p. Ok (event_line number (field fs 1) (field fs 2) words p))
        ≡ with_places number (field fs 1) (field fs 2) words r
    at (Ok p) = refl
    at (Err fault) = refl

in_range : (n : ℕ) → 8 ≤ n → n ≤ 10 → (nat_le 8 n && nat_le n 10) ≡ true
in_range n low high = grind (arith, nat_tests)

-- no text, which stands for a field that isn't there
abbrev no_text : Bor (List ℕ)
no_text = record { ref_ptr = (0, 0); now = [] }

-- the same of the fields as they are held
pub edit_refused : (rate : Rate) (fs : List (Bor (List ℕ))) (number : ℕ) (edit : Option ReadEdit)
    → 8 ≤ length fs → length fs ≤ 10 → Some number ≡ event_number (get_or fs 0 no_text).now
    → option_map edit_shown edit ≡ edit_of (texts_of (take (length fs - 4 - 3) (drop 3 fs))) → edit ≡ None
    → event_of_fields rate (texts_of fs) ≡ Err EditKind
edit_refused rate fs number edit low high e f none =
    let count = length-texts_of fs in
    let seven : length fs - 4 - 3 ≡ length (texts_of fs) - 7 = omega (arith, count) in
    step_edit rate (texts_of fs) number (in_range (length (texts_of fs)) (omega (arith, count)) (omega (arith, count)))
    (ap event_number (field-texts_of fs 0 no_text (omega arith)) ∙ sym e)
    (ap edit_of (texts_of-part fs 3 (length (texts_of fs) - 7)) ∙ rw (← seven) (sym f)
    ∙ ap (option_map edit_shown) none)

pub edit_read : (rate : Rate) (fs : List (Bor (List ℕ))) (number : ℕ) (edit : ReadEdit)
    (places : Result Places LineFault)
    → 8 ≤ length fs → length fs ≤ 10 → Some number ≡ event_number (get_or fs 0 no_text).now
    → Some (edit_shown edit) ≡ edit_of (texts_of (take (length fs - 4 - 3) (drop 3 fs)))
    → places
    ≡ places_of rate (get_or fs (length fs - 4) no_text).now (get_or fs (length fs - 3) no_text).now
    (get_or fs (length fs - 2) no_text).now (get_or fs (length fs - 1) no_text).now
    → event_of_fields rate (texts_of fs)
    ≡ with_places number (get_or fs 1 no_text).now (get_or fs 2 no_text).now (edit_shown edit) places
edit_read rate fs number edit places low high e f g =
    let count = length-texts_of fs in
    let seven : length fs - 4 - 3 ≡ length (texts_of fs) - 7 = omega (arith, count) in
    let reel = field-texts_of fs 1 no_text (omega arith) in
    let channels = field-texts_of fs 2 no_text (omega arith) in
    let a = field-texts_of fs (length fs - 4) no_text (omega arith) in
    let b = field-texts_of fs (length fs - 3) no_text (omega arith) in
    let c = field-texts_of fs (length fs - 2) no_text (omega arith) in
    let l = field-texts_of fs (length fs - 1) no_text (omega arith) in
    step_places rate (texts_of fs) number (edit_shown edit) places
    (in_range (length (texts_of fs)) (omega (arith, count)) (omega (arith, count)))
    (ap event_number (field-texts_of fs 0 no_text (omega arith)) ∙ sym e)
    (ap edit_of (texts_of-part fs 3 (length (texts_of fs) - 7)) ∙ rw (← seven) (sym f))
    (rw (count, a, b, c, l) (sym g))
    ∙ rw (reel, channels) refl

-- more than ten fields
pub event_of-over : (rate : Rate) (line : List ℕ) → 10 < length (fields_of line) → event_of rate line ≡ Err FieldCount
unfolding event_of_fields
event_of-over rate line h =
    let e : (nat_le 8 (length (fields_of line)) && nat_le (length (fields_of line)) 10) ≡ false =
    grind (arith, nat_tests) in
    rw e refl
