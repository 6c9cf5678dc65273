-- The lines of an event that is written, read back.
use Rattle.std.proofs.Common.{◌≡◌, ℕ, ◌+◌, ◌-◌, ◌%◌, ◌<◌, ◌≤◌, Bool, true, false, not, ◌&&◌, cond, nat_lt, List, []}
use Rattle.std.proofs.Common.{◌∷◌, ◌++◌, length, Option, Some, None, Result, Ok, Err, refl, ap, ◌∙◌, arith}
use Rattle.std.specs.Prelude.{◌==◌, slice_index, All, if◌then◌else◌}
use Rattle.std.proofs.lemmas.Bool.{and_parts, eqb-true}
use Rattle.std.proofs.lemmas.Bool.Decides.{nat_tests}
use Rattle.std.proofs.lemmas.List.Elements.{All-nil, All-cons}
use Rattle.std.specs.Char.{is_ascii_digit}
use Rattle.timecode.specs.declared.rates.Rate.{Rate}
use Rattle.timecode.specs.declared.faults.TcFault.{TcFault}
use Rattle.timecode.specs.declared.faults.TcFault.TheVariants.{LabelForm}
use Rattle.timecode.specs.Counting.{day_length}
use Rattle.timecode.specs.Label.{frame_text}
use Rattle.timecode.specs.LabelReading.{has_label_form, has_number_at, is_mark, reading_of_text}
use Rattle.timecode.specs.declared.rates.Rate.TheVariants.{F24, F25, F30, Df30}
use Rattle.timecode.specs.Decimal.{in_digits}
use Rattle.edl.specs.declared.event.Places.{Places}
use Rattle.edl.specs.Line.{bad_label, label_frame, places_of, places_between, source_end, edit, edit_of, EventLine}
use Rattle.edl.specs.Line.{event_line, event_of, event_of_fields}
use Rattle.edl.specs.Text.{fields_of}
use Rattle.std.proofs.lemmas.List.{append_assoc}
use Rattle.edl.specs.Limits.{highest_event_number}
use Rattle.edl.specs.Written.{OutEntry, edit_text, place_text, places_text}
use Rattle.edl.specs.ReadBack.{CanBeReadBack, IsGraphic}
use Rattle.edl.proofs.WrittenFields.{IsLabelWord, duration_words, edit_back, fields_back, labels_line, number_word}
use Rattle.edl.proofs.WrittenFields.{written_fields}

digit_graphic : (b : ℕ) → is_ascii_digit b ≡ true → IsGraphic b
digit_graphic b h = record { low = grind (arith, nat_tests); high = grind (arith, nat_tests) }

mark_graphic : (b : ℕ) → is_mark b ≡ true → IsGraphic b
mark_graphic b h = record { low = grind (arith, nat_tests); high = grind (arith, nat_tests) }

-- the parts of a long test
record AllEight (l n0 m2 n3 m5 n6 m8 n9 : Bool) : Type 0 where
  l_is : l ≡ true
  n0_is : n0 ≡ true
  m2_is : m2 ≡ true
  n3_is : n3 ≡ true
  m5_is : m5 ≡ true
  n6_is : n6 ≡ true
  m8_is : m8 ≡ true
  n9_is : n9 ≡ true

all_eight : (l n0 m2 n3 m5 n6 m8 n9 : Bool) → (l && n0 && m2 && n3 && m5 && n6 && m8 && n9) ≡ true
    → AllEight l n0 m2 n3 m5 n6 m8 n9
all_eight l n0 m2 n3 m5 n6 m8 n9 h =
    let p1 = and_parts (l && n0 && m2 && n3 && m5 && n6 && m8) n9 h in
    let p2 = and_parts (l && n0 && m2 && n3 && m5 && n6) m8 p1.0 in
    let p3 = and_parts (l && n0 && m2 && n3 && m5) n6 p2.0 in
    let p4 = and_parts (l && n0 && m2 && n3) m5 p3.0 in
    let p5 = and_parts (l && n0 && m2) n3 p4.0 in
    let p6 = and_parts (l && n0) m2 p5.0 in
    let p7 = and_parts l n0 p6.0 in
    record {
      l_is = p7.0;
      n0_is = p7.1;
      m2_is = p6.1;
      n3_is = p5.1;
      m5_is = p4.1;
      n6_is = p3.1;
      m8_is = p2.1;
      n9_is =
          p1.1;
    }

form_parts : (text : List ℕ) → has_label_form text ≡ true
    → AllEight (length text == 11) (has_number_at text 0) (is_mark (slice_index text 2)) (has_number_at text 3)
    (is_mark (slice_index text 5)) (has_number_at text 6) (is_mark (slice_index text 8)) (has_number_at text 9)
form_parts text h =
    all_eight (length text == 11) (has_number_at text 0) (is_mark (slice_index text 2)) (has_number_at text 3)
    (is_mark (slice_index text 5)) (has_number_at text 6) (is_mark (slice_index text 8)) (has_number_at text 9) h

digits_graphic : (a b : ℕ) (rest : List ℕ) → (is_ascii_digit a && is_ascii_digit b) ≡ true → All IsGraphic rest
    → All IsGraphic (a ∷ b ∷ rest)
digits_graphic a b rest h more =
    let p = and_parts (is_ascii_digit a) (is_ascii_digit b) h in
    All-cons IsGraphic a (b ∷ rest) (digit_graphic a p.0) (All-cons IsGraphic b rest (digit_graphic b p.1) more)

-- a text of a label's form is a word
form_word : (text : List ℕ) → has_label_form text ≡ true → IsLabelWord text
form_word (a ∷ b ∷ c ∷ d ∷ e ∷ f ∷ g ∷ h ∷ i ∷ j ∷ k ∷ []) form =
    let p = form_parts (a ∷ b ∷ c ∷ d ∷ e ∷ f ∷ g ∷ h ∷ i ∷ j ∷ k ∷ []) form in record {
      some = omega arith;
      graphic =
          digits_graphic a b (c ∷ d ∷ e ∷ f ∷ g ∷ h ∷ i ∷ j ∷ k ∷ []) p.n0_is
          (All-cons IsGraphic c (d ∷ e ∷ f ∷ g ∷ h ∷ i ∷ j ∷ k ∷ []) (mark_graphic c p.m2_is)
          (digits_graphic d e (f ∷ g ∷ h ∷ i ∷ j ∷ k ∷ []) p.n3_is
          (All-cons IsGraphic f (g ∷ h ∷ i ∷ j ∷ k ∷ []) (mark_graphic f p.m5_is)
          (digits_graphic g h (i ∷ j ∷ k ∷ []) p.n6_is (All-cons IsGraphic i (j ∷ k ∷ []) (mark_graphic i p.m8_is)
          (digits_graphic j k [] p.n9_is (All-nil IsGraphic)))))));
    }
form_word text form = absurd (omega (arith, eqb-true (length text) 11 (form_parts text form).l_is))

formed : (v : Bool) (rest : Result ℕ TcFault) (n : ℕ) → cond (not v) (Err LabelForm) rest ≡ Ok n → v ≡ true
formed true rest n h = refl
formed false rest n h = cc h

-- what is read has a label's form
read_form : (rate : Rate) (text : List ℕ) (n : ℕ) → reading_of_text rate text ≡ Ok n → has_label_form text ≡ true
unfolding reading_of_text
read_form rate text n h = formed (has_label_form text) _ n h

-- each label of a frame of the day is read back
unfoldable pub LabelsAreReadBack : Type 0
LabelsAreReadBack = (rate : Rate) (n : ℕ) → n < day_length rate → reading_of_text rate (frame_text rate n) ≡ Ok n

-- a place as it is read back
abbrev pub place_back : Rate → ℕ → ℕ
place_back rate place = if place == day_length rate then 0 else place

place_back-lt : (rate : Rate) (place : ℕ) → 0 < day_length rate → place ≤ day_length rate
    → place_back rate place < day_length rate
place_back-lt rate place day le = grind (arith, nat_tests)

pub place_word : LabelsAreReadBack → (rate : Rate) (place : ℕ) → 0 < day_length rate → place ≤ day_length rate
    → IsLabelWord (place_text rate place)
unfolding LabelsAreReadBack place_text
place_word back rate place day le =
    let lt = place_back-lt rate place day le in
    form_word (frame_text rate (place_back rate place))
    (read_form rate (frame_text rate (place_back rate place)) (place_back rate place)
    (back rate (place_back rate place) lt))

pub place_read : LabelsAreReadBack → (rate : Rate) (place : ℕ) → 0 < day_length rate → place ≤ day_length rate
    → label_frame rate (place_text rate place) ≡ Ok (place_back rate place)
unfolding LabelsAreReadBack place_text
place_read back rate place day le =
    let lt = place_back-lt rate place day le in
    ap bad_label (back rate (place_back rate place) lt)

-- ---- places

pub day_above_zero : (rate : Rate) → 0 < day_length rate
day_above_zero F24 = omega arith
day_above_zero F25 = omega arith
day_above_zero F30 = omega arith
day_above_zero Df30 = omega arith

-- the record's end is read back as its length
record_back : (rate : Rate) (first len : ℕ) → first < day_length rate → len < day_length rate
    → (place_back rate ((first + len) % day_length rate) + day_length rate - place_back rate first) % day_length rate
    ≡ len
record_back rate first len hf hl =
    rw (inside rate ((first + len) % day_length rate) (mod_lt rate (first + len)), inside rate first hf)
    (wrapped rate first len hf hl)
  where
    mod_lt : (rate : Rate) (n : ℕ) → n % day_length rate < day_length rate
    mod_lt F24 n = omega arith
    mod_lt F25 n = omega arith
    mod_lt F30 n = omega arith
    mod_lt Df30 n = omega arith

    inside : (rate : Rate) (n : ℕ) → n < day_length rate → place_back rate n ≡ n
    inside rate n h = let e : (n == day_length rate) ≡ false = grind (arith, nat_tests) in rw e refl

    wrapped : (rate : Rate) (first len : ℕ) → first < day_length rate → len < day_length rate
        → ((first + len) % day_length rate + day_length rate - first) % day_length rate ≡ len
    wrapped F24 first len hf hl = omega arith
    wrapped F25 first len hf hl = omega arith
    wrapped F30 first len hf hl = omega arith
    wrapped Df30 first len hf hl = omega arith

-- a source's ends, as they are read back
record SourceBack (day first end sb eb : ℕ) : Type 0 where
  forwards : (nat_lt eb sb && not (eb == 0)) ≡ false
  end_is : (if (eb == 0) && nat_lt 0 sb then day else eb) ≡ (if first == day then 0 else end)

source_back : (day first end len sb eb : ℕ) → 0 < day → first + len ≡ end → end ≤ day → len < day
    → sb ≡ (if first == day then 0 else first) → eb ≡ (if end == day then 0 else end) → SourceBack day first end sb eb
source_back day first end len sb eb positive sum le short hs he = record {
  forwards = grind (arith, nat_tests);
  end_is = grind (arith, nat_tests);
}

-- the places of an event that was written
abbrev pub places_back : Rate → OutEntry → Places
places_back rate event = record {
  source_first = place_back rate event.source_first;
  source_end = if event.source_first == day_length rate then 0 else event.source_end;
  record_first = event.record_first;
  record_length = event.length;
}

abbrev pub record_end : Rate → OutEntry → ℕ
record_end rate event = (event.record_first + event.length) % day_length rate

places_by : (rate : Rate) (a b c d : List ℕ) (first end record_in record_out : ℕ)
    → label_frame rate a ≡ Ok first → label_frame rate b ≡ Ok end → label_frame rate c ≡ Ok record_in
    → label_frame rate d ≡ Ok record_out
    → places_of rate a b c d ≡ places_between rate first end record_in record_out
unfolding places_of
places_by rate a b c d first end record_in record_out ha hb hc hd = rw (ha, hb, hc, hd) refl

places_joined : (rate : Rate) (sb eb rb ob last first len : ℕ) → (nat_lt eb sb && not (eb == 0)) ≡ false
    → source_end rate sb eb ≡ last → rb ≡ first → (ob + day_length rate - rb) % day_length rate ≡ len
    → places_between rate sb eb rb ob
    ≡ Ok (record { source_first = sb; source_end = last; record_first = first; record_length = len })
places_joined rate sb eb rb ob last first len forwards ends begins length = rw (forwards, ends, length, begins) refl

inside_back : (rate : Rate) (n : ℕ) → n < day_length rate → place_back rate n ≡ n
inside_back rate n h = let e : (n == day_length rate) ≡ false = grind (arith, nat_tests) in rw e refl

pub record_end-lt : (rate : Rate) (event : OutEntry) → record_end rate event < day_length rate
record_end-lt F24 event = omega arith
record_end-lt F25 event = omega arith
record_end-lt F30 event = omega arith
record_end-lt Df30 event = omega arith

-- a written event's places are read back
pub places_read : LabelsAreReadBack → (rate : Rate) (event : OutEntry) → CanBeReadBack rate event
    → places_of rate (place_text rate event.source_first) (place_text rate event.source_end)
    (place_text rate event.record_first) (place_text rate (record_end rate event))
    ≡ Ok (places_back rate event)
places_read back rate event h =
    let day = day_above_zero rate in
    let first_le : event.source_first ≤ day_length rate = omega (arith, h.source, h.source_end) in
    let record_le : event.record_first ≤ day_length rate = omega (arith, h.record_first) in
    let out_le : record_end rate event ≤ day_length rate = omega (arith, record_end-lt rate event) in
    let s =
    source_back (day_length rate) event.source_first event.source_end event.length
    (place_back rate event.source_first) (place_back rate event.source_end) day h.source h.source_end h.length refl
    refl in
    places_by rate _ _ _ _ _ _ _ _ (place_read back rate event.source_first day first_le)
    (place_read back rate event.source_end day h.source_end)
    (place_read back rate event.record_first day record_le) (place_read back rate (record_end rate event) day out_le)
    ∙ places_joined rate (place_back rate event.source_first) (place_back rate event.source_end)
    (place_back rate event.record_first) (place_back rate (record_end rate event))
    _ event.record_first event.length s.forwards s.end_is (inside_back rate event.record_first h.record_first)
    (record_back rate event.record_first event.length h.record_first h.length)

-- ---- an event's line

-- the line, and the event that it says
unfoldable pub written_line : Rate → OutEntry → List ℕ
written_line rate event = edit_text event ++ places_text rate event

abbrev pub line_event : Rate → OutEntry → EventLine
line_event rate event =
    event_line event.number event.reel event.channels (edit event.kind event.duration) (places_back rate event)

event_words : (rate : Rate) (event : OutEntry) (duration : Option ℕ) (a b c d : List ℕ) (places : Places)
    → event.duration ≡ duration
    → event.number ≤ highest_event_number
    → edit_of (event.kind ∷ duration_words duration) ≡ Some (edit event.kind duration)
    → places_of rate a b c d ≡ Ok places
    → event_of_fields rate
    (in_digits 3 event.number ∷ event.reel ∷ event.channels ∷ event.kind
    ∷ (duration_words duration ++ (a ∷ b ∷ c ∷ d ∷ [])))
    ≡ Ok (event_line event.number event.reel event.channels (edit event.kind duration) places)
unfolding event_of_fields duration_words
event_words rate event None a b c d places e number kind h = rw ((number_word event.number number).read, kind, h) refl
event_words rate event (Some frames) a b c d places e number kind h =
    rw ((number_word event.number number).read, kind, h) refl

pub places_line : (rate : Rate) (event : OutEntry)
    → places_text rate event
    ≡ labels_line (place_text rate event.source_first) (place_text rate event.source_end)
    (place_text rate event.record_first) (place_text rate (record_end rate event))
unfolding places_text
places_line rate event = simp append_assoc

pub event_read : LabelsAreReadBack → (rate : Rate) (event : OutEntry) → CanBeReadBack rate event
    → event_of rate (written_line rate event) ≡ Ok (line_event rate event)
unfolding written_line written_fields
event_read back rate event h =
    let day = day_above_zero rate in
    let a = place_word back rate event.source_first day (omega (arith, h.source, h.source_end)) in
    let b = place_word back rate event.source_end day h.source_end in
    let c = place_word back rate event.record_first day (omega (arith, h.record_first)) in
    let d = place_word back rate (record_end rate event) day (omega (arith, record_end-lt rate event)) in
    let fields = ap (λ (l : List ℕ). fields_of (edit_text event ++ l)) (places_line rate event)
    ∙ fields_back event _ _ _ _ h.number h.reel h.channels h.edit a b c d in
    ap (event_of_fields rate) fields
    ∙ event_words rate event event.duration _ _ _ _ (places_back rate event) refl h.number
    (edit_back event.kind event.duration h.edit) (places_read back rate event h)
