-- A written list, read back.
use Rattle.std.proofs.Common.{◌≡◌, ℕ, suc, ◌+◌, ◌-◌, ◌<◌, ◌≤◌, Bool, true, false, not, ◌&&◌, cond, nat_le, List, []}
use Rattle.std.proofs.Common.{◌∷◌, ◌++◌, length, take, replicate, Option, Some, None, Ok, refl, sym, ap, ◌∙◌, arith}
use Rattle.std.specs.Prelude.{◌==◌, ◌≢◌, slice_index, All, codes, if◌then◌else◌, map}
use Rattle.std.specs.List.{flat_map, prefix_len}
use Rattle.std.proofs.lemmas.Bool.{and_parts, leb-true}
use Rattle.std.proofs.lemmas.Bool.Decides.{nat_tests}
use Rattle.std.proofs.lemmas.List.{append_assoc, append-nil}
use Rattle.std.proofs.lemmas.List.Sums.{sum_by-cons}
use Rattle.std.proofs.lemmas.List.Elements.{All-append, All-cons, All-head, All-nil, All-replicate, All-tail}
use Rattle.std.proofs.lemmas.List.Elements.{All-weaker}
use Rattle.std.specs.Char.{is_ascii_digit}
use Rattle.timecode.specs.declared.rates.Rate.{Rate}
use Rattle.timecode.specs.declared.rates.Rate.TheVariants.{F24, F25, F30, Df30}
use Rattle.timecode.specs.Counting.{day_length}
use Rattle.timecode.specs.Decimal.{in_digits}
use Rattle.edl.specs.Limits.{most_events}
use Rattle.edl.specs.Text.{lines_of, after_blanks, begins_event, is_blank, line_text, line_texts}
use Rattle.edl.specs.Meaning.{Nothing, Titled, Moded, Edited, Noted, meaning_of, mode_of, rest_after}
use Rattle.edl.specs.Written.{OutEntry, duration_text, edit_text, event_text, line_of, list_text, mode_text}
use Rattle.edl.specs.Written.{number_text, padded, place_text, places_text, three_digits}
use Rattle.edl.specs.ReadBack.{CanBeReadBack, IsGraphic, IsPlain, IsPrintable, IsStarNote, IsWrittenEdit, Cut, Dissolve}
use Rattle.edl.specs.ReadBack.{Wipe}
use Rattle.std.proofs.Common.{add-zero}
use Rattle.std.specs.Option.{option_or}
use Rattle.edl.specs.Entry.{EventEntry}
use Rattle.edl.specs.Notes.{entry_of, is_mismatched, is_zero, note_in, notes_until_event, source_duration}
use Rattle.edl.specs.Faults.{counted_in, event_fault, first_fault_from}
use Rattle.edl.specs.ListOf.{IsListOf, events_from, last_title}
use Rattle.edl.specs.ReadBack.{all_read_back, nonzero_count, read_back}
use Rattle.edl.proofs.NotesLemmas.{notes-event, notes-nil, notes-other}
use Rattle.edl.proofs.ProgressLemmas.{counted-step, events-nil, events-step, faults-nil, faults-step, title-nil}
use Rattle.edl.proofs.ProgressLemmas.{title-step}
use Rattle.edl.proofs.TextLemmas.{after_blanks-blank, after_blanks-clear, line_texts-nil}
use Rattle.edl.proofs.MeaningLemmas.{meaning_of-is}
use Rattle.edl.proofs.WrittenLines.{by_last, line_text-plain, raw_lines-line, utf8-printable}
use Rattle.edl.proofs.WrittenFields.{IsLabelWord, behind_number, labels_line, number_in_front, number_word}
use Rattle.edl.proofs.WrittenFields.{three_graphic}
use Rattle.edl.proofs.WrittenEvents.{LabelsAreReadBack, day_above_zero, event_read, line_event, place_word, places_line}
use Rattle.edl.proofs.WrittenEvents.{record_end, record_end-lt, written_line}

-- ---- printable bytes

graphic_printable : (xs : List ℕ) → All IsGraphic xs → All IsPrintable xs
graphic_printable xs h =
    All-weaker IsGraphic IsPrintable (λ b g. record { low = omega (arith, g.low); high = g.high }) xs h

abbrev all_printable : List ℕ → Bool
all_printable [] = true
all_printable (b ∷ bs) = (nat_le 32 b && nat_le b 126) && all_printable bs

-- a test of each byte, which computes
printable_test : (bs : List ℕ) → all_printable bs ≡ true → All IsPrintable bs
printable_test [] h = All-nil IsPrintable
printable_test (b ∷ bs) h =
    let p = and_parts (nat_le 32 b && nat_le b 126) (all_printable bs) h in
    let q = and_parts (nat_le 32 b) (nat_le b 126) p.0 in
    All-cons IsPrintable b bs (record { low = leb-true 32 b q.0; high = leb-true b 126 q.1 }) (printable_test bs p.1)

blank_printable : IsPrintable 32
blank_printable = record { low = omega arith; high = omega arith }

with_blank : (xs : List ℕ) → All IsPrintable xs → All IsPrintable (32 ∷ xs)
with_blank xs h = All-cons IsPrintable 32 xs blank_printable h

both : (xs ys : List ℕ) → All IsPrintable xs → All IsPrintable ys → All IsPrintable (xs ++ ys)
both xs ys h g = All-append IsPrintable xs ys h g

padded_printable : (width : ℕ) (text : List ℕ) → All IsGraphic text → All IsPrintable (padded width text)
padded_printable width text h =
    both text (replicate (width - length text) 32) (graphic_printable text h)
    (All-replicate IsPrintable (width - length text) 32 blank_printable)

duration_printable : (kind : List ℕ) (duration : Option ℕ) → IsWrittenEdit kind duration
    → All IsPrintable (duration_text duration)
duration_printable kind duration Cut = printable_test (codes "   ") refl
duration_printable kind duration (Dissolve frames h) = graphic_printable (three_digits frames) (three_graphic frames h)
duration_printable kind duration (Wipe number frames g h) =
    graphic_printable (three_digits frames) (three_graphic frames h)

kind_graphic : (kind : List ℕ) (duration : Option ℕ) → IsWrittenEdit kind duration → All IsPrintable kind
kind_graphic kind duration Cut = printable_test (67 ∷ []) refl
kind_graphic kind duration (Dissolve frames h) = printable_test (68 ∷ []) refl
kind_graphic kind duration (Wipe number frames g h) =
    All-cons IsPrintable 87 (three_digits number) (record { low = omega arith; high = omega arith })
    (graphic_printable (three_digits number) (three_graphic number g))

number_printable : (n : ℕ) → All IsGraphic (in_digits 3 n) → All IsPrintable (number_text n)
unfolding number_text
number_printable n h = padded_printable 5 (in_digits 3 n) h

edit_printable : (rate : Rate) (event : OutEntry) → CanBeReadBack rate event → All IsPrintable (edit_text event)
unfolding edit_text
edit_printable rate event h =
    let kind =
    both event.kind (replicate (4 - length event.kind) 32) (kind_graphic event.kind event.duration h.edit)
    (All-replicate IsPrintable (4 - length event.kind) 32 blank_printable) in
    let one = printable_test (codes " ") refl in
    both _ (duration_text event.duration)
    (both _ (codes " ")
    (both _ (padded 4 event.kind)
    (both _ (codes " ") (both _ (padded 5 event.channels) (both _ (codes " ") (both _ (padded 8 event.reel)
    (number_printable event.number (number_word event.number h.number).graphic)
    (padded_printable 8 event.reel h.reel.graphic)) one) (padded_printable 5 event.channels h.channels.graphic)) one)
    kind) one)
    (duration_printable event.kind event.duration h.edit)

labels_printable : (a b c d : List ℕ) → IsLabelWord a → IsLabelWord b → IsLabelWord c → IsLabelWord d
    → All IsPrintable (labels_line a b c d)
labels_printable a b c d ha hb hc hd =
    with_blank _ (both a _ (graphic_printable a ha.graphic) (with_blank _ (both b _ (graphic_printable b hb.graphic)
    (with_blank _ (both c _ (graphic_printable c hc.graphic) (with_blank d (graphic_printable d hd.graphic)))))))

-- the four labels of a written event
record AreWords (rate : Rate) (event : OutEntry) : Type 0 where
  first : IsLabelWord (place_text rate event.source_first)
  second : IsLabelWord (place_text rate event.source_end)
  third : IsLabelWord (place_text rate event.record_first)
  fourth : IsLabelWord (place_text rate (record_end rate event))

label_words : LabelsAreReadBack → (rate : Rate) (event : OutEntry) → CanBeReadBack rate event → AreWords rate event
label_words back rate event h =
    let day = day_above_zero rate in record {
      first = place_word back rate event.source_first day (omega (arith, h.source, h.source_end));
      second = place_word back rate event.source_end day h.source_end;
      third = place_word back rate event.record_first day (omega (arith, h.record_first));
      fourth = place_word back rate (record_end rate event) day (omega (arith, record_end-lt rate event));
    }

line_printable : LabelsAreReadBack → (rate : Rate) (event : OutEntry) → CanBeReadBack rate event
    → All IsPrintable (written_line rate event)
unfolding written_line
line_printable back rate event h =
    let w = label_words back rate event h in
    rw places_line
    (both (edit_text event) _ (edit_printable rate event h)
    (labels_printable _ _ _ _ w.first w.second w.third w.fourth))

-- ---- lines that nothing is taken off

graphic_end : (x : ℕ) → IsGraphic x → (is_blank x ≡ false) × ((13 == x) ≡ false)
graphic_end x g = let low = g.low in (grind (arith, nat_tests), grind (arith, nat_tests))

digit_shows : (b : ℕ) → is_ascii_digit b ≡ true → is_blank b ≡ false
digit_shows b h = grind (arith, nat_tests)

first_in_front : (front rest : List ℕ) → 0 < length front → slice_index (front ++ rest) 0 ≡ slice_index front 0
first_in_front [] rest some = absurd (omega arith)
first_in_front (b ∷ bs) rest some = refl

-- the line begins with its number
line_begins : (rate : Rate) (event : OutEntry) → CanBeReadBack rate event
    → begins_event (written_line rate event) ≡ true
unfolding written_line
line_begins rate event h =
    let word = number_word event.number h.number in
    let labels : List ℕ = places_text rate event in
    ap (λ (l : List ℕ). begins_event l) (number_in_front event labels)
    ∙ ap is_ascii_digit (first_in_front (in_digits 3 event.number) (behind_number event labels) word.some) ∙ word.first

-- a line that ends with a word
ends_with_word : (front word : List ℕ) → IsLabelWord word → is_blank (slice_index (front ++ word) 0) ≡ false
    → line_text (front ++ word) ≡ front ++ word
ends_with_word front word h first =
    let n : ℕ = length word - 1 in
    let e = by_last word h.some in
    let x : ℕ = slice_index word n in
    let graphic : IsGraphic x = h.graphic n 0 (omega (arith, h.some)) in
    let g = graphic_end x graphic in
    line_text-plain (front ++ take n word) x (front ++ word)
    (ap (λ (l : List ℕ). front ++ l) e ∙ sym (append_assoc front (take n word) (x ∷ []))) first g.0 g.1

line_front : (rate : Rate) (event : OutEntry) → written_line rate event
    ≡ (edit_text event
    ++ (32
    ∷ (place_text rate event.source_first
    ++ 32 ∷ (place_text rate event.source_end ++ 32 ∷ (place_text rate event.record_first ++ 32 ∷ [])))))
    ++ place_text rate (record_end rate event)
unfolding written_line
line_front rate event = ap (λ (l : List ℕ). edit_text event ++ l) (places_line rate event) ∙ simp append_assoc

line_kept : LabelsAreReadBack → (rate : Rate) (event : OutEntry) → CanBeReadBack rate event
    → line_text (written_line rate event) ≡ written_line rate event
line_kept back rate event h =
    let w = label_words back rate event h in
    let front : List ℕ =
    edit_text event
    ++ (32
    ∷ (place_text rate event.source_first
    ++ 32 ∷ (place_text rate event.source_end ++ 32 ∷ (place_text rate event.record_first ++ 32 ∷ [])))) in
    let e : written_line rate event ≡ front ++ place_text rate (record_end rate event) = line_front rate event in
    let first : is_blank (slice_index (front ++ place_text rate (record_end rate event)) 0) ≡ false =
    ap (λ (l : List ℕ). is_blank (slice_index l 0)) (sym e)
    ∙ digit_shows (slice_index (written_line rate event) 0) (line_begins rate event h) in
    ap line_text e ∙ ends_with_word front (place_text rate (record_end rate event)) w.fourth first ∙ sym e

not_blank : (x : ℕ) → IsPrintable x → x ≢ 32 → is_blank x ≡ false
not_blank x p ne = let low = p.low in grind (arith, nat_tests)

not_cr : (x : ℕ) → IsPrintable x → (13 == x) ≡ false
not_cr x p = let low = p.low in grind (arith, nat_tests)

-- a text that is plain
plain_kept : (most : ℕ) (text : List ℕ) → IsPlain most text → line_text text ≡ text
plain_kept most text h =
    let n : ℕ = length text - 1 in
    let x : ℕ = slice_index text n in
    let p : IsPrintable x = h.printable n 0 (omega (arith, h.some)) in
    let q : IsPrintable (slice_index text 0) = h.printable 0 0 h.some in
    line_text-plain (take n text) x text (by_last text h.some) (not_blank (slice_index text 0) q h.first)
    (not_blank x p h.last) (not_cr x p)

-- ---- meanings

no_title : (line : List ℕ) → 0 < length line → (84 == slice_index line 0) ≡ false
    → rest_after (codes "TITLE:") line ≡ None
no_title [] some h = absurd (omega arith)
no_title (b ∷ bs) some h = rw h refl

no_mode : (line : List ℕ) → 0 < length line → (70 == slice_index line 0) ≡ false → mode_of line ≡ None
no_mode [] some h = absurd (omega arith)
no_mode (b ∷ bs) some h = rw h refl

not_empty : (line : List ℕ) → 0 < length line → (length line == 0) ≡ false
not_empty line h = grind (arith, nat_tests)

some_first : (line : List ℕ) → begins_event line ≡ true → 0 < length line
some_first [] h = cc h
some_first (b ∷ bs) h = omega arith

not_t : (b : ℕ) → is_ascii_digit b ≡ true → (84 == b) ≡ false
not_t b h = grind (arith, nat_tests)

-- the line of an event
event_meaning : LabelsAreReadBack → (rate : Rate) (event : OutEntry) → CanBeReadBack rate event
    → meaning_of rate (written_line rate event) ≡ Ok (Edited (line_event rate event))
event_meaning back rate event h =
    let line : List ℕ = written_line rate event in
    let begins : begins_event line ≡ true = line_begins rate event h in
    let some : 0 < length line = some_first line begins in
    let title = no_title line some (not_t (slice_index line 0) begins) in
    meaning_of-is rate line
    ∙ rw (
      utf8-printable line (line_printable back rate event h),
      not_empty line some,
      title,
      begins,
      event_read back
          rate event h,
    ) refl

-- the line of a note
note_meaning : (rate : Rate) (note : List ℕ) → IsStarNote note → meaning_of rate note ≡ Ok (Noted note)
note_meaning rate note h =
    let some = h.plain.some in
    let begins : begins_event note ≡ false = rw h.star refl in
    let title = no_title note some (rw h.star refl) in
    let mode = no_mode note some (rw h.star refl) in
    meaning_of-is rate note ∙ rw (utf8-printable note h.plain.printable, not_empty note some, title, begins, mode) refl

note_begins : (note : List ℕ) → IsStarNote note → begins_event note ≡ false
note_begins note h = rw h.star refl

-- the head's lines
unfoldable pub title_line : List ℕ → List ℕ
title_line title = codes "TITLE: " ++ title

title_printable : (title : List ℕ) → IsPlain 60 title → All IsPrintable (title_line title)
unfolding title_line
title_printable title h = both (codes "TITLE: ") title (printable_test (codes "TITLE: ") refl) h.printable

title_kept : (title : List ℕ) → IsPlain 60 title → line_text (title_line title) ≡ title_line title
unfolding title_line
title_kept title h =
    let n : ℕ = length title - 1 in
    let x : ℕ = slice_index title n in
    let p : IsPrintable x = h.printable n 0 (omega (arith, h.some)) in
    line_text-plain (codes "TITLE: " ++ take n title) x (codes "TITLE: " ++ title)
    (ap (λ (l : List ℕ). codes "TITLE: " ++ l) (by_last title h.some)) refl (not_blank x p h.last) (not_cr x p)

clear_title : (title : List ℕ) → IsPlain 60 title → after_blanks (32 ∷ title) ≡ title
clear_title title h =
    let q : IsPrintable (slice_index title 0) = h.printable 0 0 h.some in
    after_blanks-blank 32 title refl
    ∙ after_blanks-clear title (unblank title h.some (not_blank (slice_index title 0) q h.first))
  where
    unblank : (l : List ℕ) → 0 < length l → is_blank (slice_index l 0) ≡ false → prefix_len is_blank l ≡ 0
    unblank [] some e = refl
    unblank (b ∷ bs) some e = rw e refl

title_meaning : (rate : Rate) (title : List ℕ) → IsPlain 60 title
    → meaning_of rate (title_line title) ≡ Ok (Titled title)
unfolding title_line
title_meaning rate title h =
    meaning_of-is rate (codes "TITLE: " ++ title)
    ∙ rw (
      utf8-printable (codes "TITLE: " ++ title) (title_printable title h),
      not_empty (codes "TITLE: " ++ title)
          (omega arith),
    ) (ap (λ (t : List ℕ). Ok (Titled t)) (clear_title title h))

mode_printable : (rate : Rate) → All IsPrintable (mode_text rate)
mode_printable F24 = printable_test (mode_text F24) refl
mode_printable F25 = printable_test (mode_text F25) refl
mode_printable F30 = printable_test (mode_text F30) refl
mode_printable Df30 = printable_test (mode_text Df30) refl

mode_kept : (rate : Rate) → line_text (mode_text rate) ≡ mode_text rate
unfolding line_text
mode_kept F24 = refl
mode_kept F25 = refl
mode_kept F30 = refl
mode_kept Df30 = refl

mode_meaning : (rate : Rate) → meaning_of rate (mode_text rate) ≡ Ok Moded
mode_meaning F24 = meaning_of-is F24 (mode_text F24) ∙ rw (utf8-printable (mode_text F24) (mode_printable F24)) refl
mode_meaning F25 = meaning_of-is F25 (mode_text F25) ∙ rw (utf8-printable (mode_text F25) (mode_printable F25)) refl
mode_meaning F30 = meaning_of-is F30 (mode_text F30) ∙ rw (utf8-printable (mode_text F30) (mode_printable F30)) refl
mode_meaning Df30 =
    meaning_of-is Df30 (mode_text Df30) ∙ rw (utf8-printable (mode_text Df30) (mode_printable Df30)) refl

empty_kept : line_text [] ≡ []
unfolding line_text
empty_kept = refl

empty_meaning : (rate : Rate) → meaning_of rate [] ≡ Ok Nothing
empty_meaning rate = meaning_of-is rate [] ∙ rw (utf8-printable [] (All-nil IsPrintable)) refl

-- ---- the lines of the text

one_written : (l rest : List ℕ) → All IsPrintable l → line_text l ≡ l
    → line_texts (line_of l ++ rest) ≡ l ∷ line_texts rest
one_written l rest h kept =
    ap line_texts (append_assoc l (10 ∷ []) rest)
    ∙ ap (λ (lines : List (List ℕ)). map line_text lines) (raw_lines-line l rest h)
    ∙ ap (λ (t : List ℕ). t ∷ line_texts rest) kept

notes_written : (notes : List (List ℕ)) (rest : List ℕ) → All IsStarNote notes
    → line_texts (flat_map line_of notes ++ rest) ≡ notes ++ line_texts rest
notes_written [] rest h = refl
notes_written (note ∷ notes) rest h =
    let star = All-head IsStarNote note notes h in
    ap line_texts (append_assoc (line_of note) (flat_map line_of notes) rest)
    ∙ one_written note (flat_map line_of notes ++ rest) star.plain.printable (plain_kept 80 note star.plain)
    ∙ ap (λ (more : List (List ℕ)). note ∷ more) (notes_written notes rest (All-tail IsStarNote note notes h))

-- what the lines of the events say
unfoldable pub event_lines : Rate → List OutEntry → List (List ℕ)
event_lines rate [] = []
event_lines rate (event ∷ events) = written_line rate event ∷ (event.notes ++ event_lines rate events)

event_texts : (rate : Rate) (event : OutEntry) (rest : List ℕ)
    → event_text rate event ++ rest ≡ line_of (written_line rate event) ++ (flat_map line_of event.notes ++ rest)
unfolding event_text written_line
event_texts rate event rest =
    append_assoc (line_of (edit_text event ++ places_text rate event)) (flat_map line_of event.notes) rest

events_written : LabelsAreReadBack → (rate : Rate) (events : List OutEntry) → All (CanBeReadBack rate) events
    → line_texts (flat_map (event_text rate) events) ≡ event_lines rate events
unfolding event_lines
events_written back rate [] h = line_texts-nil
events_written back rate (event ∷ events) h =
    let one = All-head (CanBeReadBack rate) event events h in
    let rest : List ℕ = flat_map (event_text rate) events in
    ap line_texts (event_texts rate event rest)
    ∙ one_written (written_line rate event) (flat_map line_of event.notes ++ rest) (line_printable back rate event one)
    (line_kept back rate event one)
    ∙ ap (λ (more : List (List ℕ)). written_line rate event ∷ more) (notes_written event.notes rest one.notes
    ∙ ap (λ (more : List (List ℕ)). event.notes ++ more)
    (events_written back rate events (All-tail (CanBeReadBack rate) event events h)))

list_lines : LabelsAreReadBack → (rate : Rate) (title : List ℕ) (events : List OutEntry) → IsPlain 60 title
    → All (CanBeReadBack rate) events
    → lines_of (list_text title rate events) ≡ title_line title ∷ mode_text rate ∷ [] ∷ event_lines rate events
unfolding list_text title_line
list_lines back rate title events h g =
    let rest : List ℕ = flat_map (event_text rate) events in
    ap line_texts
    (append_assoc (line_of (codes "TITLE: " ++ title) ++ line_of (mode_text rate)) (line_of []) rest
    ∙ append_assoc (line_of (codes "TITLE: " ++ title)) (line_of (mode_text rate)) (line_of [] ++ rest))
    ∙ one_written (codes "TITLE: " ++ title) (line_of (mode_text rate) ++ (line_of [] ++ rest))
    (title_printable title h) (title_kept title h)
    ∙ ap (λ (more : List (List ℕ)). (codes "TITLE: " ++ title) ∷ more)
    (one_written (mode_text rate) (line_of [] ++ rest) (mode_printable rate) (mode_kept rate)
    ∙ ap (λ (more : List (List ℕ)). mode_text rate ∷ more) (one_written [] rest (All-nil IsPrintable) empty_kept
    ∙ ap (λ (more : List (List ℕ)). [] ∷ more) (events_written back rate events g)))

-- ---- what the lines say together

event_note : (rate : Rate) (note : List ℕ) → IsStarNote note → note_in (meaning_of rate note) ≡ Some note
event_note rate note h = rw (note_meaning rate note h) refl

notes_of_notes : (rate : Rate) (notes lines : List (List ℕ)) → All IsStarNote notes
    → notes_until_event rate (notes ++ lines) ≡ notes ++ notes_until_event rate lines
notes_of_notes rate [] lines h = refl
notes_of_notes rate (note ∷ notes) lines h =
    let star = All-head IsStarNote note notes h in
    notes-other rate note (notes ++ lines) (note_begins note star)
    ∙ rw (event_note rate note star)
    (ap (λ (more : List (List ℕ)). note ∷ more)
    (notes_of_notes rate notes lines (All-tail IsStarNote note notes h)))

notes_of_events : (rate : Rate) (events : List OutEntry) → All (CanBeReadBack rate) events
    → notes_until_event rate (event_lines rate events) ≡ []
unfolding event_lines
notes_of_events rate [] h = notes-nil rate
notes_of_events rate (event ∷ events) h =
    notes-event rate (written_line rate event) (event.notes ++ event_lines rate events)
    (line_begins rate event (All-head (CanBeReadBack rate) event events h))

option_or-none : {X : Type 0} (o : Option X) → option_or o None ≡ o
option_or-none None = refl
option_or-none (Some x) = refl

title_of_notes : (rate : Rate) (notes lines : List (List ℕ)) → All IsStarNote notes
    → last_title rate (notes ++ lines) ≡ last_title rate lines
title_of_notes rate [] lines h = refl
title_of_notes rate (note ∷ notes) lines h =
    let star = All-head IsStarNote note notes h in
    title-step rate (notes ++ lines) note
    ∙ rw (note_meaning rate note star) (option_or-none (last_title rate (notes ++ lines)))
    ∙ title_of_notes rate notes lines (All-tail IsStarNote note notes h)

title_of_events : LabelsAreReadBack → (rate : Rate) (events : List OutEntry) → All (CanBeReadBack rate) events
    → last_title rate (event_lines rate events) ≡ None
unfolding event_lines
title_of_events back rate [] h = title-nil rate
title_of_events back rate (event ∷ events) h =
    let one = All-head (CanBeReadBack rate) event events h in
    title-step rate (event.notes ++ event_lines rate events) (written_line rate event)
    ∙ rw (event_meaning back rate event one) (option_or-none (last_title rate (event.notes ++ event_lines rate events)))
    ∙ title_of_notes rate event.notes (event_lines rate events) one.notes
    ∙ title_of_events back rate events (All-tail (CanBeReadBack rate) event events h)

events_of_notes : (rate : Rate) (n : ℕ) (notes lines : List (List ℕ)) → All IsStarNote notes
    → events_from rate n (notes ++ lines) ≡ events_from rate (n + length notes) lines
events_of_notes rate n [] lines h = rw add-zero refl
events_of_notes rate n (note ∷ notes) lines h =
    let star = All-head IsStarNote note notes h in
    let sum : n + 1 + length notes ≡ n + suc (length notes) = omega arith in
    events-step rate n (notes ++ lines) note
    ∙ rw (note_meaning rate note star) (events_of_notes rate (n + 1) notes lines (All-tail IsStarNote note notes h))
    ∙ ap (λ (m : ℕ). events_from rate m lines) sum

-- the source of a written event is as long as its record
same_duration : (rate : Rate) (event : OutEntry) → CanBeReadBack rate event
    → source_duration (line_event rate event) ≡ event.length
same_duration rate event h =
    duration_back (day_length rate) event.source_first event.source_end event.length h.source h.source_end h.length
  where
    duration_back : (day first end len : ℕ) → first + len ≡ end → end ≤ day → len < day
        → (if first == day then 0 else end) - (if first == day then 0 else first) ≡ len
    duration_back day first end len sum le short = grind (arith, nat_tests)

not_mismatched : (rate : Rate) (event : OutEntry) → CanBeReadBack rate event
    → is_mismatched (line_event rate event) ≡ false
not_mismatched rate event h =
    let same = same_duration rate event h in
    rw same (grind (arith, nat_tests))

zero_is : (rate : Rate) (event : OutEntry) → CanBeReadBack rate event
    → is_zero (line_event rate event) ≡ (event.length == 0)
zero_is rate event h =
    let same = same_duration rate event h in
    rw same (twice (event.length == 0))
  where
    twice : (b : Bool) → (b && b) ≡ b
    twice true = refl
    twice false = refl

entry_back : (rate : Rate) (n : ℕ) (event : OutEntry) → CanBeReadBack rate event
    → entry_of n (line_event rate event) event.notes ≡ read_back rate n event
entry_back rate n event h = rw (not_mismatched rate event h, same_duration rate event h) refl

events_of_events : LabelsAreReadBack → (rate : Rate) (n : ℕ) (events : List OutEntry) → All (CanBeReadBack rate) events
    → events_from rate n (event_lines rate events) ≡ all_read_back rate n events
unfolding event_lines all_read_back
events_of_events back rate n [] h = events-nil rate n
events_of_events back rate n (event ∷ events) h =
    let one = All-head (CanBeReadBack rate) event events h in
    let others = All-tail (CanBeReadBack rate) event events h in
    let lines : List (List ℕ) = event.notes ++ event_lines rate events in
    let notes : notes_until_event rate lines ≡ event.notes =
    notes_of_notes rate event.notes (event_lines rate events) one.notes
    ∙ ap (λ (more : List (List ℕ)). event.notes ++ more) (notes_of_events rate events others)
    ∙ append-nil event.notes in
    events-step rate n lines (written_line rate event)
    ∙ rw (event_meaning back rate event one, notes, entry_back rate n event one)
    (ap (λ (more : List EventEntry). read_back rate n event ∷ more)
    (events_of_notes rate (n + 1) event.notes (event_lines rate events) one.notes
    ∙ events_of_events back rate (n + 1 + length event.notes) events others))

-- ---- no fault

counted_notes : (rate : Rate) (before notes : List (List ℕ)) → All IsStarNote notes
    → counted_in rate (before ++ notes) ≡ counted_in rate before
counted_notes rate before [] h = ap (counted_in rate) (append-nil before)
counted_notes rate before (note ∷ notes) h =
    let star = All-head IsStarNote note notes h in
    let one : counted_in rate (before ++ note ∷ []) ≡ counted_in rate before =
    counted-step rate before note ∙ rw (note_meaning rate note star) (add-zero (counted_in rate before)) in
    ap (counted_in rate) (sym (append_assoc before (note ∷ []) notes))
    ∙ counted_notes rate (before ++ note ∷ []) notes (All-tail IsStarNote note notes h) ∙ one

faults_of_notes : (rate : Rate) (ignore : Bool) (before notes lines : List (List ℕ)) → All IsStarNote notes
    → first_fault_from rate ignore before (notes ++ lines) ≡ first_fault_from rate ignore (before ++ notes) lines
faults_of_notes rate ignore before [] lines h =
    ap (λ (b : List (List ℕ)). first_fault_from rate ignore b lines) (sym (append-nil before))
faults_of_notes rate ignore before (note ∷ notes) lines h =
    let star = All-head IsStarNote note notes h in
    faults-step rate ignore before (notes ++ lines) note
    ∙ rw (note_meaning rate note star)
    (faults_of_notes rate ignore (before ++ note ∷ []) notes lines (All-tail IsStarNote note notes h))
    ∙ ap (λ (b : List (List ℕ)). first_fault_from rate ignore b lines) (append_assoc before (note ∷ []) notes)

-- an event that matches and isn't one too many has no fault
no_fault : (rate : Rate) (ignore : Bool) (counted : ℕ) (event : OutEntry) (notes : List (List ℕ))
    → CanBeReadBack rate event
    → counted + cond (not (event.length == 0)) 1 0 ≤ most_events
    → event_fault ignore counted (line_event rate event) notes ≡ None
no_fault rate ignore counted event notes h le =
    let zero_test : is_zero (line_event rate event) ≡ (event.length == 0) = zero_is rate event h in
    let few : (not (event.length == 0) && nat_le most_events counted) ≡ false = room (event.length == 0) counted le in
    rw (not_mismatched rate event h, zero_test, few) refl
  where
    room : (zero : Bool) (counted : ℕ) → counted + cond (not zero) 1 0 ≤ most_events
        → (not zero && nat_le most_events counted) ≡ false
    room true counted le = refl
    room false counted le = grind (arith, nat_tests)

faults_of_events : LabelsAreReadBack → (rate : Rate) (ignore : Bool) (before : List (List ℕ)) (events : List OutEntry)
    → All (CanBeReadBack rate) events
    → counted_in rate before + nonzero_count events ≤ most_events
    → first_fault_from rate ignore before (event_lines rate events) ≡ None
unfolding event_lines
faults_of_events back rate ignore before [] h le = faults-nil rate ignore before
faults_of_events back rate ignore before (event ∷ events) h le =
    let one = All-head (CanBeReadBack rate) event events h in
    let others = All-tail (CanBeReadBack rate) event events h in
    let lines : List (List ℕ) = event.notes ++ event_lines rate events in
    let line : List ℕ = written_line rate event in
    let mine : ℕ = cond (not (event.length == 0)) 1 0 in
    let split : nonzero_count (event ∷ events) ≡ mine + nonzero_count events =
    sum_by-cons (λ (e : OutEntry). cond (not (e.length == 0)) 1 0) event events in
    let clear =
    no_fault rate ignore (counted_in rate before) event (notes_until_event rate lines) one
    (omega (arith, split, le)) in
    let now : counted_in rate (before ++ line ∷ []) ≡ counted_in rate before + mine =
    counted-step rate before line ∙ rw (event_meaning back rate event one, zero_is rate event one) refl in
    let after : counted_in rate ((before ++ line ∷ []) ++ event.notes) ≡ counted_in rate before + mine =
    counted_notes rate (before ++ line ∷ []) event.notes one.notes ∙ now in
    faults-step rate ignore before lines line ∙ rw (event_meaning back rate event one, clear)
    (faults_of_notes rate ignore (before ++ line ∷ []) event.notes (event_lines rate events) one.notes
    ∙ faults_of_events back rate ignore ((before ++ line ∷ []) ++ event.notes) events others
    (omega (arith, split, after, le)))

-- ---- the whole list

-- the lines of a head
head_faults : (rate : Rate) (ignore : Bool) (title : List ℕ) (lines : List (List ℕ)) → IsPlain 60 title
    → first_fault_from rate ignore [] (title_line title ∷ mode_text rate ∷ [] ∷ lines)
    ≡ first_fault_from rate ignore (title_line title ∷ mode_text rate ∷ [] ∷ []) lines
head_faults rate ignore title lines h =
    faults-step rate ignore [] (mode_text rate ∷ [] ∷ lines) (title_line title) ∙ rw (title_meaning rate title h)
    (faults-step rate ignore (title_line title ∷ []) ([] ∷ lines) (mode_text rate) ∙ rw (mode_meaning rate)
    (faults-step rate ignore (title_line title ∷ mode_text rate ∷ []) lines [] ∙ rw (empty_meaning rate) refl))

head_counted : (rate : Rate) (title : List ℕ) → IsPlain 60 title
    → counted_in rate (title_line title ∷ mode_text rate ∷ [] ∷ []) ≡ 0
head_counted rate title h =
    counted-step rate (title_line title ∷ mode_text rate ∷ []) [] ∙ rw (empty_meaning rate, add-zero)
    (counted-step rate (title_line title ∷ []) (mode_text rate) ∙ rw (mode_meaning rate, add-zero)
    (counted-step rate [] (title_line title) ∙ rw (title_meaning rate title h) refl))

head_title : (rate : Rate) (title : List ℕ) (lines : List (List ℕ)) → IsPlain 60 title → last_title rate lines ≡ None
    → last_title rate (title_line title ∷ mode_text rate ∷ [] ∷ lines) ≡ Some title
head_title rate title lines h none =
    let third : last_title rate ([] ∷ lines) ≡ None = title-step rate lines [] ∙ rw (none, empty_meaning rate) refl in
    let second : last_title rate (mode_text rate ∷ [] ∷ lines) ≡ None =
    title-step rate ([] ∷ lines) (mode_text rate) ∙ rw (third, mode_meaning rate) refl in
    title-step rate (mode_text rate ∷ [] ∷ lines) (title_line title) ∙ rw (second, title_meaning rate title h) refl

title_begins : (title : List ℕ) → begins_event (title_line title) ≡ false
unfolding title_line
title_begins title = refl

mode_begins : (rate : Rate) → begins_event (mode_text rate) ≡ false
mode_begins F24 = refl
mode_begins F25 = refl
mode_begins F30 = refl
mode_begins Df30 = refl

head_notes : (rate : Rate) (title : List ℕ) (lines : List (List ℕ)) → IsPlain 60 title
    → notes_until_event rate (title_line title ∷ mode_text rate ∷ [] ∷ lines) ≡ notes_until_event rate lines
head_notes rate title lines h =
    notes-other rate (title_line title) (mode_text rate ∷ [] ∷ lines) (title_begins title)
    ∙ rw (title_meaning rate title h)
    (notes-other rate (mode_text rate) ([] ∷ lines) (mode_begins rate) ∙ rw (mode_meaning rate)
    (notes-other rate [] lines refl ∙ rw (empty_meaning rate) refl))

head_events : (rate : Rate) (title : List ℕ) (lines : List (List ℕ)) → IsPlain 60 title
    → events_from rate 1 (title_line title ∷ mode_text rate ∷ [] ∷ lines) ≡ events_from rate 4 lines
head_events rate title lines h =
    events-step rate 1 (mode_text rate ∷ [] ∷ lines) (title_line title) ∙ rw (title_meaning rate title h)
    (events-step rate 2 ([] ∷ lines) (mode_text rate) ∙ rw (mode_meaning rate)
    (events-step rate 3 lines [] ∙ rw (empty_meaning rate) refl))

-- the list of the written list
pub list_read_back : LabelsAreReadBack → (rate : Rate) (ignore : Bool) (title : List ℕ) (events : List OutEntry)
    → IsPlain 60 title → All (CanBeReadBack rate) events → nonzero_count events ≤ most_events
    → IsListOf rate ignore (list_text title rate events) (Some title) [] (all_read_back rate 4 events)
list_read_back back rate ignore title events h g few =
    let lines = list_lines back rate title events h g in
    let none = head_counted rate title h in
    record {
      no_fault = ap (first_fault_from rate ignore []) lines ∙ head_faults rate ignore title (event_lines rate events) h
          ∙ faults_of_events back rate ignore (title_line title ∷ mode_text rate ∷ [] ∷ []) events g
          (omega (arith, none, few));
      title_is =
          sym
          (ap (last_title rate) lines
          ∙ head_title rate title (event_lines rate events) h (title_of_events back rate events g));
      head_is =
          sym
          (ap (notes_until_event rate) lines ∙ head_notes rate title (event_lines rate events) h
          ∙ notes_of_events rate events g);
      events_are =
          sym
          (ap (events_from rate 1) lines ∙ head_events rate title (event_lines rate events) h
          ∙ events_of_events back rate 4 events g);
    }
