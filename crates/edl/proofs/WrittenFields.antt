-- The fields of an event's line that is written.
use Rattle.std.proofs.Common.{◌≡◌, ℕ, zero, suc, ◌+◌, ◌-◌, ◌/◌, ◌%◌, ◌<◌, ◌≤◌, Bool, true, false, nat_le, List, [], ◌∷◌}
use Rattle.std.proofs.Common.{◌++◌, length, replicate, Option, Some, None, refl, ap, sym, subst, ◌∙◌, arith}
use Rattle.std.specs.Prelude.{All, nat_lt, slice_index}
use Rattle.std.specs.Char.{digit_value, is_ascii_digit}
use Rattle.std.specs.List.{slice_split}
use Rattle.std.specs.Str.Parse.{digits_value}
use Rattle.std.proofs.lemmas.Bool.Decides.{nat_tests}
use Rattle.std.proofs.lemmas.List.{append_assoc}
use Rattle.std.proofs.lemmas.Str.{digit_value-digit_char}
use Rattle.std.proofs.lemmas.List.Elements.{All-weaker, All-nil, All-cons}
use Rattle.std.proofs.lemmas.List.Splits.{slice_split_at, slice_split_none}
use Rattle.timecode.specs.Decimal.{in_digits}
use Rattle.edl.specs.Limits.{highest_event_number}
use Rattle.edl.specs.Text.{fields_of, is_blank}
use Rattle.timecode.specs.Decimal.{is_decimal}
use Rattle.edl.specs.Line.{event_number, edit, edit_of}
use Rattle.edl.specs.Written.{OutEntry, duration_text, edit_text, number_text, three_digits}
use Rattle.edl.specs.ReadBack.{IsGraphic, IsWord, IsWrittenEdit, Cut, Dissolve, Wipe}
use Rattle.edl.proofs.NumberLemmas.{filled_three, filled_four}
use Rattle.edl.proofs.TextLemmas.{fields_of-blank, fields_of-is, fields_of-parts}

not_blank : (b : ℕ) → IsGraphic b → is_blank b ≡ false
not_blank b h = let low = h.low in grind (arith, nat_tests)

-- a word and the fields behind it
field_word : (f rest : List ℕ) → 0 < length f → All IsGraphic f → fields_of (f ++ 32 ∷ rest) ≡ f ∷ fields_of rest
field_word f rest some h =
    fields_of-parts (f ++ 32 ∷ rest) f (slice_split is_blank rest)
    (slice_split_at is_blank f 32 rest (All-weaker IsGraphic (λ b. is_blank b ≡ false) not_blank f h) refl) some
    ∙ ap (λ (more : List (List ℕ)). f ∷ more) (fields_of-is rest)

field_last : (f : List ℕ) → 0 < length f → All IsGraphic f → fields_of f ≡ f ∷ []
field_last f some h =
    fields_of-parts f f [] (slice_split_none is_blank f (All-weaker IsGraphic (λ b. is_blank b ≡ false) not_blank f h))
    some

field_blanks : (n : ℕ) (rest : List ℕ) → fields_of (replicate n 32 ++ rest) ≡ fields_of rest
field_blanks zero rest = refl
field_blanks (suc n) rest = fields_of-blank 32 (replicate n 32 ++ rest) refl ∙ field_blanks n rest

-- a word that is padded
field_padded : (f rest : List ℕ) (n : ℕ) → 0 < length f → All IsGraphic f
    → fields_of (f ++ (replicate n 32 ++ 32 ∷ rest)) ≡ f ∷ fields_of rest
field_padded f rest zero some h = field_word f rest some h
field_padded f rest (suc n) some h =
    field_word f (replicate n 32 ++ 32 ∷ rest) some h
    ∙ ap (λ (more : List (List ℕ)). f ∷ more) (field_blanks n (32 ∷ rest) ∙ fields_of-blank 32 rest refl)

-- a word and blanks behind it
field_apart : (f rest : List ℕ) (n : ℕ) → 0 < n → 0 < length f → All IsGraphic f
    → fields_of (f ++ (replicate n 32 ++ rest)) ≡ f ∷ fields_of rest
field_apart f rest zero behind some h = absurd (omega arith)
field_apart f rest (suc n) behind some h =
    field_word f (replicate n 32 ++ rest) some h ∙ ap (λ (more : List (List ℕ)). f ∷ more) (field_blanks n rest)

-- ---- three digits

digit_graphic : (n : ℕ) → n ≤ 9 → IsGraphic (48 + n)
digit_graphic n h = record { low = omega arith; high = omega arith }

pub three_graphic : (n : ℕ) → n ≤ 999 → All IsGraphic (three_digits n)
unfolding three_digits
three_graphic n h =
    All-cons IsGraphic (48 + n / 100) ((48 + n / 10 % 10) ∷ (48 + n % 10) ∷ []) (digit_graphic (n / 100) (omega arith))
    (All-cons IsGraphic (48 + n / 10 % 10) ((48 + n % 10) ∷ []) (digit_graphic (n / 10 % 10) (omega arith))
    (All-cons IsGraphic (48 + n % 10) [] (digit_graphic (n % 10) (omega arith)) (All-nil IsGraphic)))

length-three : (n : ℕ) → length (three_digits n) ≡ 3
unfolding three_digits
length-three n = refl

digit_is : (n : ℕ) → n ≤ 9 → is_ascii_digit (48 + n) ≡ true
digit_is n h = grind (arith, nat_tests)

three_number : (most n : ℕ) → 3 ≤ most → n ≤ 999 → is_decimal most (three_digits n) ≡ true
unfolding three_digits
three_number most n few h =
    let a = digit_is (n / 100) (omega arith) in
    let b = digit_is (n / 10 % 10) (omega arith) in
    let c = digit_is (n % 10) (omega arith) in
    let m : nat_le 3 most ≡ true = grind (arith, nat_tests) in
    rw (m, a, b, c) refl

digit_read : (n : ℕ) → n ≤ 9 → digit_value (48 + n) ≡ n
digit_read n h =
    let read = digit_value-digit_char n (omega arith) in let below : nat_lt n 10 ≡ true = grind (arith, nat_tests) in
    rw below at read

three_value : (n : ℕ) → n ≤ 999 → digits_value 10 (three_digits n) ≡ n
unfolding three_digits
three_value n h =
    rw (digit_read (n / 100) (omega arith), digit_read (n / 10 % 10) (omega arith), digit_read (n % 10) (omega arith))
    (omega arith)

-- ---- a number

-- the digits of a number that is written
pub record IsNumberWord (n : ℕ) (word : List ℕ) : Type 0 where
  pub some : 0 < length word
  pub few : length word < 5
  pub graphic : All IsGraphic word
  pub first : is_ascii_digit (slice_index word 0) ≡ true
  pub read : event_number word ≡ Some n

three_word : (n : ℕ) → n ≤ 999 → IsNumberWord n (three_digits n)
unfolding three_digits
three_word n h =
    let few : nat_le n highest_event_number ≡ true = grind (arith, nat_tests) in record {
      some = omega arith;
      few = omega arith;
      graphic = three_graphic n h;
      first = digit_is (n / 100) (omega arith);
      read = rw (three_number 6 n (omega arith) h, three_value n h, few) refl;
    }

abbrev four_digits : ℕ → List ℕ
four_digits n = (48 + n / 1000) ∷ three_digits (n % 1000)

four_number : (n : ℕ) → n ≤ 9999 → is_decimal 6 (four_digits n) ≡ true
unfolding three_digits
four_number n h =
    let a = digit_is (n / 1000) (omega arith) in
    let b = digit_is (n % 1000 / 100) (omega arith) in
    let c = digit_is (n % 1000 / 10 % 10) (omega arith) in
    let d = digit_is (n % 1000 % 10) (omega arith) in
    rw (a, b, c, d) refl

four_value : (n : ℕ) → n ≤ 9999 → digits_value 10 (four_digits n) ≡ n
unfolding three_digits
four_value n h =
    rw (
      digit_read (n / 1000) (omega arith),
      digit_read (n % 1000 / 100) (omega arith),
      digit_read (n % 1000 / 10 % 10)
          (omega arith),
      digit_read (n % 1000 % 10) (omega arith),
    )
    (omega arith)

four_word : (n : ℕ) → n ≤ highest_event_number → IsNumberWord n (four_digits n)
unfolding three_digits
four_word n h =
    let le : n ≤ 9999 = h in
    let few : nat_le n highest_event_number ≡ true = grind (arith, nat_tests) in record {
      some = omega arith;
      few = omega arith;
      graphic =
          All-cons IsGraphic (48 + n / 1000) (three_digits (n % 1000)) (digit_graphic (n / 1000) (omega arith))
          (three_graphic (n % 1000) (omega arith));
      first = digit_is (n / 1000) (omega arith);
      read = rw (four_number n le, four_value n le, few) refl;
    }

-- a written number is read back
pub number_word : (n : ℕ) → n ≤ highest_event_number → IsNumberWord n (in_digits 3 n)
number_word n h = by (nat_lt n 1000) refl
  where
    by : (three : Bool) → nat_lt n 1000 ≡ three → IsNumberWord n (in_digits 3 n)
    by true e =
        let lt : n < 1000 = grind (arith, nat_tests) in
        subst (IsNumberWord n) (sym (filled_three n lt)) (three_word n (omega arith))
    by false e =
        let low : 1000 ≤ n = grind (arith, nat_tests) in
        let le : n ≤ 9999 = h in
        subst (IsNumberWord n) (sym (filled_four n low (omega arith))) (four_word n h)

-- ---- the kind and its duration

unfoldable pub duration_words : Option ℕ → List (List ℕ)
duration_words None = []
duration_words (Some frames) = three_digits frames ∷ []

pub edit_back : (kind : List ℕ) (duration : Option ℕ) → IsWrittenEdit kind duration
    → edit_of (kind ∷ duration_words duration) ≡ Some (edit kind duration)
unfolding edit_of duration_words
edit_back kind duration Cut = refl
edit_back kind duration (Dissolve frames h) = rw (three_number 3 frames (omega arith) h, three_value frames h) refl
edit_back kind duration (Wipe number frames g h) =
    rw (three_number 3 number (omega arith) g, three_number 3 frames (omega arith) h, three_value frames h) refl

-- a kind is a word
record IsKindWord (kind : List ℕ) : Type 0 where
  some : 0 < length kind
  graphic : All IsGraphic kind

letter : (b : ℕ) → 33 ≤ b → b ≤ 126 → (rest : List ℕ) → All IsGraphic rest → All IsGraphic (b ∷ rest)
letter b low high rest h = All-cons IsGraphic b rest (record { low = low; high = high }) h

kind_word : (kind : List ℕ) (duration : Option ℕ) → IsWrittenEdit kind duration → IsKindWord kind
kind_word kind duration Cut =
    record { some = omega arith; graphic = letter 67 (omega arith) (omega arith) [] (All-nil IsGraphic) }
kind_word kind duration (Dissolve frames h) =
    record { some = omega arith; graphic = letter 68 (omega arith) (omega arith) [] (All-nil IsGraphic) }
kind_word kind duration (Wipe number frames g h) =
    record {
      some = omega arith;
      graphic =
          letter 87 (omega arith) (omega arith) (three_digits number) (three_graphic number g);
    }

-- ---- the whole line

-- the labels, each behind a blank
abbrev pub labels_line : List ℕ → List ℕ → List ℕ → List ℕ → List ℕ
labels_line a b c d = 32 ∷ (a ++ 32 ∷ (b ++ 32 ∷ (c ++ 32 ∷ d)))

pub record IsLabelWord (text : List ℕ) : Type 0 where
  pub some : 0 < length text
  pub graphic : All IsGraphic text

fields_of_labels : (a b c d : List ℕ) → IsLabelWord a → IsLabelWord b → IsLabelWord c → IsLabelWord d
    → fields_of (a ++ 32 ∷ (b ++ 32 ∷ (c ++ 32 ∷ d))) ≡ a ∷ b ∷ c ∷ d ∷ []
fields_of_labels a b c d ha hb hc hd =
    field_word a _ ha.some ha.graphic
    ∙ ap (λ (more : List (List ℕ)). a ∷ more) (field_word b _ hb.some hb.graphic
    ∙ ap (λ (more : List (List ℕ)). b ∷ more) (field_word c _ hc.some hc.graphic
    ∙ ap (λ (more : List (List ℕ)). c ∷ more) (field_last d hd.some hd.graphic)))

fields_of_duration : (duration : Option ℕ) (rest : List ℕ) (words : List (List ℕ))
    → ((frames : ℕ) → duration ≡ Some frames → frames ≤ 999)
    → fields_of rest ≡ words → fields_of (duration_text duration ++ 32 ∷ rest) ≡ duration_words duration ++ words
unfolding duration_words
fields_of_duration None rest words h e =
    fields_of-blank 32 (32 ∷ 32 ∷ 32 ∷ rest) refl ∙ fields_of-blank 32 (32 ∷ 32 ∷ rest) refl
    ∙ fields_of-blank 32 (32 ∷ rest) refl
    ∙ fields_of-blank 32 rest refl ∙ e
fields_of_duration (Some frames) rest words h e =
    let le = h frames refl in
    field_word (three_digits frames) rest (omega (arith, length-three frames)) (three_graphic frames le)
    ∙ ap (λ (more : List (List ℕ)). three_digits frames ∷ more) e

duration_few : (kind : List ℕ) (duration : Option ℕ) → IsWrittenEdit kind duration → (frames : ℕ)
    → duration ≡ Some frames → frames ≤ 999
duration_few kind duration Cut frames e = cc e
duration_few kind duration (Dissolve n h) frames e = let same : n ≡ frames = cc e in rw (← same) h
duration_few kind duration (Wipe m n g h) frames e = let same : n ≡ frames = cc e in rw (← same) h

-- the fields that were written
unfoldable pub written_fields : OutEntry → List ℕ → List ℕ → List ℕ → List ℕ → List (List ℕ)
written_fields event a b c d =
    in_digits 3 event.number ∷ event.reel ∷ event.channels ∷ event.kind
    ∷ (duration_words event.duration ++ (a ∷ b ∷ c ∷ d ∷ []))

-- what stands behind the digits of the number
abbrev pub behind_number : OutEntry → List ℕ → List ℕ
behind_number event labels =
    replicate (5 - length (in_digits 3 event.number)) 32
    ++ (event.reel
    ++ (replicate (8 - length event.reel) 32 ++ 32 ∷ (event.channels ++ (replicate (5 - length event.channels) 32
    ++ 32 ∷ (event.kind ++ (replicate (4 - length event.kind) 32 ++ 32 ∷ (duration_text event.duration ++ labels)))))))

pub number_in_front : (event : OutEntry) (labels : List ℕ)
    → edit_text event ++ labels ≡ in_digits 3 event.number ++ behind_number event labels
unfolding edit_text number_text
number_in_front event labels = simp append_assoc

pub fields_back : (event : OutEntry) (a b c d : List ℕ) → event.number ≤ highest_event_number → IsWord 8 event.reel
    → IsWord 5 event.channels
    → IsWrittenEdit event.kind event.duration → IsLabelWord a → IsLabelWord b → IsLabelWord c → IsLabelWord d
    → fields_of (edit_text event ++ labels_line a b c d) ≡ written_fields event a b c d
unfolding written_fields
fields_back event a b c d number reel channels kind ha hb hc hd =
    let labels = fields_of_labels a b c d ha hb hc hd in
    let rest : List ℕ = a ++ 32 ∷ (b ++ 32 ∷ (c ++ 32 ∷ d)) in
    let k = kind_word event.kind event.duration kind in
    let dur =
    fields_of_duration event.duration rest (a ∷ b ∷ c ∷ d ∷ []) (duration_few event.kind event.duration kind) labels
    in
    let word = number_word event.number number in
    ap fields_of (number_in_front event (labels_line a b c d))
    ∙ field_apart (in_digits 3 event.number) _ (5 - length (in_digits 3 event.number)) (omega (arith, word.few))
    word.some
    word.graphic
    ∙ ap (λ (more : List (List ℕ)). in_digits 3 event.number ∷ more)
    (field_padded event.reel _ (8 - length event.reel) reel.some reel.graphic
    ∙ ap (λ (more : List (List ℕ)). event.reel ∷ more)
    (field_padded event.channels _ (5 - length event.channels) channels.some channels.graphic
    ∙ ap (λ (more : List (List ℕ)). event.channels ∷ more)
    (field_padded event.kind _ (4 - length event.kind) k.some k.graphic
    ∙ ap (λ (more : List (List ℕ)). event.kind ∷ more) dur)))
