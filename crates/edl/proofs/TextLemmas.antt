-- Blanks, fields and lines.
use Rattle.std.proofs.Common.{◌≡◌, ℕ, zero, suc, ◌+◌, ◌<◌, ◌≤◌, add-one, Bool, true, false, not, cond, List, [], ◌∷◌}
use Rattle.std.proofs.Common.{◌++◌, length, take, drop, set, get_or, length-drop, length-append, unwrap_or, refl, sym}
use Rattle.std.proofs.Common.{ap, ◌∙◌, arith, inl, inr}
use Rattle.std.specs.Prelude.{map, position, ◌==◌}
use Rattle.std.specs.List.{filter, prefix_len, position_or_len, before_first, after_first, slice_split, onto_first}
use Rattle.std.specs.Str.{IsUtf8, IsCharBoundary}
use Rattle.std.proofs.lemmas.Bool.{cases_lt, eqb-true}
use Rattle.std.proofs.lemmas.Bool.Decides.{nat_tests}
use Rattle.std.proofs.lemmas.List.Sums.{prefix_len-le-length, prefix_len_passes, prefix_len_stops, prefix_len-drop_no}
use Rattle.std.proofs.lemmas.List.Sums.{prefix_len-drop_all, passes_at_first, fails_before_first}
use Rattle.std.proofs.lemmas.List.{drop_more, drop_all, take_all, length-take-le, take_more_set, map_push, length-map}
use Rattle.std.proofs.lemmas.List.{append_assoc, append-nil}
use Rattle.std.proofs.lemmas.List.Splits.{slice_split-cons_yes, slice_split_first, slice_split_none}
use Rattle.std.proofs.lemmas.Str.{IsCharBoundary-start, IsCharBoundary-end, IsCharBoundary-before_ascii}
use Rattle.std.proofs.lemmas.Str.{IsCharBoundary-after_ascii}
use Rattle.std.specs.Borrow.{Bor}
use Rattle.edl.specs.Texts.{texts_of}
use Rattle.edl.specs.Text.{is_blank, is_line_end, after_blanks, fields_of, raw_lines, line_text, line_texts}

-- a test that is turned twice
pub prefix_len_twice : (p : ℕ → Bool) (xs : List ℕ) → prefix_len (λ x. not (not (p x))) xs ≡ prefix_len p xs
prefix_len_twice p [] = refl
prefix_len_twice p (x ∷ xs) =
    elim (p x)
    as (λ b. cond (not (not b)) (1 + prefix_len (λ y. not (not (p y))) xs) 0 ≡ cond b (1 + prefix_len p xs) 0) [
      | true ↦ ap (λ n. 1 + n) (prefix_len_twice p xs)
      | false ↦ refl
    ]

-- the first place that passes, or the length
pub unwrap_or-position : (p : ℕ → Bool) (xs : List ℕ) → unwrap_or (position p xs) (length xs) ≡ position_or_len p xs
unwrap_or-position p xs =
    let le = prefix_len-le-length (λ x. not (p x)) xs in
    grind (arith, le)

-- blanks are ASCII
blank_ascii : (byte : ℕ) → is_blank byte ≡ true → byte < 128
blank_ascii byte h = grind arith

-- a text may be cut behind the blanks that it begins with
pub IsCharBoundary-blanks : (bs : List ℕ) → IsUtf8 bs → IsCharBoundary bs (prefix_len is_blank bs)
IsCharBoundary-blanks bs utf8 = at (prefix_len is_blank bs) refl
  where
    at : (n : ℕ) → n ≡ prefix_len is_blank bs → IsCharBoundary bs n
    at zero e = IsCharBoundary-start bs utf8
    at (suc n) e =
        let le = prefix_len-le-length is_blank bs in
        let lt : n < length bs = omega (arith, le) in
        let blank = prefix_len_passes is_blank bs n 0 (omega arith) in
        rw (← add-one) (IsCharBoundary-after_ascii bs n utf8 lt (blank_ascii (get_or bs n 0) blank))

-- and at its first blank
pub IsCharBoundary-first_blank : (bs : List ℕ) → IsUtf8 bs → IsCharBoundary bs (position_or_len is_blank bs)
IsCharBoundary-first_blank bs utf8 =
    let le = prefix_len-le-length (λ x. not (is_blank x)) bs in
    elim (cases_lt (position_or_len is_blank bs) (length bs)) [
      | inl lt ↦ IsCharBoundary-before_ascii bs (position_or_len is_blank bs) lt
          (blank_ascii (get_or bs (position_or_len is_blank bs) 0) (passes_at_first is_blank bs 0 lt))
      | inr ge ↦
          let e : position_or_len is_blank bs ≡ length bs = omega (arith, le) in
          rw e (IsCharBoundary-end bs)
    ]

-- ---- fields

-- a blank in front is no part of a field
pub fields_of-blank : (b : ℕ) (bs : List ℕ) → is_blank b ≡ true → fields_of (b ∷ bs) ≡ fields_of bs
unfolding fields_of
fields_of-blank b bs h = rw (slice_split-cons_yes is_blank b bs h)

pub after_blanks-blank : (b : ℕ) (bs : List ℕ) → is_blank b ≡ true → after_blanks (b ∷ bs) ≡ after_blanks bs
after_blanks-blank b bs h =
    let e : prefix_len is_blank (b ∷ bs) ≡ suc (prefix_len is_blank bs) = rw h (omega arith) in
    rw e refl

pub after_blanks-clear : (bs : List ℕ) → prefix_len is_blank bs ≡ 0 → after_blanks bs ≡ bs
after_blanks-clear bs h = rw h refl

-- so are all blanks in front
pub fields_of-after_blanks : (bs : List ℕ) → fields_of (after_blanks bs) ≡ fields_of bs
fields_of-after_blanks [] = refl
fields_of-after_blanks (b ∷ bs) = at (is_blank b) refl (fields_of-after_blanks bs)
  where
    at : (v : Bool) → is_blank b ≡ v → fields_of (after_blanks bs) ≡ fields_of bs
        → fields_of (after_blanks (b ∷ bs)) ≡ fields_of (b ∷ bs)
    at true h more = ap fields_of (after_blanks-blank b bs h) ∙ more ∙ sym (fields_of-blank b bs h)
    at false h more =
        let e : prefix_len is_blank (b ∷ bs) ≡ 0 = rw h refl in
        ap fields_of (after_blanks-clear (b ∷ bs) e)

-- what is left begins with no blank
pub prefix_len-after_blanks : (bs : List ℕ) → prefix_len is_blank (after_blanks bs) ≡ 0
prefix_len-after_blanks bs =
    let le = prefix_len-le-length is_blank bs in
    elim (cases_lt (prefix_len is_blank bs) (length bs)) [
      | inl lt ↦ prefix_len-drop_no is_blank bs (prefix_len is_blank bs) 0 lt (prefix_len_stops is_blank bs 0 lt)
      | inr ge ↦ prefix_len-drop_all is_blank bs (prefix_len is_blank bs) ge
    ]

-- a text that begins with no blank begins with a field
pub first_blank-above_zero : (bs : List ℕ) → 0 < length bs → prefix_len is_blank bs ≡ 0
    → 0 < position_or_len is_blank bs
first_blank-above_zero [] h clear = absurd (omega arith)
first_blank-above_zero (b ∷ bs) h clear = at (is_blank b) refl
  where
    at : (v : Bool) → is_blank b ≡ v → 0 < position_or_len is_blank (b ∷ bs)
    at true e =
        let one : prefix_len is_blank (b ∷ bs) ≡ 1 + prefix_len is_blank bs = rw e refl in
        absurd (omega arith)
    at false e = rw e (omega arith)

nonempty : (xs : List ℕ) → 0 < length xs → not (length xs == 0) ≡ true
nonempty xs h = grind (arith, nat_tests)

-- a part that isn't empty is a field
pub fields_of-parts : (bs part : List ℕ) (parts : List (List ℕ)) → slice_split is_blank bs ≡ part ∷ parts
    → 0 < length part
    → fields_of bs ≡ part ∷ filter (λ field. not (length field == 0)) parts
unfolding fields_of
fields_of-parts bs [] parts e h = absurd (omega arith)
fields_of-parts bs (x ∷ xs) parts e h = rw e (rw (nonempty (x ∷ xs) h) refl)

pub fields_of-is : (xs : List ℕ) → filter (λ field. not (length field == 0)) (slice_split is_blank xs) ≡ fields_of xs
unfolding fields_of
fields_of-is xs = refl

pub fields_of-nil : fields_of [] ≡ []
unfolding fields_of
fields_of-nil = refl

-- the first field, and the fields behind it
pub fields_of-split : (bs : List ℕ) → 0 < length bs → prefix_len is_blank bs ≡ 0
    → fields_of bs ≡ before_first is_blank bs ∷ fields_of (drop (position_or_len is_blank bs) bs)
fields_of-split bs h clear =
    let n : ℕ = position_or_len is_blank bs in
    let above : 0 < n = first_blank-above_zero bs h clear in
    let le : n ≤ length bs = prefix_len-le-length (λ x. not (is_blank x)) bs in
    let count : 0 < length (before_first is_blank bs) = rw (length-take-le n bs le) above in
    elim (cases_lt n (length bs)) [
      | inl lt ↦
          let parts = slice_split_first is_blank bs 0 lt in
          let rest = fields_of-blank (get_or bs n 0) (after_first is_blank bs) (passes_at_first is_blank bs 0 lt) in
          fields_of-parts bs _ _ parts count
          ∙ ap (λ (more : List (List ℕ)). before_first is_blank bs ∷ more)
          (fields_of-is (after_first is_blank bs) ∙ sym rest ∙ ap fields_of (sym (drop_more bs n 0 lt)))
      | inr ge ↦
          let end : n ≡ length bs = omega (arith, le) in
          let all : before_first is_blank bs ≡ bs = take_all n bs ge in
          let none = drop_all n bs ge in
          let parts =
          slice_split_none is_blank bs (λ k d lt. fails_before_first is_blank bs k d (omega (arith, end))) in
          fields_of-parts bs bs [] parts h ∙ ap (λ (field : List ℕ). field ∷ []) (sym all)
          ∙ ap (λ (more : List (List ℕ)). before_first is_blank bs ∷ more) (sym (ap fields_of none ∙ fields_of-nil))
    ]

-- ---- the loop over the fields

-- how far the fields of a line are taken
pub record FieldsTaken (line : List ℕ) (items : List (Bor (List ℕ))) (count : ℕ) (rest : List ℕ) : Type 0 where
  pub few : count ≤ 10
  pub room : length items ≡ 10
  pub fields : texts_of (take count items) ++ fields_of rest ≡ fields_of line
  pub clear : prefix_len is_blank rest ≡ 0
  pub text : IsUtf8 rest

-- one more field in its place
pub fields_step : (items : List (Bor (List ℕ))) (count : ℕ) (field : Bor (List ℕ)) (rest line : List ℕ)
    → count < length items → texts_of (take count items) ++ fields_of rest ≡ fields_of line → 0 < length rest
    → prefix_len is_blank rest ≡ 0 → field.now ≡ before_first is_blank rest
    → texts_of (take (count + 1) (set items count field))
    ++ fields_of (after_blanks (drop (position_or_len is_blank rest) rest)) ≡ fields_of line
fields_step items count field rest line lt so_far h clear e =
    let front : texts_of (take (count + 1) (set items count field)) ≡ texts_of (take count items) ++ field.now ∷ [] =
    rw (take_more_set items count field lt) (map_push (λ (text : Bor (List ℕ)). text.now) (take count items) field) in
    let more = fields_of-after_blanks (drop (position_or_len is_blank rest) rest) in
    let split = fields_of-split rest h clear in
    rw (front, more, append_assoc, e, ← split) so_far

-- more than ten fields
pub fields_over : (items : List (Bor (List ℕ))) (rest line : List ℕ) → length items ≡ 10
    → texts_of (take 10 items) ++ fields_of rest ≡ fields_of line → 0 < length rest → prefix_len is_blank rest ≡ 0
    → 10 < length (fields_of line)
fields_over items rest line ten so_far h clear =
    let split = ap length (fields_of-split rest h clear) in
    let whole = ap length so_far in
    let front : length (texts_of (take 10 items)) ≡ 10 = rw (length-map, length-take-le 10 items (omega arith)) refl in
    omega (arith, simp length-append at whole)

-- what is left behind a field is shorter
pub rest_shorter : (bs : List ℕ) → 0 < length bs → prefix_len is_blank bs ≡ 0
    → length (after_blanks (drop (position_or_len is_blank bs) bs)) < length bs
rest_shorter bs h clear =
    let above = first_blank-above_zero bs h clear in
    simp (length-drop) (omega arith)

-- what the test of a text says
pub above_zero : (bs : List ℕ) → (length bs == 0) ≡ false → 0 < length bs
above_zero [] h = cc h
above_zero (b ∷ bs) h = omega arith

pub no_more_fields : (items : List (Bor (List ℕ))) (count : ℕ) (rest line : List ℕ)
    → texts_of (take count items) ++ fields_of rest ≡ fields_of line → (length rest == 0) ≡ true
    → texts_of (take count items) ≡ fields_of line
no_more_fields items count [] line h e = sym (rw (fields_of-nil, append-nil) at (sym h))
no_more_fields items count (b ∷ bs) line h e = absurd (omega (arith, eqb-true (length (b ∷ bs)) 0 e))

-- ---- lines

pub onto_first-parts : (b : ℕ) (part : List ℕ) (parts lines : List (List ℕ)) → lines ≡ part ∷ parts
    → onto_first b lines ≡ (b ∷ part) ∷ parts
onto_first-parts b part parts lines e = rw e refl

pub raw_lines-other : (b : ℕ) (bs : List ℕ) → is_line_end b ≡ false → raw_lines (b ∷ bs) ≡ onto_first b (raw_lines bs)
unfolding raw_lines
raw_lines-other b bs e = rw e refl

pub raw_lines-end : (b : ℕ) (bs : List ℕ) → is_line_end b ≡ true → raw_lines (b ∷ bs) ≡ [] ∷ raw_lines bs
unfolding raw_lines
raw_lines-end b bs e = rw e refl

raw_lines-nil : raw_lines [] ≡ []
unfolding raw_lines
raw_lines-nil = refl

first_end : (b : ℕ) (bs : List ℕ) → is_line_end b ≡ true
    → (before_first is_line_end (b ∷ bs) ≡ []) × (after_first is_line_end (b ∷ bs) ≡ bs)
first_end b bs h =
    let e : position_or_len is_line_end (b ∷ bs) ≡ 0 = rw h refl in
    (rw e refl, rw e refl)

first_other : (b : ℕ) (bs : List ℕ) → is_line_end b ≡ false
    → (before_first is_line_end (b ∷ bs) ≡ b ∷ before_first is_line_end bs)
    × (after_first is_line_end (b ∷ bs) ≡ after_first is_line_end bs)
first_other b bs h =
    let e : position_or_len is_line_end (b ∷ bs) ≡ suc (position_or_len is_line_end bs) = rw h (omega arith) in
    let f : position_or_len is_line_end (b ∷ bs) + 1 ≡ suc (position_or_len is_line_end bs + 1) = omega arith in
    (rw e refl, rw f refl)

-- the first line, and the lines behind it
pub raw_lines-step : (bs : List ℕ) → 0 < length bs
    → raw_lines bs ≡ before_first is_line_end bs ∷ raw_lines (after_first is_line_end bs)
raw_lines-step [] h = absurd (omega arith)
raw_lines-step (b ∷ []) h = at (is_line_end b) refl
  where
    at : (v : Bool) → is_line_end b ≡ v
        → raw_lines (b ∷ []) ≡ before_first is_line_end (b ∷ []) ∷ raw_lines (after_first is_line_end (b ∷ []))
    at true e = let f = first_end b [] e in raw_lines-end b [] e ∙ sym (rw (f.0, f.1) refl)
    at false e =
        let f = first_other b [] e in
        raw_lines-other b [] e
        ∙ rw raw_lines-nil (sym (rw (f.0, f.1) (ap (λ (more : List (List ℕ)). (b ∷ []) ∷ more) raw_lines-nil)))
raw_lines-step (b ∷ c ∷ bs) h = at (is_line_end b) refl (raw_lines-step (c ∷ bs) (omega arith))
  where
    at : (v : Bool) → is_line_end b ≡ v
        → raw_lines (c ∷ bs) ≡ before_first is_line_end (c ∷ bs) ∷ raw_lines (after_first is_line_end (c ∷ bs))
        → raw_lines (b ∷ c ∷ bs)
        ≡ before_first is_line_end (b ∷ c ∷ bs) ∷ raw_lines (after_first is_line_end (b ∷ c ∷ bs))
    at true e more = let f = first_end b (c ∷ bs) e in raw_lines-end b (c ∷ bs) e ∙ sym (rw (f.0, f.1) refl)
    at false e more =
        let f = first_other b (c ∷ bs) e in
        raw_lines-other b (c ∷ bs) e ∙ onto_first-parts b _ _ (raw_lines (c ∷ bs)) more ∙ sym (rw (f.0, f.1) refl)

pub line_texts-step : (bs : List ℕ) → 0 < length bs
    → line_texts bs ≡ line_text (before_first is_line_end bs) ∷ line_texts (after_first is_line_end bs)
line_texts-step bs h = ap (λ (lines : List (List ℕ)). map line_text lines) (raw_lines-step bs h)

pub line_texts-nil : line_texts [] ≡ []
unfolding raw_lines
line_texts-nil = refl

-- what is left behind a line is shorter
pub after_line_shorter : (bs : List ℕ) → 0 < length bs → length (after_first is_line_end bs) < length bs
after_line_shorter bs h = simp length-drop (omega arith)
