-- Lines that are written, read back as lines.
use Rattle.std.proofs.Common.{◌≡◌, ℕ, ◌+◌, ◌-◌, ◌<◌, ◌≤◌, true, false, List, [], ◌∷◌, ◌++◌, length, length-append, take}
use Rattle.std.proofs.Common.{drop, refl, sym, ap, ◌∙◌, arith}
use Rattle.std.specs.Prelude.{◌==◌, nat_eq, slice_index, reverse, All}
use Rattle.std.specs.List.{ends_with, prefix_len, suffix_len}
use Rattle.std.specs.Str.{is_utf8}
use Rattle.std.proofs.lemmas.Bool.Decides.{nat_tests}
use Rattle.std.proofs.lemmas.List.{drop_at, take_all, take_more, reverse-append}
use Rattle.std.proofs.lemmas.List.Elements.{All-head, All-tail, All-weaker}
use Rattle.std.proofs.lemmas.Str.{IsUtf8-from_ascii, is_utf8-from_IsUtf8}
use Rattle.std.proofs.lemmas.Str.Ascii.{IsAscii-from_all}
use Rattle.edl.specs.Text.{after_blanks, before_blanks, is_blank, is_line_end, line_text, raw_lines, without_cr}
use Rattle.edl.specs.ReadBack.{IsPrintable}
use Rattle.edl.proofs.TextLemmas.{onto_first-parts, raw_lines-end, raw_lines-other}

-- a line and its end, in front of others
pub raw_lines-line : (l rest : List ℕ) → All IsPrintable l → raw_lines (l ++ 10 ∷ rest) ≡ l ∷ raw_lines rest
raw_lines-line [] rest h = raw_lines-end 10 rest refl
raw_lines-line (b ∷ bs) rest h =
    let printable = All-head IsPrintable b bs h in
    let other : is_line_end b ≡ false = not_end b printable.low in
    raw_lines-other b (bs ++ 10 ∷ rest) other
    ∙ onto_first-parts b bs (raw_lines rest) (raw_lines (bs ++ 10 ∷ rest))
    (raw_lines-line bs rest (All-tail IsPrintable b bs h))
  where
    not_end : (b : ℕ) → 32 ≤ b → is_line_end b ≡ false
    not_end b low = grind (arith, nat_tests)

-- a list by its front and its last element
pub by_last : (l : List ℕ) → 0 < length l → l ≡ take (length l - 1) l ++ slice_index l (length l - 1) ∷ []
by_last l some =
    let n : ℕ = length l - 1 in
    let lt : n < length l = omega arith in
    let more = take_more l n 0 lt in
    let all : take (n + 1) l ≡ l = take_all (n + 1) l (omega arith) in
    sym all ∙ more

no_cr_end : (front : List ℕ) (x : ℕ) (l : List ℕ) → l ≡ front ++ x ∷ [] → (13 == x) ≡ false → without_cr l ≡ l
no_cr_end front x l e h =
    let count : length l - 1 ≡ length front = omega (arith, simp length-append at (ap length e)) in
    let last : drop (length l - 1) l ≡ x ∷ [] = rw (count, e) (drop_at front (x ∷ []) (length front) refl) in
    let test : ends_with nat_eq l (13 ∷ []) ≡ false = rw (last, h) refl in
    rw test refl

no_blank_first : (l : List ℕ) → 0 < length l → is_blank (slice_index l 0) ≡ false → after_blanks l ≡ l
no_blank_first [] some h = refl
no_blank_first (b ∷ bs) some h =
    let e : prefix_len is_blank (b ∷ bs) ≡ 0 = rw h refl in
    rw e refl

no_blank_last : (front : List ℕ) (x : ℕ) (l : List ℕ) → l ≡ front ++ x ∷ [] → is_blank x ≡ false → before_blanks l ≡ l
no_blank_last front x l e h =
    let back : reverse l ≡ x ∷ reverse front = ap reverse e ∙ reverse-append front (x ∷ []) in
    let none : suffix_len is_blank l ≡ 0 = rw (back, h) refl in
    take_all (length l - suffix_len is_blank l) l (omega (arith, none))

nonempty : (front : List ℕ) (x : ℕ) (l : List ℕ) → l ≡ front ++ x ∷ [] → 0 < length l
nonempty front x l e = omega (arith, simp length-append at (ap length e))

-- nothing is taken off a line that begins with no blank and ends neither with one nor with CR
pub line_text-plain : (front : List ℕ) (x : ℕ) (l : List ℕ) → l ≡ front ++ x ∷ [] → is_blank (slice_index l 0) ≡ false
    → is_blank x ≡ false → (13 == x) ≡ false → line_text l ≡ l
unfolding line_text
line_text-plain front x l e first last no_cr =
    ap (λ (m : List ℕ). before_blanks (after_blanks m)) (no_cr_end front x l e no_cr)
    ∙ ap before_blanks (no_blank_first l (nonempty front x l e) first) ∙ no_blank_last front x l e last

-- ASCII is text
pub utf8-printable : (l : List ℕ) → All IsPrintable l → is_utf8 l ≡ true
utf8-printable l h =
    is_utf8-from_IsUtf8 l
    (IsUtf8-from_ascii l
    (IsAscii-from_all l (All-weaker IsPrintable (λ b. b < 128) (λ b p. omega (arith, p.high)) l h)))
