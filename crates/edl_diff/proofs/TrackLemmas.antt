-- The words of an event's channels.
use Rattle.std.proofs.Common.{◌≡◌, ℕ, ◌+◌, ◌-◌, ◌<◌, ◌≤◌, Bool, true, false, cond, List, [], ◌∷◌, length, take, drop}
use Rattle.std.proofs.Common.{take_all, refl, sym, ◌∙◌, ap, arith}
use Rattle.std.specs.Prelude.{Option, Some, None, MatchOption, nat_lt, position}
use Rattle.std.specs.Borrow.{Bor}
use Rattle.std.specs.List.{slice_split, position_or_len, list_any}
use Rattle.std.proofs.lemmas.Bool.Decides.{nat_tests}
use Rattle.std.proofs.lemmas.List.{length-drop}
use Rattle.std.proofs.lemmas.List.Sums.{fails_before_first}
use Rattle.std.proofs.lemmas.List.Splits.{slice_split_first, slice_split_none}
use Rattle.edl_diff.specs.Track.{is_slash, is_sound, is_word_for}

-- the first word ends at the first `/`
pub first_word_at : (text : List ℕ) (at : ℕ) → Some at ≡ position is_slash text
    → slice_split is_slash text
    ≡ take at text ∷ slice_split is_slash (take (length text - (at + 1)) (drop (at + 1) text))
first_word_at text at found = by (nat_lt (position_or_len is_slash text) (length text)) refl found
  where
    by : (b : Bool) → nat_lt (position_or_len is_slash text) (length text) ≡ b
        → Some at ≡ cond b (Some (position_or_len is_slash text)) None
        → slice_split is_slash text
        ≡ take at text ∷ slice_split is_slash (take (length text - (at + 1)) (drop (at + 1) text))
    by false e h = cc
    by true e h =
        let here : at ≡ position_or_len is_slash text = cc in
        let within : position_or_len is_slash text < length text = grind (arith, nat_tests, e) in
        let rest : take (length text - (at + 1)) (drop (at + 1) text) ≡ drop (at + 1) text =
        take_all _ _ (omega (arith, length-drop (at + 1) text)) in
        slice_split_first is_slash text 0 within
        ∙ ap (λ (n : ℕ). take n text ∷ slice_split is_slash (drop (n + 1) text)) (sym here)
        ∙ ap (λ (t : List ℕ). take at text ∷ slice_split is_slash t) (sym rest)

-- or is the whole text
pub first_word_whole : (text : List ℕ) → None ≡ position is_slash text → slice_split is_slash text ≡ text ∷ []
first_word_whole text none = by (nat_lt (position_or_len is_slash text) (length text)) refl none
  where
    by : (b : Bool) → nat_lt (position_or_len is_slash text) (length text) ≡ b
        → None ≡ cond b (Some (position_or_len is_slash text)) None → slice_split is_slash text ≡ text ∷ []
    by true e h = cc
    by false e h =
        slice_split_none is_slash text
        (λ k d lt. fails_before_first is_slash text k d (grind (arith, nat_tests, e, lt)))

-- the channel is among the words that are left
abbrev pub is_left : ℕ → Option (Bor (List ℕ)) → Bool
is_left n None = false
is_left n (Some text) = is_sound n text.now

abbrev pub left_length : Option (Bor (List ℕ)) → ℕ
left_length None = 0
left_length (Some text) = length text.now + 1

pub other_word : (n : ℕ) (text word : List ℕ) (rest : Option (Bor (List ℕ)))
    → MatchOption rest (slice_split is_slash text ≡ word ∷ [])
    (λ r. slice_split is_slash text ≡ word ∷ slice_split is_slash r.now)
    → is_word_for n word ≡ false → is_sound n text ≡ is_left n rest
other_word n text word None words not = ap (list_any (is_word_for n)) words ∙ grind (arith, not)
other_word n text word (Some r) words not = ap (list_any (is_word_for n)) words ∙ grind (arith, not)

pub this_word : (n : ℕ) (text word : List ℕ) (rest : Option (Bor (List ℕ)))
    → MatchOption rest (slice_split is_slash text ≡ word ∷ [])
    (λ r. slice_split is_slash text ≡ word ∷ slice_split is_slash r.now)
    → is_word_for n word ≡ true → is_sound n text ≡ true
this_word n text word None words is = ap (list_any (is_word_for n)) words ∙ grind (arith, is)
this_word n text word (Some r) words is = ap (list_any (is_word_for n)) words ∙ grind (arith, is)
