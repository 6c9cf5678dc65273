-- Two lists of rows, each one behind the other, that become one.
use Rattle.std.proofs.Common.{◌≡◌, ◌∙◌, ℕ, zero, suc, ◌+◌, ◌<◌, ◌≤◌, max, List, [], ◌∷◌, ◌++◌, true, false, cond, not}
use Rattle.std.proofs.Common.{take, drop, refl, sym, ap, subst, ⊎_elim, one-add, append_assoc, arith}
use Rattle.std.specs.Prelude.{IsPermutation, None, if◌then◌else◌}
use Rattle.std.specs.List.{position_or_len}
use Rattle.std.proofs.lemmas.Bool.{cases_lt, lt-ltb, le-ltb}
use Rattle.std.proofs.lemmas.List.Sorted.{IsPermutation-cons, IsPermutation-middle, IsPermutation-refl}
use Rattle.std.proofs.lemmas.List.Sorted.{IsPermutation-trans}
use Rattle.playlist_core.specs.Picture.{picture_of}
use Rattle.playlist_core.specs.Order.{AreApart}
use Rattle.playlist_core.proofs.PictureLemmas.{covers_in, apart_within}
use Rattle.asrun_match.specs.declared.aired.AiredRow.{AiredRow}
use Rattle.asrun_match.specs.Aired.{aired, first_twice}
use Rattle.asrun_match.proofs.AiringLemmas.{ends_after}
use Rattle.asrun_match.proofs.TwiceLemmas.{CoverOnce, times, times-cons, once_each, once-from_none, fit_of_apart}

-- a row before those that `rest` makes of others, and of those of them that don't end after it
abbrev pub into : AiredRow → (List AiredRow → List AiredRow) → List AiredRow → List AiredRow
into x rest [] = x ∷ rest []
into x rest (r ∷ rs) = if ends_after r x then r ∷ into x rest rs else x ∷ rest (r ∷ rs)

-- each of the others in front of the first row that ends after it begins
abbrev pub weave : List AiredRow → List AiredRow → List AiredRow
weave [] others = others
weave (x ∷ xs) others = into x (weave xs) others

pub weave_none : (xs : List AiredRow) → weave xs [] ≡ xs
weave_none [] = refl
weave_none (x ∷ xs) = ap (λ zs. x ∷ zs) (weave_none xs)

weave_row : (r : AiredRow) (rs xs : List AiredRow)
    → weave xs (r ∷ rs)
    ≡ take (position_or_len (ends_after r) xs) xs ++ r ∷ weave (drop (position_or_len (ends_after r) xs) xs) rs
weave_row r rs [] = refl
weave_row r rs (x ∷ xs) =
    elim (ends_after r x)
    as (λ b. (if b then r ∷ into x (weave xs) rs else x ∷ weave xs (r ∷ rs))
    ≡ take (cond (not b) (1 + position_or_len (ends_after r) xs) 0) (x ∷ xs)
    ++ r ∷ weave (drop (cond (not b) (1 + position_or_len (ends_after r) xs) 0) (x ∷ xs)) rs) [
      | true ↦ refl
      | false ↦ rw (one-add (position_or_len (ends_after r) xs)) (ap (λ zs. x ∷ zs) (weave_row r rs xs))
    ]

-- a turn of a loop that puts the next of the others into its place
pub weave_turn : (done left before behind rs : List AiredRow) (r : AiredRow) (k : ℕ)
    → k ≡ position_or_len (ends_after r) left → before ≡ take k left → behind ≡ drop k left
    → ((done ++ before) ++ r ∷ []) ++ weave behind rs ≡ done ++ weave left (r ∷ rs)
weave_turn done left before behind rs r k place front back =
    append_assoc (done ++ before) (r ∷ []) (weave behind rs)
    ∙ append_assoc done before (r ∷ weave behind rs)
    ∙ (λ i. done ++ (front i ++ r ∷ weave (back i) rs))
    ∙ ap (λ j. done ++ (take j left ++ r ∷ weave (drop j left) rs)) place
    ∙ ap (λ zs. done ++ zs) (sym (weave_row r rs left))

into_moved : (x : AiredRow) (xs ys : List AiredRow) → ((zs : List AiredRow) → IsPermutation (xs ++ zs) (weave xs zs))
    → IsPermutation (x ∷ (xs ++ ys)) (into x (weave xs) ys)
into_moved x xs [] rest = IsPermutation-cons x (xs ++ []) (weave xs []) (rest [])
into_moved x xs (r ∷ rs) rest =
    elim (ends_after r x)
    as (λ b. IsPermutation (x ∷ (xs ++ r ∷ rs)) (if b then r ∷ into x (weave xs) rs else x ∷ weave xs (r ∷ rs))) [
      | true ↦ IsPermutation-trans (x ∷ (xs ++ r ∷ rs)) (r ∷ x ∷ (xs ++ rs)) (r ∷ into x (weave xs) rs)
          (IsPermutation-middle (x ∷ xs) r rs)
          (IsPermutation-cons r (x ∷ (xs ++ rs)) (into x (weave xs) rs) (into_moved x xs rs rest))
      | false ↦ IsPermutation-cons x (xs ++ r ∷ rs) (weave xs (r ∷ rs)) (rest (r ∷ rs))
    ]

pub weave_moved : (xs ys : List AiredRow) → IsPermutation (xs ++ ys) (weave xs ys)
weave_moved [] ys = IsPermutation-refl ys
weave_moved (x ∷ xs) ys = into_moved x xs ys (λ zs. weave_moved xs zs)

less : (p : ℕ) (r : AiredRow) (rs : List AiredRow) → times p rs ≤ times p (r ∷ rs)
less p r rs = omega (arith, times-cons p r rs _ refl)

-- a row that doesn't end before another one begins, begins behind it
beside : (x r : AiredRow) (xs rs : List AiredRow) → CoverOnce (x ∷ xs) (r ∷ rs) → 0 < x.frames → 0 < r.frames
    → r.pos < x.pos + x.frames → r.pos + r.frames ≤ x.pos
beside x r xs rs once some_x some_r lt =
    ⊎_elim
    (λ meets.
    let p : ℕ = max x.pos r.pos in
    let of_x = times-cons p x xs true (covers_in x.pos x.frames p (omega arith) (omega arith)) in
    let of_r = times-cons p r rs true (covers_in r.pos r.frames p (omega arith) (omega arith)) in
    let one = once p in
    absurd (omega (arith, of_x, of_r, one)))
    (λ le. le)
    (cases_lt x.pos (r.pos + r.frames))

into_apart : (x : AiredRow) (xs : List AiredRow) (to : ℕ)
    → ((from : ℕ) (zs : List AiredRow) → AreApart aired from to xs → AreApart aired from to zs → CoverOnce xs zs
    → AreApart aired from to (weave xs zs))
    → (from : ℕ) (ys : List AiredRow) → AreApart aired from to (x ∷ xs) → AreApart aired from to ys
    → CoverOnce (x ∷ xs) ys → AreApart aired from to (into x (weave xs) ys)
into_apart x xs to rest from [] apart_x apart_y once = (
  apart_x.0,
  apart_x.1,
  rest (x.pos + x.frames) [] apart_x.2 (apart_within aired (x.pos + x.frames) to xs apart_x.2)
      (λ p. let one = once p in let fewer = less p x xs in omega (arith, one, fewer)),
)
into_apart x xs to rest from (r ∷ rs) apart_x apart_y once =
    ⊎_elim
    (λ lt. subst (λ b. AreApart aired from to (if b then r ∷ into x (weave xs) rs else x ∷ weave xs (r ∷ rs)))
    (sym (lt-ltb r.pos (x.pos + x.frames) lt)) (
      apart_y.0,
      apart_y.1,
      into_apart x xs to rest (r.pos + r.frames) rs (beside x r xs rs once apart_x.1 apart_y.1 lt, apart_x.1, apart_x.2)
          apart_y.2 (λ p. let one = once p in let fewer = less p r rs in omega (arith, one, fewer)),
    ))
    (λ le. subst (λ b. AreApart aired from to (if b then r ∷ into x (weave xs) rs else x ∷ weave xs (r ∷ rs)))
    (sym (le-ltb r.pos (x.pos + x.frames) le)) (
      apart_x.0,
      apart_x.1,
      rest (x.pos + x.frames) (r ∷ rs) apart_x.2 (le, apart_y.1, apart_y.2)
          (λ p. let one = once p in let fewer = less p x xs in omega (arith, one, fewer)),
    ))
    (cases_lt r.pos (x.pos + x.frames))

weave_apart : (xs : List AiredRow) (to from : ℕ) (ys : List AiredRow) → AreApart aired from to xs
    → AreApart aired from to ys → CoverOnce xs ys → AreApart aired from to (weave xs ys)
weave_apart [] to from ys apart_x apart_y once = apart_y
weave_apart (x ∷ xs) to from ys apart_x apart_y once =
    into_apart x xs to (λ since zs. weave_apart xs to since zs) from ys apart_x apart_y once

-- rows that air none of a day's frames again lie apart with the day's
pub woven_apart : (frames : ℕ) (taken rows : List AiredRow) → AreApart aired 0 frames taken
    → AreApart aired 0 frames rows → first_twice (picture_of aired frames taken) rows ≡ None
    → AreApart aired 0 frames (weave taken rows)
woven_apart frames taken rows apart apart_rows none =
    weave_apart taken frames 0 rows apart apart_rows
    (once-from_none frames taken rows (fit_of_apart 0 frames rows apart_rows) (once_each frames taken apart) none)

-- what is left of rows lies apart
apart_sooner : (from since to : ℕ) (rows : List AiredRow) → from ≤ since → AreApart aired since to rows
    → AreApart aired from to rows
apart_sooner from since to [] le apart = omega (arith, le, apart)
apart_sooner from since to (r ∷ rs) le apart = (omega (arith, le, apart.0), apart.1, apart.2)

pub apart_drop : (from to k : ℕ) (rows : List AiredRow) → AreApart aired from to rows
    → AreApart aired from to (drop k rows)
apart_drop from to zero rows apart = apart
apart_drop from to (suc k) [] apart = apart
apart_drop from to (suc k) (r ∷ rs) apart =
    apart_drop from to k rs (apart_sooner from (r.pos + r.frames) to rs (omega (arith, apart.0)) apart.2)
