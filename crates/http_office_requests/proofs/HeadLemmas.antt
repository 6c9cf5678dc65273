-- Where a head ends.
use Rattle.std.proofs.Common.{◌≡◌, ℕ, zero, suc, ◌+◌, ◌-◌, ◌<◌, ◌≤◌, Bool, true, false, cond, List, [], ◌∷◌, ◌++◌}
use Rattle.std.proofs.Common.{length, take, drop, get_or, Some, None, Option, refl, sym, ap, subst, ◌∙◌, length-drop}
use Rattle.std.proofs.Common.{length-take-le, take-append-drop, drop-drop, arith}
use Rattle.std.proofs.lemmas.List.{get_or-drop}
use Rattle.std.specs.Option.{option_map}
use Rattle.http_office_requests.specs.Piece.{head_len, is_empty_line}

-- no head ends in three bytes
short : (xs : List ℕ) → length xs ≤ 3 → head_len xs ≡ None
unfolding head_len
short [] h = refl
short (a ∷ []) h = refl
short (a ∷ b ∷ []) h = refl
short (a ∷ b ∷ c ∷ []) h = refl
short (a ∷ b ∷ c ∷ d ∷ rest) h = absurd (omega arith)

-- one byte on
step : (xs : List ℕ) → 3 < length xs
    → head_len xs
    ≡ cond (is_empty_line (get_or xs 0 0) (get_or xs 1 0) (get_or xs 2 0) (get_or xs 3 0)) (Some 4)
    (option_map suc (head_len (drop 1 xs)))
unfolding head_len
step [] h = absurd (omega arith)
step (a ∷ []) h = absurd (omega arith)
step (a ∷ b ∷ []) h = absurd (omega arith)
step (a ∷ b ∷ c ∷ []) h = absurd (omega arith)
step (a ∷ b ∷ c ∷ d ∷ rest) h = refl

at_place : (xs : List ℕ) (at : ℕ) → at + 3 < length xs
    → head_len (drop at xs)
    ≡ cond (is_empty_line (get_or xs at 0) (get_or xs (at + 1) 0) (get_or xs (at + 2) 0) (get_or xs (at + 3) 0))
    (Some 4) (option_map suc (head_len (drop (at + 1) xs)))
at_place xs at h =
    let one : head_len (drop at xs)
    ≡ cond
    (is_empty_line (get_or (drop at xs) 0 0) (get_or (drop at xs) 1 0) (get_or (drop at xs) 2 0)
    (get_or (drop at xs) 3 0)) (Some 4) (option_map suc (head_len (drop 1 (drop at xs)))) =
    step (drop at xs) (omega (arith, length-drop at xs)) in
    rw (← get_or-drop at xs 1 0, ← get_or-drop at xs 2 0, ← get_or-drop at xs 3 0, ← first xs at, ← drop-drop 1 at xs)
    one
  where
    first : (xs : List ℕ) (at : ℕ) → get_or (drop at xs) 0 0 ≡ get_or xs at 0
    first xs at = get_or-drop at xs 0 0 ∙ ap (λ (k : ℕ). get_or xs k 0) (omega arith)

-- the search found it
pub found_at : (xs : List ℕ) (at : ℕ) → at + 3 < length xs
    → head_len xs ≡ option_map (λ n. at + n) (head_len (drop at xs))
    → is_empty_line (get_or xs at 0) (get_or xs (at + 1) 0) (get_or xs (at + 2) 0) (get_or xs (at + 3) 0) ≡ true
    → Some (at + 4) ≡ head_len xs
found_at xs at h before is =
    let here : head_len (drop at xs) ≡ Some 4 = rw is at (at_place xs at h) in
    sym (rw here at before)

later : (at : ℕ) (o : Option ℕ) → option_map (λ n. at + n) (option_map suc o) ≡ option_map (λ n. (at + 1) + n) o
later at None = refl
later at (Some n) = ap Some (omega arith)

pub not_at : (xs : List ℕ) (at : ℕ) → at + 3 < length xs
    → head_len xs ≡ option_map (λ n. at + n) (head_len (drop at xs))
    → is_empty_line (get_or xs at 0) (get_or xs (at + 1) 0) (get_or xs (at + 2) 0) (get_or xs (at + 3) 0) ≡ false
    → head_len xs ≡ option_map (λ n. (at + 1) + n) (head_len (drop (at + 1) xs))
not_at xs at h before is =
    let here : head_len (drop at xs) ≡ option_map suc (head_len (drop (at + 1) xs)) = rw is at (at_place xs at h) in
    before ∙ ap (option_map (λ n. at + n)) here ∙ later at (head_len (drop (at + 1) xs))

pub nowhere : (xs : List ℕ) (at : ℕ) → length xs ≤ at + 3
    → head_len xs ≡ option_map (λ n. at + n) (head_len (drop at xs)) → None ≡ head_len xs
nowhere xs at h before =
    let here : head_len (drop at xs) ≡ None = short (drop at xs) (omega (arith, length-drop at xs)) in
    sym (rw here at before)

-- ---- the head of a longer text

suc_some : (o : Option ℕ) (n : ℕ) → option_map suc o ≡ Some n → (m : ℕ) × (o ≡ Some m) × (n ≡ suc m)
suc_some None n e = cc
suc_some (Some m) n e = (m, refl, cc)

-- what follows doesn't change where the head ends
append_go : (is : Bool) (inner whole : Option ℕ) (n : ℕ) → ((m : ℕ) → inner ≡ Some m → whole ≡ Some m)
    → cond is (Some 4) (option_map suc inner) ≡ Some n → cond is (Some 4) (option_map suc whole) ≡ Some n
append_go true inner whole n ih e = e
append_go false inner whole n ih e =
    let i = suc_some inner n e in
    ap (option_map suc) (ih i.0 i.1) ∙ ap Some (sym i.2)

pub head_len-append : (xs ys : List ℕ) (n : ℕ) → head_len xs ≡ Some n → head_len (xs ++ ys) ≡ Some n
unfolding head_len
head_len-append [] ys n e = cc
head_len-append (a ∷ []) ys n e = cc
head_len-append (a ∷ b ∷ []) ys n e = cc
head_len-append (a ∷ b ∷ c ∷ []) ys n e = cc
head_len-append (a ∷ b ∷ c ∷ d ∷ rest) ys n e =
    append_go (is_empty_line a b c d) (head_len (b ∷ c ∷ d ∷ rest)) (head_len (b ∷ c ∷ d ∷ (rest ++ ys))) n
    (λ m. head_len-append (b ∷ c ∷ d ∷ rest) ys m) e

-- a head has an empty line, and lies in the bytes
bounds_go : (is : Bool) (inner : Option ℕ) (len n : ℕ) → ((m : ℕ) → inner ≡ Some m → (4 ≤ m) × (m ≤ len))
    → cond is (Some 4) (option_map suc inner) ≡ Some n → 3 ≤ len → (4 ≤ n) × (n ≤ suc len)
bounds_go true inner len n ih e h = let four : 4 ≡ n = cc in (omega arith, omega arith)
bounds_go false inner len n ih e h =
    let i = suc_some inner n e in
    let bounds = ih i.0 i.1 in
    (omega (arith, bounds.0, i.2), omega (arith, bounds.1, i.2))

pub head_len_bounds : (xs : List ℕ) (n : ℕ) → head_len xs ≡ Some n → (4 ≤ n) × (n ≤ length xs)
unfolding head_len
head_len_bounds [] n e = cc
head_len_bounds (a ∷ []) n e = cc
head_len_bounds (a ∷ b ∷ []) n e = cc
head_len_bounds (a ∷ b ∷ c ∷ []) n e = cc
head_len_bounds (a ∷ b ∷ c ∷ d ∷ rest) n e =
    bounds_go (is_empty_line a b c d) (head_len (b ∷ c ∷ d ∷ rest)) (length (b ∷ c ∷ d ∷ rest)) n
    (head_len_bounds (b ∷ c ∷ d ∷ rest)) e (omega arith)

-- a head that lies in the front is the front's
front_go : (is : Bool) (inner whole : Option ℕ) (len n : ℕ) → ((m : ℕ) → whole ≡ Some m → m ≤ len → inner ≡ Some m)
    → cond is (Some 4) (option_map suc whole) ≡ Some n → n ≤ suc len → cond is (Some 4) (option_map suc inner) ≡ Some n
front_go true inner whole len n ih e h = e
front_go false inner whole len n ih e h =
    let i = suc_some whole n e in
    ap (option_map suc) (ih i.0 i.1 (omega (arith, i.2, h))) ∙ ap Some (sym i.2)

pub head_len-front : (xs ys : List ℕ) (n : ℕ) → head_len (xs ++ ys) ≡ Some n → n ≤ length xs → head_len xs ≡ Some n
unfolding head_len
head_len-front [] ys n e h = absurd (omega (arith, (head_len_bounds ys n e).0))
head_len-front (a ∷ []) ys n e h = absurd (omega (arith, (head_len_bounds (a ∷ ys) n e).0))
head_len-front (a ∷ b ∷ []) ys n e h = absurd (omega (arith, (head_len_bounds (a ∷ b ∷ ys) n e).0))
head_len-front (a ∷ b ∷ c ∷ []) ys n e h = absurd (omega (arith, (head_len_bounds (a ∷ b ∷ c ∷ ys) n e).0))
head_len-front (a ∷ b ∷ c ∷ d ∷ rest) ys n e h =
    front_go (is_empty_line a b c d) (head_len (b ∷ c ∷ d ∷ rest)) (head_len (b ∷ c ∷ d ∷ (rest ++ ys)))
    (length (b ∷ c ∷ d ∷ rest)) n (λ m. head_len-front (b ∷ c ∷ d ∷ rest) ys m) e h

-- ---- a search that goes on where an earlier one ended

option_map_same : (o : Option ℕ) → o ≡ option_map (λ n. 0 + n) o
option_map_same None = refl
option_map_same (Some n) = ap Some (omega arith)

module _ (xs : List ℕ) (k : ℕ) (within : k ≤ length xs) (none : head_len (take k xs) ≡ None) where
  -- no empty line begins at a place, where none ends in the first bytes
  skip_one : (at : ℕ) (is : Bool) → at + 4 ≤ k → head_len xs ≡ option_map (λ n. at + n) (head_len (drop at xs))
      → is_empty_line (get_or xs at 0) (get_or xs (at + 1) 0) (get_or xs (at + 2) 0) (get_or xs (at + 3) 0) ≡ is
      → head_len xs ≡ option_map (λ n. (at + 1) + n) (head_len (drop (at + 1) xs))
  skip_one at true fits before e =
      let found : Some (at + 4) ≡ head_len xs = found_at xs at (omega arith) before e in
      let split : head_len (take k xs ++ drop k xs) ≡ Some (at + 4) =
      subst (λ (l : List ℕ). head_len l ≡ Some (at + 4)) (sym (take-append-drop k xs)) (sym found) in
      let front = head_len-front (take k xs) (drop k xs) (at + 4) split (omega (arith, length-take-le k xs within)) in
      cc
  skip_one at false fits before e = not_at xs at (omega arith) before e

  skip_go : (at : ℕ) → at ≤ k - 3 → head_len xs ≡ option_map (λ n. at + n) (head_len (drop at xs))
  skip_go zero h = option_map_same (head_len xs)
  skip_go (suc at) h =
      let one : at + 1 ≡ suc at = omega arith in
      subst (λ (m : ℕ). head_len xs ≡ option_map (λ n. m + n) (head_len (drop m xs))) one
      (skip_one at _ (omega arith) (skip_go at (omega arith)) refl)

  -- the search may begin three bytes before the end of what was searched
  pub skipped : head_len xs ≡ option_map (λ n. (k - 3) + n) (head_len (drop (k - 3) xs))
  skipped = skip_go (k - 3) (omega arith)
