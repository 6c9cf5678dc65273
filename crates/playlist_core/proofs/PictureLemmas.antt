-- A picture is the table of a function of the frame: what the rows show there.
use Rattle.std.proofs.Common.{◌≡◌, ℕ, zero, suc, ◌+◌, ◌-◌, ◌<◌, ◌≤◌, List, [], ◌∷◌, length, get_or, Bool, true, false}
use Rattle.std.proofs.Common.{Option, Some, None, refl, ◌∙◌, ap, arith}
use Rattle.std.specs.Prelude.{is_some, map, replicate, if◌then◌else◌}
use Rattle.std.proofs.lemmas.Bool.Decides.{nat_tests}
use Rattle.playlist_core.specs.Picture.{Strip, covers, paint_from, paint, picture_of, is_painted, least}
use Rattle.playlist_core.specs.Order.{end_of, AreApart}

-- f at n frames from p on
abbrev pub table : {A : Type 0} → (ℕ → A) → ℕ → ℕ → List A
table f p zero = []
table f p (suc n) = f p ∷ table f (p + 1) n

module _ {A : Type 0} where
  pub length-table : (f : ℕ → A) (p n : ℕ) → length (table f p n) ≡ n
  length-table f p zero = refl
  length-table f p (suc n) = ap suc (length-table f (p + 1) n)

  pub get_or-table : (f : ℕ → A) (p n k : ℕ) (d : A) → k < n → get_or (table f p n) k d ≡ f (p + k)
  get_or-table f p zero k d lt = absurd (omega arith)
  get_or-table f p (suc n) zero d lt = ap f (omega arith)
  get_or-table f p (suc n) (suc k) d lt = get_or-table f (p + 1) n k d (omega arith) ∙ ap f (omega arith)

  pub table_same : (f g : ℕ → A) (p n : ℕ) → ((q : ℕ) → p ≤ q → q < p + n → f q ≡ g q) → table f p n ≡ table g p n
  table_same f g p zero same = refl
  table_same f g p (suc n) same =
      ap (λ x. x ∷ table f (p + 1) n) (same p (omega arith) (omega arith))
      ∙ ap (λ xs. g p ∷ xs) (table_same f g (p + 1) n (λ q le lt. same q (omega arith) (omega arith)))

pub map-table : {A B : Type 0} (g : A → B) (f : ℕ → A) (p n : ℕ) → map g (table f p n) ≡ table (λ q. g (f q)) p n
map-table g f p zero = refl
map-table g f p (suc n) = ap (λ xs. g (f p) ∷ xs) (map-table g f (p + 1) n)

-- f with a strip painted over it
abbrev pub over : {C : Type 0} → Strip C → (ℕ → Option C) → ℕ → Option C
over s f p = if covers s.pos s.frames p then Some (s.shows (p - s.pos)) else f p

-- what the first row that covers frame p shows there
abbrev pub shown : {R C : Type 0} → (R → Strip C) → List R → ℕ → Option C
shown strip [] p = None
shown strip (r ∷ rs) p = over (strip r) (shown strip rs) p

module _ {C : Type 0} where
  nothing-table : (p n : ℕ) → replicate {A = Option C} n None ≡ table (λ _. None) p n
  nothing-table p zero = refl
  nothing-table p (suc n) = ap (λ cells. None ∷ cells) (nothing-table (p + 1) n)

  pub paint-table : (s : Strip C) (f : ℕ → Option C) (p n : ℕ) → paint_from p s (table f p n) ≡ table (over s f) p n
  paint-table s f p zero = refl
  paint-table s f p (suc n) = ap (λ cells. over s f p ∷ cells) (paint-table s f (p + 1) n)

pub covers_in : (position frames p : ℕ) → position ≤ p → p < position + frames → covers position frames p ≡ true
covers_in position frames p le lt = grind (arith, nat_tests)

pub covers_before : (position frames p : ℕ) → p < position → covers position frames p ≡ false
covers_before position frames p lt = grind (arith, nat_tests)

pub covers_behind : (position frames p : ℕ) → position + frames ≤ p → covers position frames p ≡ false
covers_behind position frames p le = grind (arith, nat_tests)

pub covers_from : (position frames p : ℕ) → covers position frames p ≡ true → position ≤ p
covers_from position frames p here = grind (arith, nat_tests, here)

pub covers_within : (position frames p : ℕ) → covers position frames p ≡ true → p < position + frames
covers_within position frames p here = grind (arith, nat_tests, here)

module _ {R C : Type 0} (strip : R → Strip C) where
  -- what the first row shows where it lies, and that before it and behind it the others decide
  pub shown_in : (r : R) (rs : List R) (p : ℕ) → (strip r).pos ≤ p → p < end_of (strip r)
      → shown strip (r ∷ rs) p ≡ Some ((strip r).shows (p - (strip r).pos))
  shown_in r rs p le lt =
      ap (λ b. if b then Some ((strip r).shows (p - (strip r).pos)) else shown strip rs p)
      (covers_in (strip r).pos (strip r).frames p le lt)

  pub shown_behind : (r : R) (rs : List R) (p : ℕ) → end_of (strip r) ≤ p → shown strip (r ∷ rs) p ≡ shown strip rs p
  shown_behind r rs p le =
      ap (λ b. if b then Some ((strip r).shows (p - (strip r).pos)) else shown strip rs p)
      (covers_behind (strip r).pos (strip r).frames p le)

  pub picture_is : (frames : ℕ) (rows : List R) → picture_of strip frames rows ≡ table (shown strip rows) 0 frames
  picture_is frames [] = nothing-table 0 frames
  picture_is frames (r ∷ rs) =
      ap (paint (strip r)) (picture_is frames rs) ∙ paint-table (strip r) (shown strip rs) 0 frames

  pub length-picture : (frames : ℕ) (rows : List R) → length (picture_of strip frames rows) ≡ frames
  length-picture frames rows = ap length (picture_is frames rows) ∙ length-table (shown strip rows) 0 frames

  pub get_or-picture : (frames : ℕ) (rows : List R) (p : ℕ) → p < frames
      → get_or (picture_of strip frames rows) p None ≡ shown strip rows p
  get_or-picture frames rows p lt =
      ap (λ cells. get_or cells p None) (picture_is frames rows)
      ∙ get_or-table (shown strip rows) 0 frames p None lt
      ∙ ap (shown strip rows) (omega arith)

  pub is_painted-picture : (frames : ℕ) (rows : List R) (p : ℕ) → p < frames
      → is_painted (picture_of strip frames rows) p ≡ is_some (shown strip rows p)
  is_painted-picture frames rows p lt = ap is_some (get_or-picture frames rows p lt)

  -- rows that lie apart end in time
  pub apart_within : (from to : ℕ) (rows : List R) → AreApart strip from to rows → from ≤ to
  apart_within from to [] apart = apart
  apart_within from to (r ∷ rs) apart =
      let rest = apart_within (end_of (strip r)) to rs apart.2 in omega (arith, apart.0, apart.1)

  -- and show nothing before they begin
  pub shown_before : (from to : ℕ) (rows : List R) (p : ℕ) → AreApart strip from to rows → p < from
      → shown strip rows p ≡ None
  shown_before from to [] p apart lt = refl
  shown_before from to (r ∷ rs) p apart lt =
      ap (λ b. if b then Some ((strip r).shows (p - (strip r).pos)) else shown strip rs p)
      (covers_before (strip r).pos (strip r).frames p (omega (arith, apart.0)))
      ∙ shown_before (end_of (strip r)) to rs p apart.2 (omega (arith, apart.0))

-- the least frame that passes
pub least_same : (f g : ℕ → Bool) (p n : ℕ) → ((q : ℕ) → p ≤ q → q < p + n → f q ≡ g q) → least f p n ≡ least g p n
unfolding least
least_same f g p zero same = refl
least_same f g p (suc n) same =
    ap (λ b. if b then Some p else least f (p + 1) n) (same p (omega arith) (omega arith))
    ∙ ap (λ o. if g p then Some p else o) (least_same f g (p + 1) n (λ q le lt. same q (omega arith) (omega arith)))

pub least_here : (f : ℕ → Bool) (p n : ℕ) → 0 < n → f p ≡ true → least f p n ≡ Some p
unfolding least
least_here f p zero lt here = absurd (omega arith)
least_here f p (suc n) lt here = ap (λ b. if b then Some p else least f (p + 1) n) here

pub least_skip : (f : ℕ → Bool) (p k n : ℕ) → ((q : ℕ) → p ≤ q → q < p + k → f q ≡ false)
    → least f p (k + n) ≡ least f (p + k) n
unfolding least
least_skip f p zero n none =
    let same : 0 + n ≡ n = omega arith in
    let here : p ≡ p + 0 = omega arith in
    ap (least f p) same ∙ ap (λ q. least f q n) here
least_skip f p (suc k) n none =
    let more : suc k + n ≡ suc (k + n) = omega arith in
    let there : (p + 1) + k ≡ p + suc k = omega arith in
    ap (least f p) more
    ∙ ap (λ b. if b then Some p else least f (p + 1) (k + n)) (none p (omega arith) (omega arith))
    ∙ least_skip f (p + 1) k n (λ q le lt. none q (omega arith) (omega arith))
    ∙ ap (λ q. least f q n) there

pub least_none : (f : ℕ → Bool) (p n : ℕ) → ((q : ℕ) → p ≤ q → q < p + n → f q ≡ false) → least f p n ≡ None
unfolding least
least_none f p zero none = refl
least_none f p (suc n) none =
    ap (λ b. if b then Some p else least f (p + 1) n) (none p (omega arith) (omega arith))
    ∙ least_none f (p + 1) n (λ q le lt. none q (omega arith) (omega arith))
