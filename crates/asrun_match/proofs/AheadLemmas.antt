-- What is left of a list of rows, seen from a frame on.
use Rattle.std.proofs.Common.{◌≡◌, ℕ, ◌+◌, ◌*◌, ◌<◌, ◌≤◌, List, [], ◌∷◌, length, refl, sym, ◌∙◌, ap, subst, ⊎_elim}
use Rattle.std.proofs.Common.{arith}
use Rattle.std.specs.Prelude.{nat_lt, if◌then◌else◌}
use Rattle.std.proofs.lemmas.Bool.{cases_lt, lt-ltb, le-ltb}
use Rattle.playlist_core.specs.Picture.{Strip}
use Rattle.playlist_core.specs.Order.{end_of, AreApart, AreEndToEnd}
use Rattle.playlist_core.proofs.PictureLemmas.{shown, shown_behind}
use Rattle.asrun_match.proofs.StepLemmas.{behind}

-- rows that lie apart, of which the first hasn't ended yet
abbrev pub LieAhead : {R C : Type 0} → (R → Strip C) → ℕ → ℕ → List R → Type 0
LieAhead strip at to [] = at ≤ to
LieAhead strip at to (r ∷ rs) =
    (at < end_of (strip r)) × (0 < (strip r).frames) × AreApart strip (end_of (strip r)) to rs

-- rows end to end, of which the first covers the frame
abbrev pub CoverAhead : {R C : Type 0} → (R → Strip C) → ℕ → ℕ → List R → Type 0
CoverAhead strip at to [] = at ≡ to
CoverAhead strip at to (r ∷ rs) =
    ((strip r).pos ≤ at) × (at < end_of (strip r)) × AreEndToEnd strip (end_of (strip r)) to rs

-- a frame up to which the first row lasts
abbrev pub LastsTo : {R C : Type 0} → (R → Strip C) → ℕ → List R → Type 0
LastsTo strip e [] = Unit {0}
LastsTo strip e (r ∷ rs) = e ≤ end_of (strip r)

module _ {R C : Type 0} (strip : R → Strip C) where
  pub ahead-from_apart : (at to : ℕ) (rows : List R) → AreApart strip at to rows → LieAhead strip at to rows
  ahead-from_apart at to [] apart = apart
  ahead-from_apart at to (r ∷ rs) apart = (omega (arith, apart.0, apart.1), apart.1, apart.2)

  pub cover-from_end_to_end : (at to : ℕ) (rows : List R) → AreEndToEnd strip at to rows → CoverAhead strip at to rows
  cover-from_end_to_end at to [] whole = whole
  cover-from_end_to_end at to (r ∷ rs) whole = (omega (arith, whole.0), omega (arith, whole.0, whole.1), whole.2)

  pub within_end : (from to : ℕ) (rows : List R) → AreEndToEnd strip from to rows → from ≤ to
  within_end from to [] whole = omega arith
  within_end from to (r ∷ rs) whole =
      let rest = within_end (end_of (strip r)) to rs whole.2 in omega (arith, whole.0, whole.1)

  pub ahead-behind : (at e to : ℕ) (rows : List R) → e ≤ to → LastsTo strip e rows → LieAhead strip at to rows
      → LieAhead strip e to (behind strip e rows)
  ahead-behind at e to [] le lasts ahead = le
  ahead-behind at e to (r ∷ rs) le lasts ahead =
      ⊎_elim
      (λ lt. subst (λ b. LieAhead strip e to (if b then r ∷ rs else rs)) (sym (lt-ltb e (end_of (strip r)) lt))
      (lt, ahead.1, ahead.2))
      (λ ge. subst (λ b. LieAhead strip e to (if b then r ∷ rs else rs)) (sym (le-ltb e (end_of (strip r)) ge))
      (let same : end_of (strip r) ≡ e = omega arith in
      ahead-from_apart e to rs (subst (λ k. AreApart strip k to rs) same ahead.2)))
      (cases_lt e (end_of (strip r)))

  pub cover-behind : (at e to : ℕ) (r : R) (rs : List R) → at ≤ e → e ≤ end_of (strip r)
      → CoverAhead strip at to (r ∷ rs) → CoverAhead strip e to (behind strip e (r ∷ rs))
  cover-behind at e to r rs later lasts ahead =
      ⊎_elim
      (λ lt. subst (λ b. CoverAhead strip e to (if b then r ∷ rs else rs)) (sym (lt-ltb e (end_of (strip r)) lt))
      (omega (arith, ahead.0), lt, ahead.2))
      (λ ge. subst (λ b. CoverAhead strip e to (if b then r ∷ rs else rs)) (sym (le-ltb e (end_of (strip r)) ge))
      (let same : end_of (strip r) ≡ e = omega arith in
      cover-from_end_to_end e to rs (subst (λ k. AreEndToEnd strip k to rs) same ahead.2)))
      (cases_lt e (end_of (strip r)))

  -- what has ended shows nothing more
  pub shown-behind : (e : ℕ) (rows : List R) (p : ℕ) → e ≤ p → shown strip (behind strip e rows) p ≡ shown strip rows p
  shown-behind e [] p le = refl
  shown-behind e (r ∷ rs) p le =
      ⊎_elim
      (λ lt. ap (λ b. shown strip (if b then r ∷ rs else rs) p) (lt-ltb e (end_of (strip r)) lt))
      (λ ge. ap (λ b. shown strip (if b then r ∷ rs else rs) p) (le-ltb e (end_of (strip r)) ge)
      ∙ sym (shown_behind strip r rs p (omega arith)))
      (cases_lt e (end_of (strip r)))

  pub length-behind : (e : ℕ) (rows : List R) → length (behind strip e rows) ≤ length rows
  length-behind e [] = omega arith
  length-behind e (r ∷ rs) =
      ⊎_elim
      (λ lt. subst (λ b. length (if b then r ∷ rs else rs) ≤ length (r ∷ rs)) (sym (lt-ltb e (end_of (strip r)) lt))
      (omega arith))
      (λ ge. subst (λ b. length (if b then r ∷ rs else rs) ≤ length (r ∷ rs)) (sym (le-ltb e (end_of (strip r)) ge))
      (omega arith))
      (cases_lt e (end_of (strip r)))

  pub length-ended : (e : ℕ) (r : R) (rs : List R) → end_of (strip r) ≤ e → length (behind strip e (r ∷ rs)) ≡ length rs
  length-ended e r rs ge = ap (λ b. length (if b then r ∷ rs else rs)) (le-ltb e (end_of (strip r)) ge)

  -- how many changes the rows may still make: each begins and ends
  abbrev pub changes : ℕ → List R → ℕ
  changes at [] = 0
  changes at (r ∷ rs) = (if nat_lt at (strip r).pos then 2 else 1) + 2 * length rs

  pub changes_at_most : (at : ℕ) (rows : List R) → changes at rows ≤ 2 * length rows
  changes_at_most at [] = omega arith
  changes_at_most at (r ∷ rs) =
      ⊎_elim
      (λ lt. subst (λ b. (if b then 2 else 1) + 2 * length rs ≤ 2 * length (r ∷ rs)) (sym (lt-ltb at (strip r).pos lt))
      (omega arith))
      (λ ge. subst (λ b. (if b then 2 else 1) + 2 * length rs ≤ 2 * length (r ∷ rs)) (sym (le-ltb at (strip r).pos ge))
      (omega arith))
      (cases_lt at (strip r).pos)

  changes_before : (at : ℕ) (r : R) (rs : List R) → at < (strip r).pos → changes at (r ∷ rs) ≡ 2 + 2 * length rs
  changes_before at r rs lt = ap (λ b. (if b then 2 else 1) + 2 * length rs) (lt-ltb at (strip r).pos lt)

  changes_begun : (at : ℕ) (r : R) (rs : List R) → (strip r).pos ≤ at → changes at (r ∷ rs) ≡ 1 + 2 * length rs
  changes_begun at r rs ge = ap (λ b. (if b then 2 else 1) + 2 * length rs) (le-ltb at (strip r).pos ge)

  -- one less where a row begins
  pub changes-begins : (at e : ℕ) (r : R) (rs : List R) → at < (strip r).pos → (strip r).pos ≤ e → e < end_of (strip r)
      → changes e (behind strip e (r ∷ rs)) < changes at (r ∷ rs)
  changes-begins at e r rs before begun lasts =
      let old = changes_before at r rs before in
      let new : changes e (behind strip e (r ∷ rs)) ≡ 1 + 2 * length rs =
      ap (λ b. changes e (if b then r ∷ rs else rs)) (lt-ltb e (end_of (strip r)) lasts)
      ∙ changes_begun e r rs begun in
      omega (arith, old, new)

  -- and one less where one ends
  pub changes-ends : (at e : ℕ) (r : R) (rs : List R) → end_of (strip r) ≤ e
      → changes e (behind strip e (r ∷ rs)) < changes at (r ∷ rs)
  changes-ends at e r rs ended =
      let left = changes_at_most e rs in
      let new : changes e (behind strip e (r ∷ rs)) ≡ changes e rs =
      ap (λ b. changes e (if b then r ∷ rs else rs)) (le-ltb e (end_of (strip r)) ended) in
      ⊎_elim
      (λ lt. let old = changes_before at r rs lt in omega (arith, old, new, left))
      (λ ge. let old = changes_begun at r rs ge in omega (arith, old, new, left))
      (cases_lt at (strip r).pos)

  -- and never more
  pub changes-later : (at e : ℕ) (rows : List R) → at ≤ e → changes e (behind strip e rows) ≤ changes at rows
  changes-later at e [] le = omega arith
  changes-later at e (r ∷ rs) le =
      ⊎_elim
      (λ lasts.
      let same : changes e (behind strip e (r ∷ rs)) ≡ changes e (r ∷ rs) =
      ap (λ b. changes e (if b then r ∷ rs else rs)) (lt-ltb e (end_of (strip r)) lasts) in
      ⊎_elim
      (λ before.
      let new = changes_before e r rs before in
      let old = changes_before at r rs (omega arith) in
      omega (arith, same, new, old))
      (λ begun.
      let new = changes_begun e r rs begun in
      ⊎_elim
      (λ lt. let old = changes_before at r rs lt in omega (arith, same, new, old))
      (λ ge. let old = changes_begun at r rs ge in omega (arith, same, new, old))
      (cases_lt at (strip r).pos))
      (cases_lt e (strip r).pos))
      (λ ended. let less = changes-ends at e r rs ended in omega (arith, less))
      (cases_lt e (end_of (strip r)))
