-- The sweep for the first frame of a range that is covered.
use Rattle.std.proofs.Common.{◌≡◌, ℕ, ◌+◌, ◌-◌, ◌<◌, ◌≤◌, max, List, [], ◌∷◌, Bool, true, Option, Some, None, refl, sym}
use Rattle.std.proofs.Common.{◌∙◌, ap, ⊎_elim, arith}
use Rattle.std.specs.Prelude.{nat_lt, is_some, if◌then◌else◌}
use Rattle.std.proofs.lemmas.Bool.{cases_lt, lt-ltb, le-ltb}
use Rattle.playlist_core.specs.Picture.{Strip, picture_of, is_painted, least, first_painted}
use Rattle.playlist_core.specs.Order.{end_of, AreApart}
use Rattle.playlist_core.proofs.PictureLemmas.{shown, shown_in, shown_behind, shown_before, is_painted-picture}
use Rattle.playlist_core.proofs.PictureLemmas.{least_same, least_here, least_skip, least_none}

module _ {R C : Type 0} (strip : R → Strip C) (position frames : ℕ) where
  -- what the sweep answers at the first row that ends behind the position
  abbrev pub taken_at : R → Option ℕ
  taken_at r = if nat_lt (strip r).pos (position + frames) then Some (max position (strip r).pos) else None

  abbrev pub taken_in : List R → Option ℕ
  taken_in [] = None
  taken_in (r ∷ rs) = if nat_lt position (end_of (strip r)) then taken_at r else taken_in rs

abbrev is_taken : {R C : Type 0} → (R → Strip C) → List R → ℕ → Bool
is_taken strip rows p = is_some (shown strip rows p)

module _ {R C : Type 0} (strip : R → Strip C) (position frames : ℕ) (some : 0 < frames) where
  -- the row begins before the range, or in it
  meets : (from to : ℕ) (r : R) (rs : List R) → AreApart strip from to (r ∷ rs) → position < end_of (strip r)
      → (strip r).pos < position + frames
      → Some (max position (strip r).pos) ≡ least (is_taken strip (r ∷ rs)) position frames
  meets from to r rs apart ends begins =
      let q : ℕ = max position (strip r).pos in
      let here : is_taken strip (r ∷ rs) q ≡ true =
      ap is_some (shown_in strip r rs q (omega arith) (omega (arith, apart.1))) in
      let all : frames ≡ (q - position) + (frames - (q - position)) = omega arith in
      let there : position + (q - position) ≡ q = omega arith in
      sym (least_here (is_taken strip (r ∷ rs)) q (frames - (q - position)) (omega arith) here)
      ∙ ap (λ k. least (is_taken strip (r ∷ rs)) k (frames - (q - position))) (sym there)
      ∙ sym
      (least_skip (is_taken strip (r ∷ rs)) position (q - position) (frames - (q - position))
      (λ k le lt. ap is_some
      (shown_before strip (strip r).pos to (r ∷ rs) k (omega arith, apart.1, apart.2) (omega arith))))
      ∙ ap (least (is_taken strip (r ∷ rs)) position) (sym all)

  taken_is : (from to : ℕ) (rows : List R) → AreApart strip from to rows
      → taken_in strip position frames rows ≡ least (is_taken strip rows) position frames
  taken_is from to [] apart = sym (least_none (is_taken strip []) position frames (λ q le lt. refl))
  taken_is from to (r ∷ rs) apart =
      ⊎_elim
      (λ ends.
      ap (λ b. if b then taken_at strip position frames r else taken_in strip position frames rs)
      (lt-ltb position (end_of (strip r)) ends)
      ∙ ⊎_elim
      (λ begins.
      ap (λ b. if b then Some (max position (strip r).pos) else None) (lt-ltb (strip r).pos (position + frames) begins)
      ∙ meets from to r rs apart ends begins)
      (λ later.
      ap (λ b. if b then Some (max position (strip r).pos) else None) (le-ltb (strip r).pos (position + frames) later)
      ∙ sym
      (least_none (is_taken strip (r ∷ rs)) position frames
      (λ k le lt. ap is_some
      (shown_before strip (strip r).pos to (r ∷ rs) k (omega arith, apart.1, apart.2) (omega arith)))))
      (cases_lt (strip r).pos (position + frames)))
      (λ ended.
      ap (λ b. if b then taken_at strip position frames r else taken_in strip position frames rs)
      (le-ltb position (end_of (strip r)) ended)
      ∙ taken_is (end_of (strip r)) to rs apart.2
      ∙ least_same (is_taken strip rs) (is_taken strip (r ∷ rs)) position frames
      (λ q le lt. ap is_some (sym (shown_behind strip r rs q (omega arith)))))
      (cases_lt position (end_of (strip r)))

  pub taken-first_painted : (day : ℕ) (rows : List R) → AreApart strip 0 day rows → position + frames ≤ day
      → taken_in strip position frames rows ≡ first_painted position frames (picture_of strip day rows)
  taken-first_painted day rows apart within =
      taken_is 0 day rows apart
      ∙ least_same (is_taken strip rows) (is_painted (picture_of strip day rows)) position frames
      (λ q le lt. sym (is_painted-picture strip day rows q (omega arith)))
