-- The sweep for the first empty frame.
use Rattle.std.proofs.Common.{◌≡◌, ℕ, ◌-◌, ◌≤◌, List, [], ◌∷◌, Bool, not, Option, Some, None, refl, sym, ◌∙◌, ap}
use Rattle.std.proofs.Common.{⊎_elim, arith}
use Rattle.std.specs.Prelude.{nat_lt, is_some, if◌then◌else◌}
use Rattle.std.proofs.lemmas.Bool.{cases_lt, lt-ltb, le-ltb}
use Rattle.playlist_core.specs.Picture.{Strip, picture_of, is_painted, least, first_empty}
use Rattle.playlist_core.specs.Order.{end_of, AreApart}
use Rattle.playlist_core.proofs.PictureLemmas.{shown, shown_in, shown_behind, shown_before, apart_within}
use Rattle.playlist_core.proofs.PictureLemmas.{length-picture, is_painted-picture, least_same, least_here, least_skip}
use Rattle.playlist_core.proofs.PictureLemmas.{least_none}

module _ {R C : Type 0} (strip : R → Strip C) where
  -- what the sweep answers, where all frames before `covered` are covered
  abbrev pub gap_from : ℕ → ℕ → List R → Option ℕ
  gap_from frames covered [] = if nat_lt covered frames then Some covered else None
  gap_from frames covered (r ∷ rs) =
      if nat_lt covered (strip r).pos then Some covered else gap_from frames (end_of (strip r)) rs

  abbrev is_empty : List R → ℕ → Bool
  is_empty rows p = not (is_some (shown strip rows p))

  none_left : (frames covered : ℕ) → covered ≤ frames
      → gap_from frames covered [] ≡ least (is_empty []) covered (frames - covered)
  none_left frames covered le =
      ⊎_elim
      (λ lt. ap (λ b. if b then Some covered else None) (lt-ltb covered frames lt)
      ∙ sym (least_here (is_empty []) covered (frames - covered) (omega arith) refl))
      (λ ge. ap (λ b. if b then Some covered else None) (le-ltb covered frames ge)
      ∙ sym (least_none (is_empty []) covered (frames - covered) (λ q a b. absurd (omega arith))))
      (cases_lt covered frames)

  gap_is : (frames covered : ℕ) (rows : List R) → AreApart strip covered frames rows
      → gap_from frames covered rows ≡ least (is_empty rows) covered (frames - covered)
  gap_is frames covered [] apart = none_left frames covered apart
  gap_is frames covered (r ∷ rs) apart =
      let ends : end_of (strip r) ≤ frames = apart_within strip (end_of (strip r)) frames rs apart.2 in
      ⊎_elim
      (λ lt.
      ap (λ b. if b then Some covered else gap_from frames (end_of (strip r)) rs) (lt-ltb covered (strip r).pos lt)
      ∙ sym
      (least_here (is_empty (r ∷ rs)) covered (frames - covered) (omega (arith, apart.1))
      (ap (λ o. not (is_some o))
      (shown_before strip (strip r).pos frames (r ∷ rs) covered (omega arith, apart.1, apart.2) lt))))
      (λ ge.
      ap (λ b. if b then Some covered else gap_from frames (end_of (strip r)) rs) (le-ltb covered (strip r).pos ge)
      ∙ gap_is frames (end_of (strip r)) rs apart.2
      ∙ least_same (is_empty rs) (is_empty (r ∷ rs)) (end_of (strip r)) (frames - end_of (strip r))
      (λ q le lt. ap (λ o. not (is_some o)) (sym (shown_behind strip r rs q le)))
      ∙ ap (λ q. least (is_empty (r ∷ rs)) q (frames - end_of (strip r))) (omega (arith, apart.0))
      ∙ sym
      (least_skip (is_empty (r ∷ rs)) covered (strip r).frames (frames - end_of (strip r))
      (λ q le lt. ap (λ o. not (is_some o)) (shown_in strip r rs q (omega (arith, apart.0)) (omega (arith, apart.0)))))
      ∙ ap (least (is_empty (r ∷ rs)) covered) (omega (arith, apart.0)))
      (cases_lt covered (strip r).pos)

  pub gap-first_empty : (frames : ℕ) (rows : List R) → AreApart strip 0 frames rows
      → gap_from frames 0 rows ≡ first_empty (picture_of strip frames rows)
  gap-first_empty frames rows apart =
      gap_is frames 0 rows apart
      ∙ ap (least (λ p. not (is_some (shown strip rows p))) 0) (omega arith)
      ∙ least_same _ _ 0 frames (λ q le lt. ap not (sym (is_painted-picture strip frames rows q (omega arith))))
      ∙ ap (least (λ p. not (is_painted (picture_of strip frames rows) p)) 0) (sym (length-picture strip frames rows))
