-- How often a frame is covered, and days that are covered throughout.
use Rattle.std.proofs.Common.{◌≡◌, ℕ, zero, suc, ◌+◌, ◌-◌, ◌<◌, ◌≤◌, List, [], ◌∷◌, length, get_or, Bool, true, false}
use Rattle.std.proofs.Common.{cond, not, Option, Some, None, refl, sym, ◌∙◌, ap, subst, ⊎_elim, arith}
use Rattle.std.specs.Prelude.{is_some, count_by, if◌then◌else◌}
use Rattle.std.specs.List.{Contains}
use Rattle.std.proofs.lemmas.Bool.{cases_lt, false≢true}
use Rattle.std.proofs.lemmas.List.{get_or_past}
use Rattle.std.proofs.lemmas.List.Sums.{sum_by-cons}
use Rattle.playlist_core.specs.Picture.{Strip, covers, picture_of, is_painted, least, first_empty}
use Rattle.playlist_core.specs.Order.{end_of, AreApart, AreEndToEnd}
use Rattle.playlist_core.proofs.PictureLemmas.{shown, shown_behind, shown_before, covers_before, covers_from}
use Rattle.playlist_core.proofs.PictureLemmas.{covers_within, apart_within, length-picture, get_or-picture}
use Rattle.playlist_core.proofs.PictureLemmas.{is_painted-picture}

-- where none is found, all fail
pub none_least : (f : ℕ → Bool) (p n q : ℕ) → least f p n ≡ None → p ≤ q → q < p + n → f q ≡ false
unfolding least
none_least f p zero q none le lt = absurd (omega arith)
none_least f p (suc n) q none le lt = by (f p) refl (none_least f (p + 1) n q)
  where
    by : (b : Bool) → f p ≡ b → (least f (p + 1) n ≡ None → p + 1 ≤ q → q < p + 1 + n → f q ≡ false) → f q ≡ false
    by true here rest = absurd (let some = sym (ap (λ b. if b then Some p else least f (p + 1) n) here) ∙ none in cc)
    by false here rest =
        ⊎_elim
        (λ later. rest (sym (ap (λ b. if b then Some p else least f (p + 1) n) here) ∙ none) (omega arith)
        (omega arith))
        (λ ge. let same : q ≡ p = omega arith in ap f same ∙ here)
        (cases_lt p q)

module _ {R C : Type 0} (strip : R → Strip C) where
  abbrev pub covering : ℕ → R → Bool
  covering p r = covers (strip r).pos (strip r).frames p

  count_by-cons : (p : ℕ) (r : R) (rs : List R) (b : Bool) → covering p r ≡ b
      → count_by (covering p) (r ∷ rs) ≡ cond b 1 0 + count_by (covering p) rs
  count_by-cons p r rs b here =
      sum_by-cons (λ x. cond (covering p x) 1 0) r rs ∙ ap (λ b. cond b 1 0 + count_by (covering p) rs) here

  covered_before : (p from to : ℕ) (rows : List R) → AreApart strip from to rows → p < from
      → count_by (covering p) rows ≡ 0
  covered_before p from to [] apart lt = refl
  covered_before p from to (r ∷ rs) apart lt =
      count_by-cons p r rs false (covers_before (strip r).pos (strip r).frames p (omega (arith, apart.0)))
      ∙ ap (λ n. 0 + n) (covered_before p (end_of (strip r)) to rs apart.2 (omega (arith, apart.0)))

  -- by what is shown there
  abbrev pub as_shown : Option C → ℕ
  as_shown (Some x) = 1
  as_shown None = 0

  -- a frame is covered once where something is shown, and nowhere else
  pub count-covering : (p from to : ℕ) (rows : List R) → AreApart strip from to rows
      → count_by (covering p) rows ≡ as_shown (shown strip rows p)
  count-covering p from to [] apart = refl
  count-covering p from to (r ∷ rs) apart = by (covering p r) refl (count-covering p (end_of (strip r)) to rs apart.2)
    where
      by : (b : Bool) → covering p r ≡ b → count_by (covering p) rs ≡ as_shown (shown strip rs p)
          → count_by (covering p) (r ∷ rs) ≡ as_shown (shown strip (r ∷ rs) p)
      by true here rest =
          count_by-cons p r rs true here
          ∙ ap (λ n. 1 + n)
          (covered_before p (end_of (strip r)) to rs apart.2 (covers_within (strip r).pos (strip r).frames p here))
          ∙ sym (ap (λ b. as_shown (if b then Some ((strip r).shows (p - (strip r).pos)) else shown strip rs p)) here)
      by false here rest =
          let none : count_by (covering p) (r ∷ rs) ≡ 0 + count_by (covering p) rs = count_by-cons p r rs false here in
          let same : 0 + count_by (covering p) rs ≡ count_by (covering p) rs = omega arith in
          none ∙ same ∙ rest
          ∙ sym (ap (λ b. as_shown (if b then Some ((strip r).shows (p - (strip r).pos)) else shown strip rs p)) here)

  -- a row lies within what all lie in
  pub apart_at : (from to : ℕ) (rows : List R) (k : ℕ) (d : R) → AreApart strip from to rows → k < length rows
      → (from ≤ (strip (get_or rows k d)).pos) × (end_of (strip (get_or rows k d)) ≤ to)
  apart_at from to [] k d apart lt = absurd (omega arith)
  apart_at from to (r ∷ rs) zero d apart lt = (apart.0, apart_within strip (end_of (strip r)) to rs apart.2)
  apart_at from to (r ∷ rs) (suc k) d apart lt =
      let rest = apart_at (end_of (strip r)) to rs k d apart.2 (omega arith) in (omega (arith, apart.0, rest.0), rest.1)

  -- what a row that covers a frame shows is shown there
  pub shown_at : (from to : ℕ) (rows : List R) (k : ℕ) (d : R) (p : ℕ) → AreApart strip from to rows → k < length rows
      → covering p (get_or rows k d) ≡ true
      → shown strip rows p ≡ Some ((strip (get_or rows k d)).shows (p - (strip (get_or rows k d)).pos))
  shown_at from to [] k d p apart lt here = absurd (omega arith)
  shown_at from to (r ∷ rs) zero d p apart lt here =
      ap (λ b. if b then Some ((strip r).shows (p - (strip r).pos)) else shown strip rs p) here
  shown_at from to (r ∷ rs) (suc k) d p apart lt here =
      let later = apart_at (end_of (strip r)) to rs k d apart.2 (omega arith) in
      let begun = covers_from (strip (get_or rs k d)).pos (strip (get_or rs k d)).frames p here in
      shown_behind strip r rs p (omega (arith, later.0))
      ∙ shown_at (end_of (strip r)) to rs k d p apart.2 (omega arith) here

  pub cell_covered : (frames : ℕ) (rows : List R) (x : R) (p : ℕ) → AreApart strip 0 frames rows → Contains rows x
      → covering p x ≡ true
      → get_or (picture_of strip frames rows) p None ≡ Some ((strip x).shows (p - (strip x).pos))
  cell_covered frames rows x p apart among here =
      let there : covering p (get_or rows among.0 x) ≡ true = ap (covering p) among.2 ∙ here in
      let within = apart_at 0 frames rows among.0 x apart among.1 in
      let before = covers_within (strip (get_or rows among.0 x)).pos (strip (get_or rows among.0 x)).frames p there in
      get_or-picture strip frames rows p (omega (arith, within.1))
      ∙ shown_at 0 frames rows among.0 x p apart among.1 there
      ∙ ap (λ (r : R). Some ((strip r).shows (p - (strip r).pos))) among.2

  none_shown : (o : Option C) → as_shown o ≡ 0 → o ≡ None
  none_shown None h = refl
  none_shown (Some x) h = absurd (omega arith)

  one_shown : (o : Option C) → is_some o ≡ true → as_shown o ≡ 1
  one_shown None h = cc
  one_shown (Some x) h = refl

  pub cell_uncovered : (frames : ℕ) (rows : List R) (p : ℕ) → AreApart strip 0 frames rows
      → count_by (covering p) rows ≡ 0 → get_or (picture_of strip frames rows) p None ≡ None
  cell_uncovered frames rows p apart none =
      ⊎_elim
      (λ lt. get_or-picture strip frames rows p lt
      ∙ none_shown (shown strip rows p) (sym (count-covering p 0 frames rows apart) ∙ none))
      (λ ge. get_or_past (picture_of strip frames rows) p None
      (subst (λ n. n ≤ p) (sym (length-picture strip frames rows)) ge))
      (cases_lt p frames)

  pub covered_at_most_once : (p from to : ℕ) (rows : List R) → AreApart strip from to rows
      → count_by (covering p) rows ≤ 1
  covered_at_most_once p from to rows apart =
      subst (λ n. n ≤ 1) (sym (count-covering p from to rows apart)) (by (shown strip rows p))
    where
      by : (o : Option C) → as_shown o ≤ 1
      by None = omega arith
      by (Some x) = omega arith

  -- where no cell is empty, each frame shows something
  pub all_shown : (frames : ℕ) (rows : List R) (p : ℕ) → first_empty (picture_of strip frames rows) ≡ None → p < frames
      → is_some (shown strip rows p) ≡ true
  all_shown frames rows p full lt =
      let filled =
      none_least (λ q. not (is_painted (picture_of strip frames rows) q)) 0 (length (picture_of strip frames rows))
      p full (omega arith) (subst (λ n. p < 0 + n) (sym (length-picture strip frames rows)) (omega arith)) in
      sym (is_painted-picture strip frames rows p lt) ∙ by (is_painted (picture_of strip frames rows) p) filled
    where
      by : (b : Bool) → not b ≡ false → b ≡ true
      by true h = refl
      by false h = cc

  pub covered_once : (frames : ℕ) (rows : List R) (p : ℕ) → AreApart strip 0 frames rows
      → first_empty (picture_of strip frames rows) ≡ None → p < frames → count_by (covering p) rows ≡ 1
  covered_once frames rows p apart full lt =
      count-covering p 0 frames rows apart ∙ one_shown (shown strip rows p) (all_shown frames rows p full lt)

  -- rows that lie apart and show something throughout lie one right behind the other
  pub end_to_end : (from to : ℕ) (rows : List R) → AreApart strip from to rows
      → ((q : ℕ) → from ≤ q → q < to → is_some (shown strip rows q) ≡ true) → AreEndToEnd strip from to rows
  end_to_end from to [] apart filled =
      ⊎_elim
      (λ lt. absurd (false≢true (filled from (omega arith) lt)))
      (λ ge. omega (arith, apart))
      (cases_lt from to)
  end_to_end from to (r ∷ rs) apart filled =
      let ends = apart_within strip (end_of (strip r)) to rs apart.2 in
      ⊎_elim
      (λ lt. absurd
      (false≢true
      (sym (ap is_some (shown_before strip (strip r).pos to (r ∷ rs) from (omega arith, apart.1, apart.2) lt))
      ∙ filled from (omega arith) (omega (arith, apart.1)))))
      (λ ge. (
        omega (arith, apart.0),
        apart.1,
        end_to_end (end_of (strip r)) to rs apart.2
            (λ q le lt. sym (ap is_some (shown_behind strip r rs q le)) ∙ filled q (omega (arith, apart.0)) lt),
      ))
      (cases_lt from (strip r).pos)

  pub full_end_to_end : (frames : ℕ) (rows : List R) → AreApart strip 0 frames rows
      → first_empty (picture_of strip frames rows) ≡ None → AreEndToEnd strip 0 frames rows
  full_end_to_end frames rows apart full = end_to_end 0 frames rows apart (λ q le lt. all_shown frames rows q full lt)
