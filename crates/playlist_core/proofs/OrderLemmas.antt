-- Rows that lie apart: what a further one and a filter do to them, and to what they show.
use Rattle.std.proofs.Common.{◌≡◌, ℕ, ◌+◌, ◌-◌, ◌<◌, ◌≤◌, max, List, [], ◌∷◌, Bool, true, false, cond, Option, Some}
use Rattle.std.proofs.Common.{None, refl, sym, ◌∙◌, ap, subst, ⊎_elim, arith}
use Rattle.std.specs.Prelude.{nat_lt, filter, if◌then◌else◌}
use Rattle.std.proofs.lemmas.Bool.{cases_lt, lt-ltb, le-ltb}
use Rattle.playlist_core.specs.Picture.{Strip, covers, picture_of, paint}
use Rattle.playlist_core.specs.Order.{end_of, AreApart, put}
use Rattle.playlist_core.proofs.PictureLemmas.{table_same, over, shown, covers_before, covers_behind, picture_is}
use Rattle.playlist_core.proofs.PictureLemmas.{paint-table}
use Rattle.playlist_core.proofs.TakenLemmas.{taken_at, taken_in}

module _ {R C : Type 0} (strip : R → Strip C) where
  -- whether a row ends behind a place
  abbrev pub ends_behind : ℕ → R → Bool
  ends_behind position r = nat_lt position (end_of (strip r))

  -- where none meets the range, the first that ends behind its beginning begins behind its end
  begins_behind : (position frames : ℕ) (r : R) → taken_at strip position frames r ≡ None
      → position + frames ≤ (strip r).pos
  begins_behind position frames r none =
      ⊎_elim
      (λ lt. absurd
      (let some =
      ap (λ b. cond b (Some (max position (strip r).pos)) None) (lt-ltb (strip r).pos (position + frames) lt) in
      cc))
      (λ le. le)
      (cases_lt (strip r).pos (position + frames))

  module _ (x : R) where
    free_here : (r : R) (rs : List R) → taken_in strip (strip x).pos (strip x).frames (r ∷ rs) ≡ None
        → (strip x).pos < end_of (strip r) → end_of (strip x) ≤ (strip r).pos
    free_here r rs free lt =
        begins_behind (strip x).pos (strip x).frames r
        (sym (ap
        (λ b. if b then taken_at strip (strip x).pos (strip x).frames r
        else taken_in strip (strip x).pos (strip x).frames rs) (lt-ltb (strip x).pos (end_of (strip r)) lt)) ∙ free)

    free_later : (r : R) (rs : List R) → taken_in strip (strip x).pos (strip x).frames (r ∷ rs) ≡ None
        → end_of (strip r) ≤ (strip x).pos → taken_in strip (strip x).pos (strip x).frames rs ≡ None
    free_later r rs free le =
        sym (ap
        (λ b. if b then taken_at strip (strip x).pos (strip x).frames r
        else taken_in strip (strip x).pos (strip x).frames rs) (le-ltb (strip x).pos (end_of (strip r)) le)) ∙ free

    pub apart_put : (from to : ℕ) (rows : List R) → AreApart strip from to rows → from ≤ (strip x).pos
        → 0 < (strip x).frames → end_of (strip x) ≤ to
        → taken_in strip (strip x).pos (strip x).frames rows ≡ None
        → AreApart strip from to (put (ends_behind (strip x).pos) x rows)
    apart_put from to [] apart begins some ends free = (begins, some, ends)
    apart_put from to (r ∷ rs) apart begins some ends free =
        ⊎_elim
        (λ lt. subst (λ b. AreApart strip from to (if b then x ∷ r ∷ rs else r ∷ put (ends_behind (strip x).pos) x rs))
        (sym (lt-ltb (strip x).pos (end_of (strip r)) lt))
        (begins, some, (free_here r rs free lt, apart.1, apart.2)))
        (λ le. subst (λ b. AreApart strip from to (if b then x ∷ r ∷ rs else r ∷ put (ends_behind (strip x).pos) x rs))
        (sym (le-ltb (strip x).pos (end_of (strip r)) le))
        (apart.0, apart.1, apart_put (end_of (strip r)) to rs apart.2 le some ends (free_later r rs free le)))
        (cases_lt (strip x).pos (end_of (strip r)))

    -- a row that ends before another begins lies beside it
    over_beside : (r : R) (f : ℕ → Option C) (p : ℕ) → end_of (strip r) ≤ (strip x).pos
        → over (strip r) (over (strip x) f) p ≡ over (strip x) (over (strip r) f) p
    over_beside r f p le =
        ⊎_elim
        (λ lt.
        let out = covers_before (strip x).pos (strip x).frames p lt in
        ap (λ b. if covers (strip r).pos (strip r).frames p then Some ((strip r).shows (p - (strip r).pos))
        else (if b then Some ((strip x).shows (p - (strip x).pos)) else f p)) out
        ∙ sym (ap (λ b. if b then Some ((strip x).shows (p - (strip x).pos)) else over (strip r) f p) out))
        (λ ge.
        let out = covers_behind (strip r).pos (strip r).frames p (omega arith) in
        ap (λ b. if b then Some ((strip r).shows (p - (strip r).pos)) else over (strip x) f p) out
        ∙ sym
        (ap
        (λ b. if covers (strip x).pos (strip x).frames p then Some ((strip x).shows (p - (strip x).pos))
        else (if b then Some ((strip r).shows (p - (strip r).pos)) else f p)) out))
        (cases_lt p (strip x).pos)

    pub shown_put : (rows : List R) (p : ℕ)
        → shown strip (put (ends_behind (strip x).pos) x rows) p ≡ over (strip x) (shown strip rows) p
    shown_put [] p = refl
    shown_put (r ∷ rs) p =
        ⊎_elim
        (λ lt. ap (λ b. shown strip (if b then x ∷ r ∷ rs else r ∷ put (ends_behind (strip x).pos) x rs) p)
        (lt-ltb (strip x).pos (end_of (strip r)) lt))
        (λ le.
        ap (λ b. shown strip (if b then x ∷ r ∷ rs else r ∷ put (ends_behind (strip x).pos) x rs) p)
        (le-ltb (strip x).pos (end_of (strip r)) le)
        ∙ ap (λ o. if covers (strip r).pos (strip r).frames p then Some ((strip r).shows (p - (strip r).pos)) else o)
        (shown_put rs p)
        ∙ over_beside r (shown strip rs) p le)
        (cases_lt (strip x).pos (end_of (strip r)))

    -- the picture is painted over
    pub picture-put : (frames : ℕ) (rows : List R)
        → picture_of strip frames (put (ends_behind (strip x).pos) x rows)
        ≡ paint (strip x) (picture_of strip frames rows)
    picture-put frames rows =
        picture_is strip frames (put (ends_behind (strip x).pos) x rows)
        ∙ table_same _ _ 0 frames (λ q le lt. shown_put rows q)
        ∙ sym (paint-table (strip x) (shown strip rows) 0 frames)
        ∙ ap (paint (strip x)) (sym (picture_is strip frames rows))

  -- fewer rows lie apart too
  apart_sooner : (from since to : ℕ) (rows : List R) → from ≤ since → AreApart strip since to rows
      → AreApart strip from to rows
  apart_sooner from since to [] le apart = omega arith
  apart_sooner from since to (r ∷ rs) le apart = (omega (arith, apart.0), apart.1, apart.2)

  pub apart_filter : (p : R → Bool) (from to : ℕ) (rows : List R) → AreApart strip from to rows
      → AreApart strip from to (filter p rows)
  apart_filter p from to [] apart = apart
  apart_filter p from to (r ∷ rs) apart =
      let rest = apart_filter p (end_of (strip r)) to rs apart.2 in
      elim (p r) as (λ b. AreApart strip from to (cond b (r ∷ filter p rs) (filter p rs))) [
        | true ↦ (apart.0, apart.1, rest)
        | false ↦ apart_sooner from (end_of (strip r)) to (filter p rs) (omega (arith, apart.0)) rest
      ]
