-- Where `put` puts an element.
use Rattle.std.proofs.Common.{◌≡◌, ℕ, zero, suc, ◌+◌, ◌<◌, ◌≤◌, List, [], ◌∷◌, length, get_or, Bool, true, false, not}
use Rattle.std.proofs.Common.{cond, Option, Some, None, one-add, refl, sym, ◌∙◌, ap, arith}
use Rattle.std.specs.Prelude.{insert, nat_lt, slice_get, if◌then◌else◌}
use Rattle.std.specs.List.{position_or_len}
use Rattle.std.specs.List.Sorted.{IsNonDecreasingBy}
use Rattle.std.proofs.lemmas.Bool.{lt-ltb, le-ltb}
use Rattle.std.proofs.lemmas.Option.{slice_get-get_or, slice_get_past}
use Rattle.playlist_core.specs.Picture.{Strip}
use Rattle.playlist_core.specs.Order.{end_of, AreApart, put}
use Rattle.playlist_core.proofs.TakenLemmas.{taken_at, taken_in}
use Rattle.playlist_core.proofs.OrderLemmas.{ends_behind}
use Rattle.playlist_core.proofs.FullLemmas.{apart_at}

module _ {R : Type 0} (a : R → Bool) where
  pub at_place : (x : R) (rs : List R) → insert rs (position_or_len a rs) x ≡ put a x rs
  at_place x [] = refl
  at_place x (r ∷ rs) =
      elim (a r)
      as (λ b. insert (r ∷ rs) (cond (not b) (1 + position_or_len a rs) 0) x
      ≡ cond b (x ∷ r ∷ rs) (r ∷ put a x rs)) [
        | true ↦ refl
        | false ↦ rw (one-add (position_or_len a rs)) (ap (λ zs. r ∷ zs) (at_place x rs))
      ]

  -- where rows are cut that fail before and pass from there on
  pub cut_is : (rs : List R) (k : ℕ) → k ≤ length rs → ((j : ℕ) (d : R) → j < k → a (get_or rs j d) ≡ false)
      → ((j : ℕ) (d : R) → k ≤ j → j < length rs → a (get_or rs j d) ≡ true) → k ≡ position_or_len a rs
  cut_is [] k le before behind = omega arith
  cut_is (r ∷ rs) zero le before behind =
      let here : a r ≡ true = behind 0 r (omega arith) (omega arith) in
      sym (ap (λ b. cond (not b) (1 + position_or_len a rs) 0) here)
  cut_is (r ∷ rs) (suc k) le before behind =
      let here : a r ≡ false = before 0 r (omega arith) in
      let rest : k ≡ position_or_len a rs =
      cut_is rs k (omega arith) (λ j d lt. before (suc j) d (omega arith))
      (λ j d from lt. behind (suc j) d (omega arith) (omega arith)) in
      let more : suc k ≡ 1 + position_or_len a rs = omega (arith, rest) in
      more ∙ sym (ap (λ b. cond (not b) (1 + position_or_len a rs) 0) here)

module _ {R C : Type 0} (strip : R → Strip C) where
  -- the ends of rows that lie apart rise
  pub ends_rise : (from to : ℕ) (rows : List R) → AreApart strip from to rows
      → IsNonDecreasingBy (λ r. end_of (strip r)) rows
  ends_rise from to [] apart i j d le lt = absurd (omega arith)
  ends_rise from to (r ∷ rs) apart zero zero d le lt = omega arith
  ends_rise from to (r ∷ rs) apart zero (suc j) d le lt =
      let later = apart_at strip (end_of (strip r)) to rs j d apart.2 (omega arith) in
      omega (arith, later.0)
  ends_rise from to (r ∷ rs) apart (suc i) zero d le lt = absurd (omega arith)
  ends_rise from to (r ∷ rs) apart (suc i) (suc j) d le lt =
      ends_rise (end_of (strip r)) to rs apart.2 i j d (omega arith) (omega arith)

  -- what is taken is decided by the first row that ends behind the position
  module _ (place frames : ℕ) where
    abbrev pub taken_by : Option R → Option ℕ
    taken_by None = None
    taken_by (Some r) = taken_at strip place frames r

    pub taken_there : (rows : List R)
        → taken_in strip place frames rows ≡ taken_by (slice_get rows (position_or_len (ends_behind strip place) rows))
    taken_there [] = refl
    taken_there (r ∷ rs) =
        elim (nat_lt place (end_of (strip r)))
        as (λ b. (if b then taken_at strip place frames r else taken_in strip place frames rs)
        ≡ taken_by (slice_get (r ∷ rs) (cond (not b) (1 + position_or_len (ends_behind strip place) rs) 0))) [
          | true ↦ refl
          | false ↦ taken_there rs
              ∙ ap (λ k. taken_by (slice_get (r ∷ rs) k)) (sym (one-add (position_or_len (ends_behind strip place) rs)))
        ]

    pub taken_here : (rows : List R) (k : ℕ) (r : R) → k ≡ position_or_len (ends_behind strip place) rows
        → k < length rows → r ≡ get_or rows k r → taken_in strip place frames rows ≡ taken_at strip place frames r
    taken_here rows k r found lt read =
        taken_there rows ∙ ap (λ j. taken_by (slice_get rows j)) (sym found)
        ∙ ap taken_by (slice_get-get_or rows k r lt ∙ ap (λ (x : R). Some x) (sym read))

    pub taken_nowhere : (rows : List R) (k : ℕ) → k ≡ position_or_len (ends_behind strip place) rows → length rows ≤ k
        → taken_in strip place frames rows ≡ None
    taken_nowhere rows k found le =
        taken_there rows ∙ ap (λ j. taken_by (slice_get rows j)) (sym found) ∙ ap taken_by (slice_get_past rows k le)

  -- a row stands where one that begins at its position belongs
  pub stands_at : (from to : ℕ) (rows : List R) (k : ℕ) (d x : R) → AreApart strip from to rows → k < length rows
      → get_or rows k d ≡ x → k ≡ position_or_len (ends_behind strip (strip x).pos) rows
  stands_at from to [] k d x apart lt read = absurd (omega arith)
  stands_at from to (r ∷ rs) zero d x apart lt read =
      let same : (strip r).pos ≡ (strip x).pos = ap (λ (y : R). (strip y).pos) read in
      let here : ends_behind strip (strip x).pos r ≡ true =
      lt-ltb (strip x).pos (end_of (strip r)) (omega (arith, apart.1)) in
      sym (ap (λ b. cond (not b) (1 + position_or_len (ends_behind strip (strip x).pos) rs) 0) here)
  stands_at from to (r ∷ rs) (suc k) d x apart lt read =
      let same : (strip (get_or rs k d)).pos ≡ (strip x).pos = ap (λ (y : R). (strip y).pos) read in
      let later = apart_at strip (end_of (strip r)) to rs k d apart.2 (omega arith) in
      let here : ends_behind strip (strip x).pos r ≡ false =
      le-ltb (strip x).pos (end_of (strip r)) (omega (arith, later.0)) in
      let rest = stands_at (end_of (strip r)) to rs k d x apart.2 (omega arith) read in
      let more : suc k ≡ 1 + position_or_len (ends_behind strip (strip x).pos) rs = omega (arith, rest) in
      more ∙ sym (ap (λ b. cond (not b) (1 + position_or_len (ends_behind strip (strip x).pos) rs) 0) here)
