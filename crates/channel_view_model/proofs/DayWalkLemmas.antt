-- A table of days, walked row by row.
use Rattle.std.proofs.Common.{◌≡◌, ℕ, ◌+◌, ◌<◌, ◌≤◌, add-one, drop-cons, get_or, length, drop, subst, List, [], ◌∷◌}
use Rattle.std.proofs.Common.{Bool, true, false, ◌&&◌, refl, sym, ◌∙◌, ap, arith}
use Rattle.std.specs.Prelude.{◌==◌, nat_lt, nat_le, find, Some}
use Rattle.std.specs.List.{list_all, AllByRecursion}
use Rattle.std.proofs.lemmas.List.{drop_all, at_drop_more, at_drop_all}
use Rattle.std.proofs.lemmas.Bool.Decides.{nat_tests}
use Rattle.channel_plan.specs.declared.plan.PlanRow.{PlanRow}
use Rattle.channel_plan.specs.Plan.{is_plan_in_order}
use Rattle.playlist_core.specs.Source.{SourcesSeen, seen_of}
use Rattle.playlist_core.specs.Day.{Day}
use Rattle.channel_view_model.specs.Tables.{Table, rows_of}
use Rattle.channel_view_model.specs.Seen.{sources_seen, grants_to}
use Rattle.channel_view_model.specs.Centre.{Centre, seen_by}
use Rattle.channel_view_model.specs.Rules.{is_planned, is_table_of, are_days_of}
use Rattle.channel_view_model.proofs.StepLemmas.{seen_is}

-- the channels do not fall from one on, and each is planned
abbrev pub rising_from : {A : Type 0} → List PlanRow → ℕ → Table A → Bool
rising_from plan last [] = true
rising_from plan last (r ∷ rs) = nat_le last r.0 && is_planned plan r.0 && rising_from plan r.0 rs

module _ {A : Type 0} (plan : List PlanRow) where
  all_from : (k m : ℕ) (rs : Table A) → k ≤ m → list_all (λ s. nat_le m s.0) rs ≡ true
      → list_all (λ s. nat_le k s.0) rs ≡ true
  all_from k m [] le h = refl
  all_from k m (r ∷ rs) le h = grind (arith, nat_tests, h, all_from k m rs le)

  rising_is : (last : ℕ) (t : Table A)
      → rising_from plan last t ≡ (list_all (λ s. nat_le last s.0) t && is_table_of plan t)
  rising_is last [] = refl
  rising_is last (r ∷ rs) = by (nat_le last r.0) refl (rising_is r.0 rs)
    where
      by : (b : Bool) → nat_le last r.0 ≡ b
          → rising_from plan r.0 rs ≡ (list_all (λ s. nat_le r.0 s.0) rs && is_table_of plan rs)
          → (b && is_planned plan r.0 && rising_from plan r.0 rs)
          ≡ (list_all (λ s. nat_le last s.0) (r ∷ rs) && is_table_of plan (r ∷ rs))
      by false lacks rest = grind (arith, lacks)
      by true le rest = among (list_all (λ s. nat_le r.0 s.0) rs) refl
        where
          among : (b : Bool) → list_all (λ s. nat_le r.0 s.0) rs ≡ b
              → (is_planned plan r.0 && rising_from plan r.0 rs)
              ≡ (list_all (λ s. nat_le last s.0) (r ∷ rs) && is_table_of plan (r ∷ rs))
          among false lacks = grind (arith, lacks, rest, le)
          among true all =
              let below : list_all (λ s. nat_le last s.0) rs ≡ true =
              all_from last r.0 rs (grind (arith, nat_tests, le)) all in
              grind (arith, all, rest, le, below)

  all_of_none : (t : Table A) → list_all (λ s. nat_le 0 s.0) t ≡ true
  all_of_none [] = refl
  all_of_none (r ∷ rs) = grind (arith, nat_tests, all_of_none rs)

  pub rising_table : (t : Table A) → rising_from plan 0 t ≡ is_table_of plan t
  rising_table t = rising_is 0 t ∙ ap (λ b. b && is_table_of plan t) (all_of_none t)

-- the days of a channel among the rows
abbrev pub days_from : PlanRow → SourcesSeen → ℕ → Table Day → Bool
days_from plan seen last rows = are_days_of plan seen last (rows_of plan.ch rows)

-- what a channel's clips and the clips lent to it show is what it sees
pub shown_by : (c : ℕ) (p : PlanRow) (rows : Centre)
    → seen_of (rows_of c rows.clips) (grants_to c rows.offers) ≡ sources_seen (seen_by c p rows)
shown_by c p rows = ap sources_seen (sym (seen_is c p rows))

pub found_past : (q : PlanRow) (qs : List PlanRow) (c : ℕ) (p : PlanRow) → list_all (λ r. nat_lt q.ch r.ch) qs ≡ true
    → find (λ r. r.ch == c) qs ≡ Some p → (q.ch == c) ≡ false
found_past q [] c p rising is = absurd (cc)
found_past q (r ∷ qs) c p rising is = at (r.ch == c) refl (found_past q qs c p (grind (arith, rising)))
  where
    at : (b : Bool) → (r.ch == c) ≡ b → (find (λ r. r.ch == c) qs ≡ Some p → (q.ch == c) ≡ false) → (q.ch == c) ≡ false
    at true here rest = grind (arith, nat_tests, rising, here)
    at false other rest = rest (grind (arith, other, is))

-- each channel of the plan is found by its number
abbrev pub AllHave : (ℕ → PlanRow → Bool) → List PlanRow → Type 0
AllHave f plan = (c : ℕ) (p : PlanRow) → find (λ q. q.ch == c) plan ≡ Some p → f c p ≡ true

module _ (f : ℕ → PlanRow → Bool) where
  abbrev pub each_has : List PlanRow → Bool
  each_has plan = list_all (λ p. f p.ch p) plan

  pub have-each : (plan : List PlanRow) → each_has plan ≡ true → AllHave f plan
  have-each [] h c p is = absurd (cc)
  have-each (q ∷ plan) h c p is = by (q.ch == c) refl (have-each plan (grind (arith, h)) c p)
    where
      by : (b : Bool) → (q.ch == c) ≡ b → (find (λ q. q.ch == c) plan ≡ Some p → f c p ≡ true) → f c p ≡ true
      by true here rest =
          let same : q ≡ p = grind (arith, here, is) in
          let number : q.ch ≡ c = grind (arith, nat_tests, here) in
          let one : f q.ch q ≡ true = grind (arith, h) in
          sym (ap (λ k. f k q) number ∙ ap (λ r. f c r) same) ∙ one
      by false other rest = rest (grind (arith, other, is))

  pub each-have : (plan : List PlanRow) → is_plan_in_order plan ≡ true → AllHave f plan → each_has plan ≡ true
  each-have [] order have = refl
  each-have (q ∷ plan) order have =
      let one : f q.ch q ≡ true = have q.ch q (grind (arith, nat_tests)) in
      let rest : each_has plan ≡ true =
      each-have plan (grind (arith, order)) (λ c p is. have c p (later plan c p (grind (arith, order)) is)) in
      grind (arith, one, rest)
    where
      later : (qs : List PlanRow) (c : ℕ) (p : PlanRow) → list_all (λ r. nat_lt q.ch r.ch) qs ≡ true
          → find (λ r. r.ch == c) qs ≡ Some p → find (λ r. r.ch == c) (q ∷ qs) ≡ Some p
      later qs c p rising is = let other = found_past q qs c p rising is in grind (arith, other, is)

-- what holds of one row and of those behind it
pub each_more : {X : Type 0} (P : X → Type 0) (xs : List X) (i : ℕ) (d : X) → i < length xs → P (get_or xs i d)
    → AllByRecursion P (drop (i + 1) xs) → AllByRecursion P (drop i xs)
each_more P xs i d lt one rest =
    let here : drop i xs ≡ get_or xs i d ∷ drop (i + 1) xs = rw (add-one i) (drop-cons xs i d lt) in
    subst (AllByRecursion P) (sym here) (one, rest)

pub each_end : {X : Type 0} (P : X → Type 0) (xs : List X) (i : ℕ) → length xs ≤ i → AllByRecursion P (drop i xs)
each_end P xs i le = subst (AllByRecursion P) (sym (drop_all i xs le)) tt

-- a channel of the plan without its days
pub turn_lacks : (f : ℕ → PlanRow → Bool) (plan items : List PlanRow) (i : ℕ) (d : PlanRow) → items ≡ plan
    → i < length items → f (get_or items i d).ch (get_or items i d) ≡ false → each_has f (drop i plan) ≡ false
turn_lacks f plan items i d same lt lacks =
    subst (λ ps. each_has f (drop i ps) ≡ false) same (at_drop_more (each_has f) items i d lt ∙ grind (arith, lacks))

pub turn_ends : (f : ℕ → PlanRow → Bool) (plan items : List PlanRow) (i : ℕ) → items ≡ plan → length items ≤ i
    → each_has f (drop i plan) ≡ true
turn_ends f plan items i same le =
    subst (λ ps. each_has f (drop i ps) ≡ true) same (at_drop_all (each_has f) items i le)
