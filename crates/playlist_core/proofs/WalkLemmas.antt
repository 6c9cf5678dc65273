-- Two days gone through side by side: of the other day's items just the first that doesn't begin before an item can be
-- that one.
use Rattle.std.proofs.Common.{◌≡◌, ℕ, zero, suc, append_assoc, ◌+◌, ◌<◌, ◌≤◌, Bool, true, false, not, ◌||◌, List, []}
use Rattle.std.proofs.Common.{◌∷◌, ◌++◌, cond, drop, one-add, refl, sym, ap, ◌∙◌, arith}
use Rattle.std.specs.Prelude.{if◌then◌else◌}
use Rattle.std.specs.List.{position_or_len}
use Rattle.std.proofs.lemmas.Bool.Decides.{nat_tests}
use Rattle.playlist_core.specs.declared.item.Item.{Item}
use Rattle.playlist_core.specs.Item.{planned}
use Rattle.playlist_core.specs.Order.{end_of, AreApart}
use Rattle.playlist_core.specs.Difference.{same_item, is_among, not_among}
use Rattle.playlist_core.specs.Walk.{first_is, begin_at, from_position}
use Rattle.playlist_core.proofs.SameLemmas.{same_is}

-- one of them begins elsewhere
begins_elsewhere : (a b : Item) → (a.pos ≡ b.pos → ⊥) → same_item a b ≡ false
begins_elsewhere a b apart =
    elim (same_item a b) as (λ v. same_item a b ≡ v → v ≡ false) [
      | true ↦ λ same. absurd (apart (ap (λ (i : Item). i.pos) (same_is a b same)))
      | false ↦ λ _. refl
    ] refl

module _ (o : Item) (rest : List Item) where
  -- what begins before all items is none of them
  earlier_out : (from to : ℕ) (is : List Item) → AreApart planned from to is → o.pos < from
      → not_among (o ∷ rest) is ≡ not_among rest is
  earlier_out from to [] apart lt = refl
  earlier_out from to (i ∷ is) apart lt =
      ap (λ b. if not (b || is_among rest i) then i ∷ not_among (o ∷ rest) is else not_among (o ∷ rest) is)
      (begins_elsewhere o i (λ same. omega (arith, same, apart.0, lt)))
      ∙ ap (λ l. if not (is_among rest i) then i ∷ l else l)
      (earlier_out (end_of (planned i)) to is apart.2 (omega (arith, apart.0, apart.1, lt)))

module _ (x : Item) where
  -- what begins behind an item isn't it
  later_out : (from to : ℕ) (os : List Item) → AreApart planned from to os → x.pos < from → is_among os x ≡ false
  later_out from to [] apart lt = refl
  later_out from to (o ∷ os) apart lt =
      ap (λ b. b || is_among os x) (begins_elsewhere o x (λ same. omega (arith, same, apart.0, lt)))
      ∙ later_out (end_of (planned o)) to os apart.2 (omega (arith, apart.0, apart.1, lt))

  pub first_decides : (from to : ℕ) (os : List Item) → AreApart planned from to os
      → is_among (from_position x.pos os) x ≡ first_is (from_position x.pos os) x
  first_decides from to [] apart = refl
  first_decides from to (o ∷ os) apart =
      elim (begin_at x.pos o)
      as (λ b. begin_at x.pos o ≡ b
      → is_among (drop (cond (not b) (1 + position_or_len (begin_at x.pos) os) 0) (o ∷ os)) x
      ≡ first_is (drop (cond (not b) (1 + position_or_len (begin_at x.pos) os) 0) (o ∷ os)) x) [
        | true ↦ λ at. let le : x.pos ≤ o.pos = grind (arith, nat_tests, at) in
            let none = later_out (end_of (planned o)) to os apart.2 (omega (arith, le, apart.1)) in grind (arith, none)
        | false ↦ λ _. rw (one-add (position_or_len (begin_at x.pos) os))
            (first_decides (end_of (planned o)) to os apart.2)
      ] refl

  pub same_from_position : (from to : ℕ) (xs : List Item) → AreApart planned from to (x ∷ xs) → (os : List Item)
      → not_among (from_position x.pos os) (x ∷ xs) ≡ not_among os (x ∷ xs)
  same_from_position from to xs apart [] = refl
  same_from_position from to xs apart (o ∷ os) =
      elim (begin_at x.pos o)
      as (λ b. begin_at x.pos o ≡ b
      → not_among (drop (cond (not b) (1 + position_or_len (begin_at x.pos) os) 0) (o ∷ os)) (x ∷ xs)
      ≡ not_among (o ∷ os) (x ∷ xs)) [
        | true ↦ λ _. refl
        | false ↦ λ before.
            let lt : o.pos < x.pos = grind (arith, nat_tests, before) in
            ap (λ k. not_among (drop k (o ∷ os)) (x ∷ xs)) (one-add (position_or_len (begin_at x.pos) os))
            ∙ same_from_position from to xs apart os
            ∙ sym (earlier_out o os x.pos to (x ∷ xs) (omega arith, apart.1, apart.2) lt)
      ] refl

-- one turn of the walk: an item that the other day has, or hasn't
module _ (x : Item) (xs rest unlike every : List Item) (from to start end_ : ℕ)
    (apart : AreApart planned from to (x ∷ xs)) (others : AreApart planned start end_ rest)
    (now : unlike ++ not_among rest (x ∷ xs) ≡ every) where
  turn : (b : Bool) → first_is (from_position x.pos rest) x ≡ b
      → unlike
      ++ (if not b then x ∷ not_among (from_position x.pos rest) xs else not_among (from_position x.pos rest) xs)
      ≡ every
  turn b is =
      ap (λ b. unlike
      ++ (if not b then x ∷ not_among (from_position x.pos rest) xs else not_among (from_position x.pos rest) xs))
      (sym (first_decides x start end_ rest others ∙ is))
      ∙ ap (λ l. unlike ++ l) (same_from_position x from to xs apart rest)
      ∙ now

  pub is_there : first_is (from_position x.pos rest) x ≡ true
      → unlike ++ not_among (from_position x.pos rest) xs ≡ every
  is_there is = turn true is

  pub is_unlike : first_is (from_position x.pos rest) x ≡ false
      → (unlike ++ x ∷ []) ++ not_among (from_position x.pos rest) xs ≡ every
  is_unlike is = append_assoc unlike (x ∷ []) (not_among (from_position x.pos rest) xs) ∙ turn false is

pub apart_dropped : (from to : ℕ) (is : List Item) (k : ℕ) → AreApart planned from to is
    → (at : ℕ) × AreApart planned at to (drop k is)
apart_dropped from to is zero apart = (from, apart)
apart_dropped from to [] (suc k) apart = (from, apart)
apart_dropped from to (i ∷ is) (suc k) apart = apart_dropped (end_of (planned i)) to is k apart.2
