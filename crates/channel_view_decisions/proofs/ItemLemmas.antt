-- A day that took an item, or lost it, has the same items but for that one.
use Rattle.std.proofs.Common.{◌≡◌, ℕ, ◌+◌, Bool, true, false, not, List, [], ◌∷◌, Ok, refl, sym, ap, ◌∙◌, arith}
use Rattle.std.specs.Prelude.{◌==◌, nat_lt, filter, if◌then◌else◌}
use Rattle.std.proofs.lemmas.Bool.Decides.{nat_tests}
use Rattle.playlist_core.specs.declared.item.Item.{Item}
use Rattle.playlist_core.specs.Order.{put}
use Rattle.playlist_core.specs.Day.{Day, with_item, without_item, number_removed, with_removed}

module _ (n : ℕ) where
  without_it : (after : Item → Bool) (x : Item) → (x.n == n) ≡ true → (items : List Item)
      → filter (λ i. not (i.n == n)) (put after x items) ≡ filter (λ i. not (i.n == n)) items
  without_it after x is_n [] = ap (λ b. if not b then x ∷ [] else []) is_n
  without_it after x is_n (i ∷ is) =
      elim (after i)
      as (λ v. filter (λ i. not (i.n == n)) (if v then x ∷ i ∷ is else i ∷ put after x is)
      ≡ filter (λ i. not (i.n == n)) (i ∷ is)) [
        | true ↦ ap
            (λ b. if not b then x ∷ filter (λ i. not (i.n == n)) (i ∷ is) else filter (λ i. not (i.n == n)) (i ∷ is))
            is_n
        | false ↦ ap (λ rest. if not (i.n == n) then i ∷ rest else rest) (without_it after x is_n is)
      ]

  without_twice : (items : List Item)
      → filter (λ i. not (i.n == n)) items ≡ filter (λ i. not (i.n == n)) (filter (λ i. not (i.n == n)) items)
  without_twice [] = refl
  without_twice (i ∷ is) =
      elim (i.n == n)
      as (λ v. (i.n == n) ≡ v
      → (if not v then i ∷ filter (λ i. not (i.n == n)) is else filter (λ i. not (i.n == n)) is)
      ≡ filter (λ i. not (i.n == n))
      (if not v then i ∷ filter (λ i. not (i.n == n)) is else filter (λ i. not (i.n == n)) is)) [
        | true ↦ λ _. without_twice is
        | false ↦ λ other. let rest = without_twice is in grind (arith, other, rest)
      ] refl

pub added : (n : ℕ) (item : Item) (before copied after : Day) → copied ≡ before → n ≡ item.n
    → after ≡ with_item item copied → (without_item n before).items ≡ (without_item n after).items
added n item before copied after same is_n is =
    ap (λ (d : Day). (without_item n d).items) (sym same)
    ∙ sym
    (ap (λ (d : Day). (without_item n d).items) is
    ∙ without_it n (λ i. nat_lt item.pos (i.pos + i.frames)) item (grind (arith, nat_tests, is_n)) copied.items)

pub removed : (n m : ℕ) (before copied after : Day) → copied ≡ before → number_removed copied n ≡ Ok m
    → after ≡ with_removed n (number_removed copied n) copied
    → (without_item n before).items ≡ (without_item n after).items
removed n m before copied after same known is =
    ap (λ (d : Day). (without_item n d).items) (sym same)
    ∙ without_twice n copied.items
    ∙ sym (ap (λ (d : Day). (without_item n d).items) (is ∙ ap (λ r. with_removed n r copied) known))
