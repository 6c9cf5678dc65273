-- How many items a day may have.
use Rattle.std.proofs.Common.{◌≡◌, ℕ, ◌-◌, ◌<◌, ◌≤◌, List, [], ◌∷◌, length, Bool, true, false, refl, arith}
use Rattle.std.specs.Prelude.{map, ◌==◌}
use Rattle.std.specs.List.{list_any, IsDistinct, AllByRecursion}
use Rattle.std.proofs.lemmas.Bool.Decides.{nat_tests}
use Rattle.std.proofs.lemmas.List.{length-map}
use Rattle.std.proofs.lemmas.Map.Steps.{length-le_from_distinct_below}
use Rattle.playlist_core.specs.declared.item.Item.{Item}
use Rattle.playlist_core.specs.Limits.{most_items}
use Rattle.playlist_core.specs.Day.{AreNumbered, has_number}

-- a day has at most 9,999 items
places_of : List Item → List ℕ
places_of items = map (λ i. i.n - 1) items

none_placed : (n : ℕ) (items : List Item) → 0 < n → AreNumbered items → has_number items n ≡ false
    → AllByRecursion (λ m. (n - 1 == m) ≡ false) (places_of items)
unfolding places_of
none_placed n [] some numbered none = tt
none_placed n (i ∷ is) some numbered none =
    let above : 0 < i.n = numbered.0 in
    (grind (arith, nat_tests, none, above, some), none_placed n is some numbered.3 (grind (arith, none)))

places_apart : (items : List Item) → AreNumbered items → IsDistinct (λ m n. m == n) (places_of items)
unfolding IsDistinct places_of
places_apart [] numbered = tt
places_apart (i ∷ is) numbered = (none_placed i.n is numbered.0 numbered.3 numbered.2, places_apart is numbered.3)

places_below : (items : List Item) (q : ℕ) → AreNumbered items → list_any (λ m. q == m) (places_of items) ≡ true
    → q < most_items
unfolding places_of
places_below [] q numbered among = absurd (cc)
places_below (i ∷ is) q numbered among =
    let some : 0 < i.n = numbered.0 in
    let most : i.n ≤ most_items = numbered.1 in
    by (q == (i.n - 1)) refl (places_below is q numbered.3)
  where
    by : (b : Bool) → (q == (i.n - 1)) ≡ b → (list_any (λ m. q == m) (places_of is) ≡ true → q < most_items)
        → q < most_items
    by true here rest =
        let some : 0 < i.n = numbered.0 in
        let most : i.n ≤ most_items = numbered.1 in
        let same : q ≡ i.n - 1 = grind (arith, nat_tests, here) in
        omega arith
    by false here rest = rest (grind (arith, among, here))

pub items_few : (items : List Item) → AreNumbered items → length items ≤ most_items
unfolding places_of
items_few items numbered =
    let few : length (places_of items) ≤ most_items =
    length-le_from_distinct_below (places_of items) most_items (places_apart items numbered)
    (λ q among. places_below items q numbered among) in
    omega (arith, few, length-map items (λ i. i.n - 1))
