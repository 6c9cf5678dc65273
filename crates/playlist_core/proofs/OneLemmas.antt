-- Days of which no item differs, or just that of one number.
use Rattle.std.proofs.Common.{◌≡◌, ℕ, true, false, ◌&&◌, ◌||◌, not, List, [], ◌∷◌, refl, sym, ap, ap₂, ◌∙◌, arith}
use Rattle.std.specs.Prelude.{◌==◌, filter, if◌then◌else◌}
use Rattle.std.proofs.lemmas.Map.Views.{any-filter_same}
use Rattle.playlist_core.specs.declared.item.Item.{Item}
use Rattle.playlist_core.specs.Difference.{same_item, is_among, not_among}
use Rattle.playlist_core.proofs.SameLemmas.{same_is, same_itself}

module _ (n : ℕ) (others items : List Item)
    (same : filter (λ i. not (i.n == n)) items ≡ filter (λ i. not (i.n == n)) others) where
  -- an item of another number is in both or in neither
  is_in_both : (i : Item) → (i.n == n) ≡ false → is_among items i ≡ is_among others i
  is_in_both i other =
      sym (kept items) ∙ ap (λ is. is_among is i) same ∙ kept others
    where
      kept : (is : List Item) → is_among (filter (λ i. not (i.n == n)) is) i ≡ is_among is i
      kept is =
          any-filter_same (λ k. same_item k i) (λ k. not (k.n == n)) true
          (λ k is. ap (λ (k : Item). not (k.n == n)) (same_is k i is) ∙ ap not other) is

  unlike_among : (is : List Item) → ((i : Item) → is_among is i ≡ true → is_among items i ≡ true)
      → filter (λ i. (i.n == n) && not (is_among others i)) is ≡ not_among others is
  unlike_among [] there = refl
  unlike_among (i ∷ is) there =
      let rest : filter (λ i. (i.n == n) && not (is_among others i)) is ≡ not_among others is =
      unlike_among is (λ k among. there k (grind (arith, among))) in
      elim (i.n == n)
      as (λ v. (i.n == n) ≡ v
      → (if v
      && not (is_among others i) then i
      ∷ filter (λ i. (i.n == n) && not (is_among others i)) is
      else filter (λ i. (i.n == n) && not (is_among others i)) is)
      ≡ (if not (is_among others i) then i ∷ not_among others is else not_among others is)) [
        | true ↦ λ _. ap₂ (λ l m. if not (is_among others i) then i ∷ l else m) rest rest
        | false ↦ λ other. rest
            ∙ ap (λ b. if not b then i ∷ not_among others is else not_among others is)
            (sym (sym (is_in_both i other) ∙ there i (ap (λ b. b || is_among is i) (same_itself i))))
      ] refl

  pub unlike_of_number : (read : List Item) → read ≡ items
      → filter (λ i. (i.n == n) && not (is_among others i)) read ≡ not_among others items
  unlike_of_number read is_read =
      ap (filter (λ i. (i.n == n) && not (is_among others i))) is_read ∙ unlike_among items (λ i among. among)

-- nothing is in a list that isn't in that list
none_unlike : (is others : List Item) → ((i : Item) → is_among is i ≡ true → is_among others i ≡ true)
    → not_among others is ≡ []
none_unlike [] others there = refl
none_unlike (i ∷ is) others there =
    ap (λ b. if not b then i ∷ not_among others is else not_among others is)
    (there i (ap (λ b. b || is_among is i) (same_itself i)))
    ∙ none_unlike is others (λ k among. there k (grind (arith, among)))

pub same_unlike : (items others : List Item) → items ≡ others → not_among others items ≡ []
same_unlike items others same = none_unlike items others (λ i among. ap (λ is. is_among is i) (sym same) ∙ among)
