-- Rows one after another, as a loop tests them.
use Rattle.std.proofs.Common.{◌≡◌, ℕ, ◌+◌, ◌<◌, ◌≤◌, List, [], ◌∷◌, ◌++◌, length, get_or, take, drop, false, ◌||◌, refl}
use Rattle.std.proofs.Common.{sym, ◌∙◌, ap, subst, arith, take-append-drop}
use Rattle.std.specs.Prelude.{◌==◌}
use Rattle.std.proofs.lemmas.Bool.Decides.{nat_tests}
use Rattle.std.proofs.lemmas.List.{drop_more, drop_all, take_more}
use Rattle.std.proofs.lemmas.List.Folds.{list_any-append}
use Rattle.playlist_core.specs.declared.item.Item.{Item}
use Rattle.playlist_core.specs.Limits.{most_items}
use Rattle.playlist_core.specs.Picture.{Strip}
use Rattle.playlist_core.specs.Order.{end_of, AreApart}
use Rattle.playlist_core.specs.Day.{AreNumbered, has_number}

module _ {R C : Type 0} (strip : R → Strip C) (from to : ℕ) (rows : List R) (i : ℕ) (d : R) (lt : i < length rows) where
  abbrev row : R
  row = get_or rows i d

  -- the rows from i on, and those behind it
  pub apart_here : AreApart strip from to (drop i rows)
      → (from ≤ (strip row).pos) × (0 < (strip row).frames) × AreApart strip (end_of (strip row)) to (drop (i + 1) rows)
  apart_here apart = subst (AreApart strip from to) (drop_more rows i d lt) apart

  pub apart_from : from ≤ (strip row).pos → 0 < (strip row).frames
      → AreApart strip (end_of (strip row)) to (drop (i + 1) rows) → AreApart strip from to (drop i rows)
  apart_from begins some rest = subst (AreApart strip from to) (sym (drop_more rows i d lt)) (begins, some, rest)

module _ {R C : Type 0} (strip : R → Strip C) (from to : ℕ) (rows : List R) (i : ℕ) (le : length rows ≤ i) where
  pub apart_last : AreApart strip from to (drop i rows) → from ≤ to
  apart_last apart = subst (AreApart strip from to) (drop_all i rows le) apart

  pub apart-from_last : from ≤ to → AreApart strip from to (drop i rows)
  apart-from_last ends = subst (AreApart strip from to) (sym (drop_all i rows le)) ends

numbered_push : (items : List Item) (x : Item) → AreNumbered items → 0 < x.n → x.n ≤ most_items
    → has_number items x.n ≡ false → AreNumbered (items ++ x ∷ [])
numbered_push [] x numbered some within new = (some, within, refl, tt)
numbered_push (i ∷ is) x numbered some within new = (
  numbered.0,
  numbered.1,
  list_any-append (λ j. j.n == i.n) is (x ∷ [])
      ∙ grind (arith, nat_tests, new, numbered.2),
  numbered_push is x numbered.3 some within
      (grind (arith, nat_tests, new)),
)

numbered_last : (items : List Item) (x : Item) (more : List Item) → AreNumbered (items ++ x ∷ more)
    → (0 < x.n) × (x.n ≤ most_items) × (has_number items x.n ≡ false)
numbered_last [] x more numbered = (numbered.0, numbered.1, refl)
numbered_last (i ∷ is) x more numbered =
    let rest = numbered_last is x more numbered.3 in
    let apart : (has_number is i.n || (x.n == i.n || has_number more i.n)) ≡ false =
    sym (list_any-append (λ j. j.n == i.n) is (x ∷ more)) ∙ numbered.2 in
    (rest.0, rest.1, grind (arith, nat_tests, apart, rest.2))

module _ (items : List Item) (i : ℕ) (d : Item) (n : ℕ) (read : n ≡ (get_or items i d).n) (lt : i < length items) where
  -- the items up to i and those before it
  pub numbered_more : AreNumbered (take i items) → 0 < n → n ≤ most_items → has_number (take i items) n ≡ false
      → AreNumbered (take (i + 1) items)
  numbered_more numbered some within new =
      subst AreNumbered (sym (take_more items i d lt))
      (numbered_push (take i items) (get_or items i d) numbered (omega arith) (omega arith)
      (ap (has_number (take i items)) (sym read) ∙ new))

  pub numbered_here : AreNumbered items → (0 < n) × (n ≤ most_items) × (has_number (take i items) n ≡ false)
  numbered_here numbered =
      let here = numbered_last (take i items) (get_or items i d) (drop (i + 1) items)
      (subst AreNumbered (sym (take-append-drop i items) ∙ ap (λ rest. take i items ++ rest) (drop_more items i d lt))
      numbered) in
      (omega (arith, here.0), omega (arith, here.1), ap (has_number (take i items)) read ∙ here.2)
