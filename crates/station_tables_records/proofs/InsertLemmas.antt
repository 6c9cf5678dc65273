-- A row more among rows in the order of their keys.
use Rattle.std.proofs.Common.{◌≡◌, Bool, true, false, cond, List, [], ◌∷◌, ◌++◌, filter, refl, sym, ap, ◌∙◌, true≢false}
use Rattle.std.proofs.Common.{Ordering, Less, Equal, Greater, is_gt, is_eq}
use Rattle.std.specs.Prelude.{◌||◌, if◌then◌else◌}
use Rattle.std.specs.Ordering.{ordering_reverse}
use Rattle.std.specs.List.{AllByRecursion, list_any}
use Rattle.std.specs.Cmp.{IsTotalOrder}
use Rattle.sqlite_keyed.specs.Lists.{insert_sorted}
use Rattle.sqlite_keyed.proofs.ListLemmas.{all_weaker, all-filter}
use Rattle.station_tables_records.specs.MadeDays.{Rise}

-- what a filter keeps passes its test
pub kept_pass : {X : Type 0} (p : X → Bool) (xs : List X) → AllByRecursion (λ x. p x ≡ true) (filter p xs)
kept_pass {X} p [] = tt
kept_pass {X} p (x ∷ xs) = go (p x) refl (kept_pass p xs)
  where
    go : (b : Bool) → p x ≡ b → AllByRecursion (λ y. p y ≡ true) (filter p xs)
        → AllByRecursion (λ y. p y ≡ true) (cond b (x ∷ filter p xs) (filter p xs))
    go true e rest = (e, rest)
    go false e rest = rest

-- what is said of those that pass holds of each that a filter keeps
pub all_of_kept : {X : Type 0} (p : X → Bool) (P : X → Type 0) (xs : List X) → AllByRecursion (λ x. p x ≡ true → P x) xs
    → AllByRecursion P (filter p xs)
all_of_kept {X} p P [] all = tt
all_of_kept {X} p P (x ∷ xs) all = go (p x) refl (all_of_kept p P xs all.1)
  where
    go : (b : Bool) → p x ≡ b → AllByRecursion P (filter p xs)
        → AllByRecursion P (cond b (x ∷ filter p xs) (filter p xs))
    go true e rest = (all.0 e, rest)
    go false e rest = rest

module _ {X : Type 0} (cmp : X → X → Ordering) where
  pub any_inserted : (p : X → Bool) (x : X) (xs : List X) → list_any p (insert_sorted cmp x xs) ≡ (p x || list_any p xs)
  any_inserted p x [] = refl
  any_inserted p x (y ∷ ys) = go (is_gt (cmp x y)) (any_inserted p x ys)
    where
      turn : (a s t : Bool) → (a || (s || t)) ≡ (s || (a || t))
      turn true true t = refl
      turn true false t = refl
      turn false s t = refl

      go : (g : Bool) → list_any p (insert_sorted cmp x ys) ≡ (p x || list_any p ys)
          → list_any p (if g then y ∷ insert_sorted cmp x ys else x ∷ y ∷ ys) ≡ (p x || (p y || list_any p ys))
      go true rest = ap (λ b. p y || b) rest ∙ turn (p y) (p x) (list_any p ys)
      go false rest = refl

  -- one that was found is found still
  pub still_any : (p : X → Bool) (x : X) (xs : List X) → list_any p xs ≡ true
      → list_any p (insert_sorted cmp x xs) ≡ true
  still_any p x xs there = any_inserted p x xs ∙ by (p x)
    where
      by : (b : Bool) → (b || list_any p xs) ≡ true
      by true = refl
      by false = there

  pub new_any : (p : X → Bool) (x : X) (xs : List X) → p x ≡ true → list_any p (insert_sorted cmp x xs) ≡ true
  new_any p x xs mine = any_inserted p x xs ∙ ap (λ b. b || list_any p xs) mine

  pub all_inserted : (P : X → Type 0) (x : X) (xs : List X) → P x → AllByRecursion P xs
      → AllByRecursion P (insert_sorted cmp x xs)
  all_inserted P x [] h all = (h, tt)
  all_inserted P x (y ∷ ys) h all =
      elim (is_gt (cmp x y)) as (λ b. AllByRecursion P (if b then y ∷ insert_sorted cmp x ys else x ∷ y ∷ ys))
      [ true ↦ (all.0, all_inserted P x ys h all.1) | false ↦ (h, all) ]

  -- a filter that drops it
  pub dropped : (p : X → Bool) (x : X) (xs : List X) → p x ≡ false → filter p (insert_sorted cmp x xs) ≡ filter p xs
  dropped p x [] other = ap (λ b. cond b (x ∷ []) []) other
  dropped p x (y ∷ ys) other = go (is_gt (cmp x y)) (dropped p x ys other)
    where
      go : (g : Bool) → filter p (insert_sorted cmp x ys) ≡ filter p ys
          → filter p (if g then y ∷ insert_sorted cmp x ys else x ∷ y ∷ ys) ≡ filter p (y ∷ ys)
      go true rest = ap (λ l. cond (p y) (y ∷ l) l) rest
      go false rest = ap (λ b. cond b (x ∷ filter p (y ∷ ys)) (filter p (y ∷ ys))) other

  module _ (total : IsTotalOrder cmp) where
    pub rises_inserted : (x : X) (xs : List X) → AllByRecursion (λ y. is_eq (cmp x y) ≡ false) xs → Rise cmp xs
        → Rise cmp (insert_sorted cmp x xs)
    rises_inserted x [] apart up = (tt, tt)
    rises_inserted x (y ∷ ys) apart up = go (cmp x y) refl (rises_inserted x ys apart.1 up.1)
      where
        go : (o : Ordering) → cmp x y ≡ o → Rise cmp (insert_sorted cmp x ys)
            → Rise cmp (if is_gt o then y ∷ insert_sorted cmp x ys else x ∷ y ∷ ys)
        go Less e rest = ((e, all_weaker _ (λ z. cmp x z ≡ Less) (λ z h. total.trans x y z e h) ys up.0), up)
        go Equal e rest = absurd (true≢false (sym (ap is_eq e) ∙ apart.0))
        go Greater e rest =
            (all_inserted (λ z. cmp y z ≡ Less) x ys (total.antisymm y x ∙ ap ordering_reverse e) up.0, rest)

    -- what isn't before x isn't before it with later ones
    above : (x y : X) → cmp y x ≡ Less → is_gt (cmp x y) ≡ true
    above x y less = ap is_gt (total.antisymm x y ∙ ap ordering_reverse less)

    less_from_gt : (x y : X) → is_gt (cmp x y) ≡ true → cmp y x ≡ Less
    less_from_gt x y gt = total.antisymm y x ∙ ap ordering_reverse (by (cmp x y) gt)
      where
        by : (o : Ordering) → is_gt o ≡ true → o ≡ Greater
        by Less h = absurd (true≢false (sym h))
        by Equal h = absurd (true≢false (sym h))
        by Greater h = refl

    none_before : (x y z : X) → is_gt (cmp x y) ≡ false → cmp y z ≡ Less → cmp z x ≡ Less → ⊥
    none_before x y z stays later less = true≢false (sym (above x y (total.trans y z x later less)) ∙ stays)

    not_gt : (x y : X) → is_gt (cmp x y) ≡ false → (z : X) → cmp y z ≡ Less → is_gt (cmp x z) ≡ false
    not_gt x y stays z later = by (is_gt (cmp x z)) refl
      where
        by : (b : Bool) → is_gt (cmp x z) ≡ b → b ≡ false
        by true gt = absurd (none_before x y z stays later (less_from_gt x z gt))
        by false gt = refl

    in_front : (x : X) (xs : List X) → AllByRecursion (λ z. is_gt (cmp x z) ≡ false) xs
        → insert_sorted cmp x xs ≡ x ∷ xs
    in_front x [] all = refl
    in_front x (y ∷ ys) all = ap (λ b. if b then y ∷ insert_sorted cmp x ys else x ∷ y ∷ ys) all.0

    -- a filter that keeps it
    pub kept : (p : X → Bool) (x : X) (xs : List X) → p x ≡ true → Rise cmp xs
        → filter p (insert_sorted cmp x xs) ≡ insert_sorted cmp x (filter p xs)
    kept p x [] mine up = ap (λ b. cond b (x ∷ []) []) mine
    kept p x (y ∷ ys) mine up = go (is_gt (cmp x y)) refl (kept p x ys mine up.1)
      where
        go : (g : Bool) → is_gt (cmp x y) ≡ g → filter p (insert_sorted cmp x ys) ≡ insert_sorted cmp x (filter p ys)
            → filter p (if g then y ∷ insert_sorted cmp x ys else x ∷ y ∷ ys) ≡ insert_sorted cmp x (filter p (y ∷ ys))
        go true gt rest = by (p y)
          where
            by : (b : Bool)
                → cond b (y ∷ filter p (insert_sorted cmp x ys)) (filter p (insert_sorted cmp x ys))
                ≡ insert_sorted cmp x (cond b (y ∷ filter p ys) (filter p ys))
            by true =
                ap (λ l. y ∷ l) rest
                ∙ sym (ap (λ c. if c then y ∷ insert_sorted cmp x (filter p ys) else x ∷ y ∷ filter p ys) gt)
            by false = rest
        go false gt rest =
            ap (λ c. cond c (x ∷ filter p (y ∷ ys)) (filter p (y ∷ ys))) mine
            ∙ sym
            (in_front x (filter p (y ∷ ys))
            (all-filter _ p (y ∷ ys) (gt, all_weaker _ (λ z. is_gt (cmp x z) ≡ false) (not_gt x y gt) ys up.0)))

    -- a filter that keeps it, and before it only lower ones
    pub kept_last : (p : X → Bool) (x : X) (xs : List X) → p x ≡ true → Rise cmp xs
        → AllByRecursion (λ y. p y ≡ true → cmp y x ≡ Less) xs
        → filter p (insert_sorted cmp x xs) ≡ filter p xs ++ x ∷ []
    kept_last p x xs mine up low =
        kept p x xs mine up ∙ behind (filter p xs) (all_of_kept p (λ y. cmp y x ≡ Less) xs low)
      where
        behind : (ys : List X) → AllByRecursion (λ y. cmp y x ≡ Less) ys → insert_sorted cmp x ys ≡ ys ++ x ∷ []
        behind [] all = refl
        behind (y ∷ ys) all =
            ap (λ b. if b then y ∷ insert_sorted cmp x ys else x ∷ y ∷ ys) (above x y all.0)
            ∙ ap (λ l. y ∷ l) (behind ys all.1)
