-- What changes of the rows of offers are of the offers that they make.
use Rattle.std.proofs.Common.{◌≡◌, ℕ, Bool, true, false, cond, ◌&&◌, List, [], ◌∷◌, ◌++◌, map, filter, take, drop}
use Rattle.std.proofs.Common.{Option, Some, None, refl, sym, ap, ap₂, ◌∙◌, arith, true≢false, Ordering, is_gt}
use Rattle.std.specs.Prelude.{◌==◌, ◌||◌, find, if◌then◌else◌}
use Rattle.std.specs.Option.{option_map}
use Rattle.std.specs.List.{AllByRecursion, list_any, list_all}
use Rattle.std.specs.Cmp.{IsTotalOrder}
use Rattle.std.proofs.lemmas.Cmp.{on_total, then_total, nat_cmp_total}
use Rattle.std.proofs.lemmas.Bool.Decides.{nat_tests}
use Rattle.sqlite_keyed.specs.Lists.{insert_sorted, update_where}
use Rattle.sqlite_keyed.proofs.ListLemmas.{all_weaker, all_from_test, test_from_all}
use Rattle.vault_core.specs.declared.offer.Offer.{Offer}
use Rattle.vault_core.specs.Window.{Window}
use Rattle.station_tables_records.specs.declared.offer_rows.SpanRow.{SpanRow}
use Rattle.station_tables_records.specs.MadeOffers.{OfferSet, span_cmp, is_span, window_at, offer_made}
use Rattle.station_tables_records.specs.OfferRows.{offer_cmp}
use Rattle.station_tables_records.specs.MadeOffers.{offers_made, has_offer, LacksSpan, with_span, without_window}

pub offer_total : IsTotalOrder offer_cmp
offer_total =
    then_total (on_total (λ (o : ℕ × Offer). o.0) nat_cmp_total) (on_total (λ (o : ℕ × Offer). o.1.n) nat_cmp_total)

pub span_total : IsTotalOrder span_cmp
span_total =
    then_total (on_total (λ (s : ℕ × SpanRow). s.0) nat_cmp_total)
    (on_total (λ (s : ℕ × SpanRow). s.1.offer) nat_cmp_total)

-- ---- what looks at no window

module _ (spans : List (ℕ × SpanRow)) where
  -- a test
  pub made_kept : (p : ℕ × Offer → Bool) → ((o : ℕ × Offer) → p (offer_made spans o) ≡ p o) → (os : List (ℕ × Offer))
      → filter p (map (offer_made spans) os) ≡ map (offer_made spans) (filter p os)
  made_kept p blind [] = refl
  made_kept p blind (o ∷ os) =
      ap (λ b. cond b (offer_made spans o ∷ filter p (map (offer_made spans) os))
      (filter p (map (offer_made spans) os))) (blind o) ∙ by (p o) (made_kept p blind os)
    where
      by : (b : Bool) → filter p (map (offer_made spans) os) ≡ map (offer_made spans) (filter p os)
          → cond b (offer_made spans o ∷ filter p (map (offer_made spans) os)) (filter p (map (offer_made spans) os))
          ≡ map (offer_made spans) (cond b (o ∷ filter p os) (filter p os))
      by true rest = ap (λ l. offer_made spans o ∷ l) rest
      by false rest = rest

  pub made_found : (p : ℕ × Offer → Bool) → ((o : ℕ × Offer) → p (offer_made spans o) ≡ p o) → (os : List (ℕ × Offer))
      → find p (map (offer_made spans) os) ≡ option_map (offer_made spans) (find p os)
  made_found p blind [] = refl
  made_found p blind (o ∷ os) =
      ap (λ b. if b then Some (offer_made spans o) else find p (map (offer_made spans) os)) (blind o)
      ∙ by (p o) (made_found p blind os)
    where
      by : (b : Bool) → find p (map (offer_made spans) os) ≡ option_map (offer_made spans) (find p os)
          → (if b then Some (offer_made spans o) else find p (map (offer_made spans) os))
          ≡ option_map (offer_made spans) (if b then Some o else find p os)
      by true rest = refl
      by false rest = rest

  -- an order
  pub made_inserted : (t : ℕ × Offer) (os : List (ℕ × Offer))
      → map (offer_made spans) (insert_sorted offer_cmp t os)
      ≡ insert_sorted offer_cmp (offer_made spans t) (map (offer_made spans) os)
  made_inserted t [] = refl
  made_inserted t (o ∷ os) = by (is_gt (offer_cmp t o)) (made_inserted t os)
    where
      by : (b : Bool)
          → map (offer_made spans) (insert_sorted offer_cmp t os)
          ≡ insert_sorted offer_cmp (offer_made spans t) (map (offer_made spans) os)
          → map (offer_made spans) (if b then o ∷ insert_sorted offer_cmp t os else t ∷ o ∷ os)
          ≡ (if b then offer_made spans o
          ∷ insert_sorted offer_cmp (offer_made spans t) (map (offer_made spans) os) else offer_made spans t
          ∷ offer_made spans o ∷ map (offer_made spans) os)
      by true rest = ap (λ l. offer_made spans o ∷ l) rest
      by false rest = refl

  -- a change
  pub made_changed : (p : ℕ × Offer → Bool) (g : ℕ × Offer → ℕ × Offer)
      → ((o : ℕ × Offer) → p (offer_made spans o) ≡ p o)
      → ((o : ℕ × Offer) → offer_made spans (g o) ≡ g (offer_made spans o)) → (os : List (ℕ × Offer))
      → map (offer_made spans) (update_where p g os) ≡ update_where p g (map (offer_made spans) os)
  made_changed p g blind same [] = refl
  made_changed p g blind same (o ∷ os) =
      ap₂ (λ x l. x ∷ l) (by (p o) ∙ ap (λ b. if b then g (offer_made spans o) else offer_made spans o) (sym (blind o)))
      (made_changed p g blind same os)
    where
      by : (b : Bool)
          → offer_made spans (if b then g o else o) ≡ (if b then g (offer_made spans o) else offer_made spans o)
      by true = same o
      by false = refl

-- ---- an offer more

found_other : {X : Type 0} (cmp : X → X → Ordering) (p : X → Bool) (x : X) (xs : List X) → p x ≡ false
    → find p (insert_sorted cmp x xs) ≡ find p xs
found_other cmp p x [] other = ap (λ b. if b then Some x else None) other
found_other {X} cmp p x (y ∷ ys) other = by (is_gt (cmp x y)) (found_other cmp p x ys other)
  where
    by : (b : Bool) → find p (insert_sorted cmp x ys) ≡ find p ys
        → find p (if b then y ∷ insert_sorted cmp x ys else x ∷ y ∷ ys) ≡ find p (y ∷ ys)
    by true rest = ap (λ o. if p y then Some y else o) rest
    by false rest = ap (λ b. if b then Some x else find p (y ∷ ys)) other

found_new : {X : Type 0} (cmp : X → X → Ordering) (p : X → Bool) (x : X) (xs : List X) → p x ≡ true
    → AllByRecursion (λ y. p y ≡ false) xs → find p (insert_sorted cmp x xs) ≡ Some x
found_new cmp p x [] mine others = ap (λ b. if b then Some x else None) mine
found_new {X} cmp p x (y ∷ ys) mine others = by (is_gt (cmp x y)) (found_new cmp p x ys mine others.1)
  where
    by : (b : Bool) → find p (insert_sorted cmp x ys) ≡ Some x
        → find p (if b then y ∷ insert_sorted cmp x ys else x ∷ y ∷ ys) ≡ Some x
    by true rest = ap (λ b. if b then Some y else find p (insert_sorted cmp x ys)) others.0 ∙ rest
    by false rest = ap (λ b. if b then Some x else find p (y ∷ ys)) mine

found_none : {X : Type 0} (p : X → Bool) (xs : List X) → AllByRecursion (λ y. p y ≡ false) xs → find p xs ≡ None
found_none p [] none = refl
found_none {X} p (x ∷ xs) none = ap (λ b. if b then Some x else find p xs) none.0 ∙ found_none p xs none.1

-- a test of some, and of all, with one more
any_inserted : {X : Type 0} (cmp : X → X → Ordering) (p : X → Bool) (x : X) (xs : List X)
    → list_any p (insert_sorted cmp x xs) ≡ (p x || list_any p xs)
any_inserted cmp p x [] = refl
any_inserted {X} cmp p x (y ∷ ys) = go (is_gt (cmp x y)) (any_inserted cmp p x ys)
  where
    turn : (a s t : Bool) → (a || (s || t)) ≡ (s || (a || t))
    turn true true t = refl
    turn true false t = refl
    turn false s t = refl

    go : (g : Bool) → list_any p (insert_sorted cmp x ys) ≡ (p x || list_any p ys)
        → list_any p (if g then y ∷ insert_sorted cmp x ys else x ∷ y ∷ ys) ≡ (p x || (p y || list_any p ys))
    go true rest = ap (λ b. p y || b) rest ∙ turn (p y) (p x) (list_any p ys)
    go false rest = refl

still_there : {X : Type 0} (cmp : X → X → Ordering) (p : X → Bool) (x : X) (xs : List X) → list_any p xs ≡ true
    → list_any p (insert_sorted cmp x xs) ≡ true
still_there cmp p x xs there = any_inserted cmp p x xs ∙ by (p x)
  where
    by : (b : Bool) → (b || list_any p xs) ≡ true
    by true = refl
    by false = there

new_there : {X : Type 0} (cmp : X → X → Ordering) (p : X → Bool) (x : X) (xs : List X) → p x ≡ true
    → list_any p (insert_sorted cmp x xs) ≡ true
new_there cmp p x xs mine = any_inserted cmp p x xs ∙ ap (λ b. b || list_any p xs) mine

all_inserted : {X : Type 0} (cmp : X → X → Ordering) (p : X → Bool) (x : X) (xs : List X) → p x ≡ true
    → list_all p xs ≡ true → list_all p (insert_sorted cmp x xs) ≡ true
all_inserted cmp p x [] mine all = ap (λ b. b && true) mine
all_inserted {X} cmp p x (y ∷ ys) mine all = by (is_gt (cmp x y)) (p y) refl all (all_inserted cmp p x ys mine)
  where
    by : (b a : Bool) → p y ≡ a → (a && list_all p ys) ≡ true
        → (list_all p ys ≡ true → list_all p (insert_sorted cmp x ys) ≡ true)
        → list_all p (if b then y ∷ insert_sorted cmp x ys else x ∷ y ∷ ys) ≡ true
    by b false e h rest = absurd (true≢false (sym h))
    by true true e h rest = ap (λ v. v && list_all p (insert_sorted cmp x ys)) e ∙ rest h
    by false true e h rest = ap (λ v. v && list_all p (y ∷ ys)) mine ∙ ap (λ v. v && list_all p ys) e ∙ h

-- the rows with an offer more
abbrev pub add_offer : ℕ → Offer → OfferSet → OfferSet
add_offer c o rows =
    record
    { offers = insert_sorted offer_cmp (c, without_window o) rows.offers; spans = with_span c o.n o.window rows.spans }

-- it is none of these
abbrev pub LacksNumber : ℕ → ℕ → List (ℕ × Offer) → Type 0
LacksNumber c n = AllByRecursion (λ o. (o.0 == c && o.1.n == n) ≡ false)

own_span : (c n : ℕ) (s : ℕ × SpanRow) → (s.0 == c && s.1.offer == n) ≡ true → (o : ℕ × Offer)
    → (o.0 == c && o.1.n == n) ≡ false → (o.0 == s.0 && o.1.n == s.1.offer) ≡ false
own_span c n s mine o other = grind (arith, nat_tests, mine, other)

-- an offer that isn't there has no window
pub lacks_span : (c n : ℕ) (rows : OfferSet) → LacksNumber c n rows.offers
    → list_all (has_offer rows.offers) rows.spans ≡ true → LacksSpan c n rows.spans
lacks_span c n rows lacks owned =
    all_weaker _ (λ s. is_span c n s ≡ false) away rows.spans (all_from_test (has_offer rows.offers) rows.spans owned)
  where
    none : (s : ℕ × SpanRow) → is_span c n s ≡ true → (os : List (ℕ × Offer)) → LacksNumber c n os
        → has_offer os s ≡ false
    none s mine [] lacks = refl
    none s mine (o ∷ os) lacks = ap (λ b. b || has_offer os s) (own_span c n s mine o lacks.0) ∙ none s mine os lacks.1

    away : (s : ℕ × SpanRow) → has_offer rows.offers s ≡ true → is_span c n s ≡ false
    away s has = by (is_span c n s) refl
      where
        by : (b : Bool) → is_span c n s ≡ b → b ≡ false
        by true mine = absurd (true≢false (sym has ∙ none s mine rows.offers lacks))
        by false mine = refl

module _ (c : ℕ) (o : Offer) (rows : OfferSet) (lacks : LacksNumber c o.n rows.offers)
    (owned : list_all (has_offer rows.offers) rows.spans ≡ true) where
  abbrev later : List (ℕ × SpanRow)
  later = with_span c o.n o.window rows.spans

  own_window : (w : Option Window) → window_at c o.n (with_span c o.n w rows.spans) ≡ w
  own_window None =
      ap (option_map (λ s. s.1.window)) (found_none (is_span c o.n) rows.spans (lacks_span c o.n rows lacks owned))
  own_window (Some w) =
      ap (option_map (λ s. s.1.window))
      (found_new span_cmp (is_span c o.n) (c, record { offer = o.n; window = w }) rows.spans (grind (arith, nat_tests))
      (lacks_span c o.n rows lacks owned))

  other_window : (w : Option Window) (x : ℕ × Offer) → (x.0 == c && x.1.n == o.n) ≡ false
      → window_at x.0 x.1.n (with_span c o.n w rows.spans) ≡ window_at x.0 x.1.n rows.spans
  other_window None x other = refl
  other_window (Some w) x other =
      ap (option_map (λ s. s.1.window))
      (found_other span_cmp (is_span x.0 x.1.n) (c, record { offer = o.n; window = w }) rows.spans
      (grind (arith, nat_tests, other)))

  others_made : (os : List (ℕ × Offer)) → LacksNumber c o.n os
      → map (offer_made later) os ≡ map (offer_made rows.spans) os
  others_made [] away = refl
  others_made (x ∷ os) away =
      ap₂ (λ w l. (x.0, record x.1 { window = w }) ∷ l) (other_window o.window x away.0) (others_made os away.1)

  -- the offers are those with this one
  pub offer_added : offers_made (add_offer c o rows) ≡ insert_sorted offer_cmp (c, o) (offers_made rows)
  offer_added =
      made_inserted later (c, without_window o) rows.offers
      ∙ ap₂ (λ w l. insert_sorted offer_cmp (c, record o { window = w }) l) (own_window o.window)
      (others_made rows.offers lacks)

  all_still : (ss : List (ℕ × SpanRow)) → list_all (has_offer rows.offers) ss ≡ true
      → list_all (has_offer (add_offer c o rows).offers) ss ≡ true
  all_still ss all =
      test_from_all (has_offer (add_offer c o rows).offers) ss
      (all_weaker _ (λ s. has_offer (add_offer c o rows).offers s ≡ true)
      (λ s h. still_there offer_cmp (λ x. x.0 == s.0 && x.1.n == s.1.offer) (c, without_window o) rows.offers h) ss
      (all_from_test (has_offer rows.offers) ss all))

  -- and each window has its offer still
  pub owned_added : list_all (has_offer (add_offer c o rows).offers) (add_offer c o rows).spans ≡ true
  owned_added = by o.window
    where
      by : (w : Option Window) → list_all (has_offer (add_offer c o rows).offers) (with_span c o.n w rows.spans) ≡ true
      by None = all_still rows.spans owned
      by (Some w) =
          all_inserted span_cmp (has_offer (add_offer c o rows).offers) (c, record { offer = o.n; window = w })
          rows.spans
          (new_there offer_cmp (λ x. x.0 == c && x.1.n == o.n) (c, without_window o) rows.offers
          (grind (arith, nat_tests))) (all_still rows.spans owned)

-- a change that leaves the numbers leaves each window its offer
pub owned_changed : (p : ℕ × Offer → Bool) (g : ℕ × Offer → ℕ × Offer) → ((o : ℕ × Offer) → (g o).0 ≡ o.0)
    → ((o : ℕ × Offer) → (g o).1.n ≡ o.1.n) → (rows : OfferSet)
    → list_all (has_offer rows.offers) rows.spans ≡ true
    → list_all (has_offer (update_where p g rows.offers)) rows.spans ≡ true
owned_changed p g channel number rows owned =
    test_from_all (has_offer (update_where p g rows.offers)) rows.spans
    (all_weaker _ (λ s. has_offer (update_where p g rows.offers) s ≡ true) (λ s h. any_same s rows.offers ∙ h)
    rows.spans (all_from_test (has_offer rows.offers) rows.spans owned))
  where
    one_same : (s : ℕ × SpanRow) (o : ℕ × Offer) (b : Bool)
        → ((if b then g o else o).0 == s.0 && (if b then g o else o).1.n == s.1.offer)
        ≡ (o.0 == s.0 && o.1.n == s.1.offer)
    one_same s o true = ap₂ (λ c n. c == s.0 && n == s.1.offer) (channel o) (number o)
    one_same s o false = refl

    any_same : (s : ℕ × SpanRow) (os : List (ℕ × Offer)) → has_offer (update_where p g os) s ≡ has_offer os s
    any_same s [] = refl
    any_same s (o ∷ os) = ap₂ ◌||◌ (one_same s o (p o)) (any_same s os)

-- rows without a window make offers without one
pub none_made : (os : List (ℕ × Offer)) → AllByRecursion (λ o. o.1.window ≡ None) os
    → offers_made (record { offers = os; spans = [] }) ≡ os
none_made [] none = refl
none_made (o ∷ os) none = ap₂ (λ w l. (o.0, record o.1 { window = w }) ∷ l) (sym none.0) (none_made os none.1)

-- what is made so far, and the rest as it will be
abbrev pub so_far : List (ℕ × SpanRow) → ℕ → List (ℕ × Offer) → List (ℕ × Offer)
so_far spans i os = take i os ++ map (offer_made spans) (drop i os)
