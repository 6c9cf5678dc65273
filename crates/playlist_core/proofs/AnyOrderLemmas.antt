-- Rows in any order: how often each frame and each number comes doesn't depend on it.
use Rattle.std.proofs.Common.{◌≡◌, ℕ, zero, suc, ◌+◌, ◌-◌, ◌<◌, ◌≤◌, List, [], ◌∷◌, length, get_or, Bool, true, false}
use Rattle.std.proofs.Common.{cond, Option, Some, None, refl, sym, ◌∙◌, ap, ⊎_elim, arith}
use Rattle.std.specs.Prelude.{◌==◌, ◌↔◌, IsTrue, count_by, All, Contains, IsPermutation, if◌then◌else◌}
use Rattle.std.specs.List.Sorted.{IsNonDecreasingBy}
use Rattle.std.proofs.lemmas.Bool.{cases_lt, false≢true}
use Rattle.std.proofs.lemmas.Bool.Decides.{nat_tests}
use Rattle.std.proofs.lemmas.List.Sums.{sum_by-cons, AllPass-from_list_all, list_all-from_AllPass}
use Rattle.std.specs.List.{list_all}
use Rattle.std.proofs.lemmas.List.Sorted.{Contains-permutation, All-permutation, length_permutation}
use Rattle.std.proofs.lemmas.List.Sorted.{sum_by-IsPermutation}
use Rattle.playlist_core.specs.declared.item.Item.{Item}
use Rattle.playlist_core.specs.Limits.{most_items}
use Rattle.playlist_core.specs.Picture.{Strip, picture_of, first_empty}
use Rattle.playlist_core.specs.Order.{end_of, AreApart}
use Rattle.playlist_core.specs.Item.{planned, is_item}
use Rattle.playlist_core.specs.Day.{Day, KeepsDayRules, FitState, AreNumbered, has_number}
use Rattle.playlist_core.specs.declared.day.DayState.{DayState}
use Rattle.playlist_core.specs.declared.day.DayState.TheVariants.{NotThere, Open, Sealed}
use Rattle.playlist_core.proofs.PictureLemmas.{table_same, shown, covers_in, apart_within, picture_is}
use Rattle.playlist_core.proofs.FullLemmas.{covering, covered_at_most_once, shown_at}

count_by-cons : {X : Type 0} (p : X → Bool) (x : X) (xs : List X) → count_by p (x ∷ xs) ≡ cond (p x) 1 0 + count_by p xs
count_by-cons p x xs = sum_by-cons (λ y. cond (p y) 1 0) x xs

count_yes : {X : Type 0} (p : X → Bool) (x : X) (xs : List X) → p x ≡ true → count_by p (x ∷ xs) ≡ 1 + count_by p xs
count_yes p x xs yes_ = count_by-cons p x xs ∙ ap (λ b. cond b 1 0 + count_by p xs) yes_

count_less : {X : Type 0} (p : X → Bool) (x : X) (xs : List X) → count_by p xs ≤ count_by p (x ∷ xs)
count_less p x xs = let more = count_by-cons p x xs in omega (arith, more)

count-IsPermutation : {X : Type 0} (p : X → Bool) (xs ys : List X) → IsPermutation xs ys → count_by p ys ≡ count_by p xs
count-IsPermutation p xs ys moved = sum_by-IsPermutation (λ x. cond (p x) 1 0) xs ys moved

All-tail : {X : Type 0} (P : X → Type 0) (x : X) (xs : List X) → All P (x ∷ xs) → All P xs
All-tail P x xs all = λ k d lt. all (suc k) d (omega arith)

All-cons : {X : Type 0} (P : X → Type 0) (x : X) (xs : List X) → P x → All P xs → (k : ℕ) (d : X) → k < length (x ∷ xs)
    → P (get_or (x ∷ xs) k d)
All-cons P x xs first rest zero d lt = first
All-cons P x xs first rest (suc k) d lt = rest k d (omega arith)

-- a row that isn't empty and ends in time
abbrev pub Fits : {R C : Type 0} → (R → Strip C) → ℕ → R → Type 0
Fits strip to r = (0 < (strip r).frames) × (end_of (strip r) ≤ to)

module _ {R C : Type 0} (strip : R → Strip C) where
  fits_all : (from to : ℕ) (rows : List R) → AreApart strip from to rows → All (Fits strip to) rows
  fits_all from to [] apart = λ k d lt. absurd (omega arith)
  fits_all from to (r ∷ rs) apart =
      λ k d lt. All-cons (Fits strip to) r rs (apart.1, apart_within strip (end_of (strip r)) to rs apart.2)
      (fits_all (end_of (strip r)) to rs apart.2) k d lt

  -- rows in the order of their positions, of which none covers what another covers, lie apart
  pub apart_in_order : (from to : ℕ) (rows : List R) → All (Fits strip to) rows
      → ((p : ℕ) → count_by (covering strip p) rows ≤ 1) → IsNonDecreasingBy (λ r. (strip r).pos) rows
      → ((d : R) → 0 < length rows → from ≤ (strip (get_or rows 0 d)).pos) → from ≤ to → AreApart strip from to rows
  apart_in_order from to [] fits once order begins le = le
  apart_in_order from to (r ∷ rs) fits once order begins le = (
    begins r (omega arith),
    (fits 0 r (omega arith)).0,
    apart_in_order (end_of (strip r)) to rs (All-tail (Fits strip to) r rs fits)
        (λ p. let less = count_less (covering strip p) r rs in let one = once p in omega arith)
        (λ i j d a lt. order (suc i) (suc j) d (omega arith) (omega arith))
        (λ d some. next r rs d some fits order once)
        (fits 0 r (omega arith)).1,
  )
    where
      next : (r : R) (rs : List R) (d : R) → 0 < length rs → All (Fits strip to) (r ∷ rs)
          → IsNonDecreasingBy (λ r. (strip r).pos) (r ∷ rs) → ((p : ℕ) → count_by (covering strip p) (r ∷ rs) ≤ 1)
          → end_of (strip r) ≤ (strip (get_or rs 0 d)).pos
      next r [] d some fits order once = absurd (omega arith)
      next r (s ∷ rs) d some fits order once =
          ⊎_elim
          (λ lt.
          let p : ℕ = (strip s).pos in
          let sorted : (strip r).pos ≤ (strip s).pos = order 0 1 d (omega arith) (omega arith) in
          let filled = (fits 1 d (omega arith)).0 in
          let one = count_yes (covering strip p) r (s ∷ rs) (covers_in (strip r).pos (strip r).frames p sorted lt) in
          let two =
          count_yes (covering strip p) s rs (covers_in (strip s).pos (strip s).frames p (omega arith) (omega arith))
          in
          let most = once p in
          absurd (omega arith))
          (λ ge. ge)
          (cases_lt (strip s).pos (end_of (strip r)))

  pub apart-IsPermutation : (frames : ℕ) (xs ys : List R) → IsPermutation xs ys
      → IsNonDecreasingBy (λ r. (strip r).pos) ys → AreApart strip 0 frames xs → AreApart strip 0 frames ys
  apart-IsPermutation frames xs ys moved order apart =
      apart_in_order 0 frames ys (All-permutation (Fits strip frames) xs ys moved (fits_all 0 frames xs apart))
      (λ p. let same = count-IsPermutation (covering strip p) xs ys moved in
      let once = covered_at_most_once strip p 0 frames xs apart in omega arith)
      order (λ d some. omega arith) (omega arith)

  -- what is shown first is shown by a row that covers the frame
  covering_row : (rows : List R) (p : ℕ) (v : C) → shown strip rows p ≡ Some v
      → (x : R) × Contains rows x × (covering strip p x ≡ true) × (Some ((strip x).shows (p - (strip x).pos)) ≡ Some v)
  covering_row [] p v h = absurd (cc)
  covering_row (r ∷ rs) p v h = by (covering strip p r) refl (covering_row rs p v)
    where
      by : (b : Bool) → covering strip p r ≡ b
          → (shown strip rs p ≡ Some v
          → (x : R) × Contains rs x × (covering strip p x ≡ true)
          × (Some ((strip x).shows (p - (strip x).pos)) ≡ Some v))
          → (x : R) × Contains (r ∷ rs) x × (covering strip p x ≡ true)
          × (Some ((strip x).shows (p - (strip x).pos)) ≡ Some v)
      by true here rest = (
        r,
        (0, omega arith, refl),
        here,
        sym
            (ap (λ b. if b then Some ((strip r).shows (p - (strip r).pos)) else shown strip rs p) here) ∙ h,
      )
      by false here rest =
          let x =
          rest (sym (ap (λ b. if b then Some ((strip r).shows (p - (strip r).pos)) else shown strip rs p) here) ∙ h)
          in
          (x.0, (suc x.1.0, omega (arith, x.1.1), x.1.2), x.2, x.3)

  none_covering : (rows : List R) (p : ℕ) → shown strip rows p ≡ None → count_by (covering strip p) rows ≡ 0
  none_covering [] p h = refl
  none_covering (r ∷ rs) p h = by (covering strip p r) refl (none_covering rs p)
    where
      by : (b : Bool) → covering strip p r ≡ b → (shown strip rs p ≡ None → count_by (covering strip p) rs ≡ 0)
          → count_by (covering strip p) (r ∷ rs) ≡ 0
      by true here rest =
          absurd
          (let some =
          sym (ap (λ b. if b then Some ((strip r).shows (p - (strip r).pos)) else shown strip rs p) here) ∙ h in cc)
      by false here rest =
          count_by-cons (covering strip p) r rs
          ∙ ap (λ b. cond b 1 0 + count_by (covering strip p) rs) here
          ∙ ap (λ n. 0 + n)
          (rest (sym (ap (λ b. if b then Some ((strip r).shows (p - (strip r).pos)) else shown strip rs p) here) ∙ h))

  uncovered : (rows : List R) (p : ℕ) → count_by (covering strip p) rows ≡ 0 → shown strip rows p ≡ None
  uncovered [] p h = refl
  uncovered (r ∷ rs) p h = by (covering strip p r) refl (uncovered rs p)
    where
      by : (b : Bool) → covering strip p r ≡ b → (count_by (covering strip p) rs ≡ 0 → shown strip rs p ≡ None)
          → shown strip (r ∷ rs) p ≡ None
      by true here rest = absurd (let more = count_yes (covering strip p) r rs here in omega arith)
      by false here rest =
          ap (λ b. if b then Some ((strip r).shows (p - (strip r).pos)) else shown strip rs p) here
          ∙ rest (let less = count_less (covering strip p) r rs in omega arith)

  -- the picture doesn't depend on the order
  pub picture-IsPermutation : (frames : ℕ) (xs ys : List R) → IsPermutation xs ys → AreApart strip 0 frames ys
      → picture_of strip frames xs ≡ picture_of strip frames ys
  picture-IsPermutation frames xs ys moved apart =
      picture_is strip frames xs
      ∙ table_same (shown strip xs) (shown strip ys) 0 frames (λ q le lt. by q (shown strip xs q) refl)
      ∙ sym (picture_is strip frames ys)
    where
      by : (p : ℕ) (o : Option C) → shown strip xs p ≡ o → shown strip xs p ≡ shown strip ys p
      by p None here =
          here ∙ sym (uncovered ys p (count-IsPermutation (covering strip p) xs ys moved ∙ none_covering xs p here))
      by p (Some v) here =
          let row = covering_row xs p v here in
          let there = Contains-permutation xs ys row.0 moved row.1 in
          let covered : covering strip p (get_or ys there.0 row.0) ≡ true = ap (covering strip p) there.2 ∙ row.2 in
          here
          ∙ sym row.3
          ∙ ap (λ (x : R). Some ((strip x).shows (p - (strip x).pos))) (sym there.2)
          ∙ sym (shown_at strip 0 frames ys there.0 row.0 p apart there.1 covered)

-- numbers
abbrev has : ℕ → Item → Bool
has n i = i.n == n

abbrev IsNumber : Item → Type 0
IsNumber i = (0 < i.n) × (i.n ≤ most_items)

numbers_all : (items : List Item) → AreNumbered items → All IsNumber items
numbers_all [] numbered = λ k d lt. absurd (omega arith)
numbers_all (i ∷ is) numbered =
    λ k d lt. All-cons IsNumber i is (numbered.0, numbered.1) (numbers_all is numbered.3) k d lt

none_has : (items : List Item) (n : ℕ) → has_number items n ≡ false → count_by (has n) items ≡ 0
none_has [] n none = refl
none_has (i ∷ is) n none =
    let here : has n i ≡ false = grind (arith, nat_tests, none) in
    count_by-cons (has n) i is ∙ ap (λ b. cond b 1 0 + count_by (has n) is) here
    ∙ ap (λ k. 0 + k) (none_has is n (grind (arith, nat_tests, none)))

has_one : (items : List Item) (n : ℕ) → has_number items n ≡ true → 1 ≤ count_by (has n) items
has_one [] n some = cc
has_one (i ∷ is) n some = by (has n i) refl (has_one is n)
  where
    by : (b : Bool) → has n i ≡ b → (has_number is n ≡ true → 1 ≤ count_by (has n) is) → 1 ≤ count_by (has n) (i ∷ is)
    by true here rest = let more = count_yes (has n) i is here in omega arith
    by false here rest =
        let one = rest (grind (arith, nat_tests, some, here)) in let less = count_less (has n) i is in omega arith

numbered_once : (items : List Item) (n : ℕ) → AreNumbered items → count_by (has n) items ≤ 1
numbered_once [] n numbered = omega arith
numbered_once (i ∷ is) n numbered = by (i.n == n) refl (numbered_once is n numbered.3)
  where
    by : (b : Bool) → has n i ≡ b → count_by (has n) is ≤ 1 → count_by (has n) (i ∷ is) ≤ 1
    by true here rest =
        let same : i.n ≡ n = grind (arith, nat_tests, here) in
        let more = count_yes (has n) i is here in
        let none = none_has is n (ap (has_number is) (sym same) ∙ numbered.2) in
        omega arith
    by false here rest =
        let more = count_by-cons (has n) i is ∙ ap (λ b. cond b 1 0 + count_by (has n) is) here in omega arith

numbered_from : (items : List Item) → All IsNumber items → ((n : ℕ) → count_by (has n) items ≤ 1) → AreNumbered items
numbered_from [] all once = tt
numbered_from (i ∷ is) all once = (
  (all 0 i (omega arith)).0,
  (all 0 i (omega arith)).1,
  by (has_number is i.n) refl,
  numbered_from is (All-tail IsNumber i is all)
      (λ n. let less = count_less (has n) i is in let one = once n in omega arith),
)
  where
    by : (b : Bool) → has_number is i.n ≡ b → has_number is i.n ≡ false
    by false none = none
    by true some =
        let here : has i.n i ≡ true = grind (arith, nat_tests) in
        let more = count_yes (has i.n) i is here in
        let again = has_one is i.n some in
        let most = once i.n in
        absurd (omega arith)

fields_in_order : (xs ys : List Item) → IsPermutation xs ys → list_all is_item xs ≡ true → list_all is_item ys ≡ true
fields_in_order xs ys moved fields =
    list_all-from_AllPass is_item ys
    (All-permutation (λ (i : Item). is_item i ≡ true) xs ys moved (AllPass-from_list_all is_item xs fields))

state_in_order : (state : DayState) (frames : ℕ) (xs ys : List Item) → IsPermutation xs ys
    → AreApart planned 0 frames ys → FitState state frames xs → FitState state frames ys
state_in_order NotThere frames xs ys moved apart fit = none ys (length_permutation xs ys moved ∙ ap length fit)
  where
    none : (ys : List Item) → length ys ≡ length {A = Item} [] → ys ≡ []
    none [] h = refl
    none (y ∷ ys) h = absurd (omega arith)
state_in_order Open frames xs ys moved apart fit = tt
state_in_order Sealed frames xs ys moved apart fit =
    ap first_empty (sym (picture-IsPermutation planned frames xs ys moved apart)) ∙ fit

-- where some order of the items is a day, the order of their positions is one
pub rules_in_order : (day : Day) (ys : List Item) → IsPermutation day.items ys → IsNonDecreasingBy (λ i. i.pos) ys
    → KeepsDayRules day → KeepsDayRules (record day { items = ys })
rules_in_order day ys moved order rules =
    let xs = day.items in
    let apart : AreApart planned 0 day.frames ys =
    apart-IsPermutation planned day.frames xs ys moved order rules.apart in
    record {
      some = rules.some;
      digits = rules.digits;
      apart = apart;
      numbered =
          numbered_from ys (All-permutation IsNumber xs ys moved (numbers_all xs rules.numbered))
          (λ n. let same = count-IsPermutation (has n) xs ys moved in let once = numbered_once xs n rules.numbered in
          omega arith);
      fields = fields_in_order xs ys moved rules.fields;
      state = state_in_order day.state day.frames xs ys moved apart rules.state;
    }

-- what a test that failed decides
pub refuted : (b : Bool) (P : Type 0) → (IsTrue b ↔ P) → b ≡ false → P → ⊥
refuted b P decides fails p = let holds = decides.1 p in absurd (false≢true (sym fails ∙ holds))
