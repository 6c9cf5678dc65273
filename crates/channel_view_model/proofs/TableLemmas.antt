-- Tables: a question over the whole is one over what is picked, and what a new row or a changed one does to it.
use Rattle.std.proofs.Common.{◌≡◌, ◌≢◌, ℕ, ◌<◌, ◌≤◌, List, [], ◌∷◌, ◌++◌, length, Bool, true, false, ◌&&◌, refl, sym}
use Rattle.std.proofs.Common.{◌∙◌, ap, subst, arith}
use Rattle.std.specs.Prelude.{map, filter, find, count_by, ◌||◌, ◌==◌, nat_lt, nat_le, if◌then◌else◌}
use Rattle.std.specs.List.{list_any, list_all, flat_map, AllByRecursion}
use Rattle.std.specs.Option.{option_map}
use Rattle.std.proofs.lemmas.Bool.Decides.{nat_tests}
use Rattle.std.proofs.lemmas.List.{length-map}
use Rattle.std.proofs.lemmas.List.Sums.{length-filter}
use Rattle.vault_core.specs.Questions.{listed, alter, IsConsistent, replaced}
use Rattle.vault_core.proofs.ReadingLemmas.{listed_is_consistent}
use Rattle.channel_view_model.specs.Tables.{Table, picked, rows_alone, rows_of, put, add_row, alter_row, replace_row}
use Rattle.channel_view_model.specs.Tables.{is_in_order}

module _ {R A : Type 0} (mine : R → Bool) (f : R → A) where
  some_picked : (rows : List R) (p : A → Bool)
      → list_any (λ r. mine r && p (f r)) rows ≡ list_any p (map f (filter mine rows))
  some_picked [] p = refl
  some_picked (r ∷ rs) p = grind (arith, some_picked rs p)

  first_picked : (rows : List R) (p : A → Bool)
      → option_map f (find (λ r. mine r && p (f r)) rows) ≡ find p (map f (filter mine rows))
  first_picked [] p = refl
  first_picked (r ∷ rs) p = grind (arith, first_picked rs p)

  count_picked : (rows : List R) → count_by mine rows ≡ length (map f (filter mine rows))
  count_picked rows = sym (length-map (filter mine rows) f ∙ length-filter mine rows)

  -- a question over the whole list is one over what is picked
  pub picked_is : (rows : List R) → picked mine f rows ≡ listed (map f (filter mine rows))
  picked_is rows =
      λ i. record {
        some = λ p. some_picked rows p i;
        first = λ p. first_picked rows p i;
        count = count_picked rows i;
        all =
            map f (filter mine rows);
      }

pub picked_is_consistent : {R A : Type 0} (mine : R → Bool) (f : R → A) (rows : List R)
    → IsConsistent (picked mine f rows)
picked_is_consistent mine f rows =
    subst IsConsistent (sym (picked_is mine f rows)) (listed_is_consistent (map f (filter mine rows)))

-- once an element comes after, all behind it do
abbrev pub IsUpward : {R : Type 0} → (R → Bool) → List R → Type 0
IsUpward a [] = Unit {0}
IsUpward a (r ∷ rs) = (a r ≡ true → list_all a rs ≡ true) × IsUpward a rs

module _ {R : Type 0} (a p : R → Bool) where
  -- what isn't picked is put in without a trace
  pub filter-put_out : (x : R) → p x ≡ false → (rs : List R) → filter p (put a x rs) ≡ filter p rs
  filter-put_out x out [] = grind (arith, out)
  filter-put_out x out (r ∷ rs) = grind (arith, out, filter-put_out x out rs)

  list_all-filter : (rs : List R) → list_all a rs ≡ true → list_all a (filter p rs) ≡ true
  list_all-filter [] h = refl
  list_all-filter (r ∷ rs) h = grind (arith, h, list_all-filter rs)

  put_front : (x : R) (rs : List R) → list_all a rs ≡ true → put a x rs ≡ x ∷ rs
  put_front x [] h = refl
  put_front x (r ∷ rs) h = grind (arith, h)

  pub filter-put_in : (x : R) → p x ≡ true → (rs : List R) → IsUpward a rs
      → filter p (put a x rs) ≡ put a x (filter p rs)
  filter-put_in x is [] up = grind (arith, is)
  filter-put_in x is (r ∷ rs) up =
      elim (a r) as (λ b. a r ≡ b → filter p (if b then x ∷ r ∷ rs else r ∷ put a x rs) ≡ put a x (filter p (r ∷ rs))) [
        | true ↦ λ e. grind (arith, is, e, put_front x (filter p rs) (list_all-filter rs (up.0 e)))
        | false ↦ λ e. grind (arith, is, e, filter-put_in x is rs up.1)
      ] refl

module _ {R S : Type 0} where
  pub map-put : (a : R → Bool) (b : S → Bool) (f : R → S) → ((r : R) → b (f r) ≡ a r) → (x : R) (rs : List R)
      → map f (put a x rs) ≡ put b (f x) (map f rs)
  map-put a b f same x [] = refl
  map-put a b f same x (r ∷ rs) = grind (arith, same r, map-put a b f same x rs)

  pub map-alter : (q : R → Bool) (g : R → R) (f : R → S) (q' : S → Bool) (g' : S → S) → ((r : R) → q' (f r) ≡ q r)
      → ((r : R) → f (g r) ≡ g' (f r)) → (rs : List R) → map f (alter q g rs) ≡ alter q' g' (map f rs)
  map-alter q g f q' g' tests makes [] = refl
  map-alter q g f q' g' tests makes (r ∷ rs) = grind (arith, tests r, makes r, map-alter q g f q' g' tests makes rs)

module _ {R : Type 0} where
  -- a change that keeps what is picked
  pub filter-alter : (p q : R → Bool) (g : R → R) → ((r : R) → p (g r) ≡ p r) → (rs : List R)
      → filter p (alter q g rs) ≡ alter q g (filter p rs)
  filter-alter p q g keeps [] = refl
  filter-alter p q g keeps (r ∷ rs) = grind (arith, keeps r, filter-alter p q g keeps rs)

  -- nothing passes
  pub alter_nothing : (q : R → Bool) (g : R → R) (rs : List R) → list_any q rs ≡ false → alter q g rs ≡ rs
  alter_nothing q g [] h = refl
  alter_nothing q g (r ∷ rs) h = grind (arith, h, alter_nothing q g rs)

  put_last : (a : R → Bool) (x : R) (rs : List R) → list_any a rs ≡ false → put a x rs ≡ rs ++ x ∷ []
  put_last a x [] h = refl
  put_last a x (r ∷ rs) h = grind (arith, h, put_last a x rs)

module _ {A : Type 0} where
  pub all_after : (c k : ℕ) (rs : Table A) → c < k → list_all (λ s. nat_le k s.0) rs ≡ true
      → list_all (λ s. nat_lt c s.0) rs ≡ true
  all_after c k [] lt h = refl
  all_after c k (r ∷ rs) lt h = grind (arith, nat_tests, h, all_after c k rs lt)

  pub upward : (c : ℕ) (t : Table A) → is_in_order t ≡ true → IsUpward (λ r. nat_lt c r.0) t
  upward c [] h = tt
  upward c (r ∷ rs) h =
      (λ after. grind (arith, nat_tests, after, h, all_after c r.0 rs), upward c rs (grind (arith, h)))

  -- none of c's rows comes after a new one of c
  none_after : (c : ℕ) (t : Table A) → list_any (λ r. nat_lt c r.0) (filter (λ r. r.0 == c) t) ≡ false
  none_after c [] = refl
  none_after c (r ∷ rs) = grind (arith, nat_tests, none_after c rs)

  map_last : {B : Type 0} (f : ℕ × A → B) (xs : Table A) (y : ℕ × A) → map f (xs ++ y ∷ []) ≡ map f xs ++ f y ∷ []
  map_last f [] y = refl
  map_last f (x ∷ xs) y = ap (λ zs. f x ∷ zs) (map_last f xs y)

  -- a channel's new row is its last
  pub rows_of-add_same : (c : ℕ) (x : A) (t : Table A) → is_in_order t ≡ true
      → rows_of c (add_row c x t) ≡ rows_of c t ++ x ∷ []
  rows_of-add_same c x t order =
      ap (map (λ r. r.1))
      (filter-put_in (λ r. nat_lt c r.0) (λ r. r.0 == c) (c, x) (grind (arith, nat_tests)) t (upward c t order)
      ∙ put_last (λ r. nat_lt c r.0) (c, x) (filter (λ r. r.0 == c) t) (none_after c t))
      ∙ map_last (λ r. r.1) (filter (λ r. r.0 == c) t) (c, x)

  pub rows_of-add_other : (b c : ℕ) (x : A) (t : Table A) → b ≢ c → rows_of c (add_row b x t) ≡ rows_of c t
  rows_of-add_other b c x t differ =
      ap (map (λ r. r.1))
      (filter-put_out (λ r. nat_lt b r.0) (λ r. r.0 == c) (b, x) (grind (arith, nat_tests, differ)) t)

  -- the order stays
  below_put : (k : ℕ) (a : ℕ × A → Bool) (x : ℕ × A) (t : Table A) → k ≤ x.0 → list_all (λ s. nat_le k s.0) t ≡ true
      → list_all (λ s. nat_le k s.0) (put a x t) ≡ true
  below_put k a x [] le h = grind (arith, nat_tests, le)
  below_put k a x (r ∷ rs) le h = grind (arith, nat_tests, le, h, below_put k a x rs le)

  pub in_order-add : (c : ℕ) (x : A) (t : Table A) → is_in_order t ≡ true → is_in_order (add_row c x t) ≡ true
  in_order-add c x [] h = refl
  in_order-add c x (r ∷ rs) h =
      grind (arith, nat_tests, h, in_order-add c x rs, below_put r.0 (λ s. nat_lt c s.0) (c, x) rs, below_all c r.0 rs)
    where
      below_all : (c k : ℕ) (rs : Table A) → c < k → list_all (λ s. nat_le k s.0) rs ≡ true
          → list_all (λ s. nat_le c s.0) rs ≡ true
      below_all c k [] lt h = refl
      below_all c k (r ∷ rs) lt h = grind (arith, nat_tests, h, below_all c k rs lt)

  -- a channel's changed rows are its rows, changed
  pub rows_of-alter_same : (c : ℕ) (p : A → Bool) (f : A → A) (t : Table A)
      → rows_of c (alter_row c p f t) ≡ alter p f (rows_of c t)
  rows_of-alter_same c p f [] = refl
  rows_of-alter_same c p f (r ∷ rs) = grind (arith, nat_tests, rows_of-alter_same c p f rs)

  pub rows_of-alter_other : (b c : ℕ) (p : A → Bool) (f : A → A) (t : Table A) → b ≢ c
      → rows_of c (alter_row b p f t) ≡ rows_of c t
  rows_of-alter_other b c p f [] differ = refl
  rows_of-alter_other b c p f (r ∷ rs) differ = grind (arith, nat_tests, differ, rows_of-alter_other b c p f rs differ)

  -- their channels stay
  pub channels-alter : (test : ℕ → Bool) (c : ℕ) (p : A → Bool) (f : A → A) (t : Table A)
      → list_all (λ r. test r.0) (alter_row c p f t) ≡ list_all (λ r. test r.0) t
  channels-alter test c p f [] = refl
  channels-alter test c p f (r ∷ rs) = grind (arith, channels-alter test c p f rs)

  pub in_order-alter : (c : ℕ) (p : A → Bool) (f : A → A) (t : Table A)
      → is_in_order (alter_row c p f t) ≡ is_in_order t
  in_order-alter c p f [] = refl
  in_order-alter c p f (r ∷ rs) = grind (arith, channels-alter (λ k. nat_le r.0 k) c p f rs, in_order-alter c p f rs)

-- a row in the place of the one with its key
module _ {A : Type 0} (key : A → ℕ) where
  pub none_of : (c : ℕ) (rs : Table A) → list_all (λ s. nat_lt c s.0) rs ≡ true → rows_of c rs ≡ []
  none_of c [] h = refl
  none_of c (r ∷ rs) h = grind (arith, nat_tests, h, none_of c rs)

  pub rows_of-replace_same : (c : ℕ) (x : A) (t : Table A) → is_in_order t ≡ true
      → rows_of c (replace_row key c x t) ≡ replaced key x (rows_of c t)
  rows_of-replace_same c x [] order = grind (arith, nat_tests)
  rows_of-replace_same c x (r ∷ rs) order = by (r.0 == c) refl (rows_of-replace_same c x rs (grind (arith, order)))
    where
      mine : rows_of c ((c, x) ∷ rs) ≡ x ∷ rows_of c rs
      mine = grind (arith, nat_tests)

      by : (b : Bool) → (r.0 == c) ≡ b → rows_of c (replace_row key c x rs) ≡ replaced key x (rows_of c rs)
          → rows_of c (replace_row key c x (r ∷ rs)) ≡ replaced key x (rows_of c (r ∷ rs))
      by true is rest =
          let past : nat_lt c r.0 ≡ false = grind (arith, nat_tests, is) in
          grind (arith, nat_tests, is, past, rest, mine)
      by false is rest = before (nat_lt c r.0) refl
        where
          before : (b : Bool) → nat_lt c r.0 ≡ b
              → rows_of c (replace_row key c x (r ∷ rs)) ≡ replaced key x (rows_of c (r ∷ rs))
          before true lt =
              let none : rows_of c rs ≡ [] =
              none_of c rs (all_after c r.0 rs (grind (arith, nat_tests, lt)) (grind (arith, order))) in
              grind (arith, nat_tests, is, lt, none, mine)
          before false lt = grind (arith, nat_tests, is, lt, rest)

  pub rows_of-replace_other : (b c : ℕ) (x : A) (t : Table A) → b ≢ c → rows_of c (replace_row key b x t) ≡ rows_of c t
  rows_of-replace_other b c x [] differ = grind (arith, nat_tests, differ)
  rows_of-replace_other b c x (r ∷ rs) differ = grind (arith, nat_tests, differ, rows_of-replace_other b c x rs differ)

  below_replace : (k c : ℕ) (x : A) (t : Table A) → k ≤ c → list_all (λ s. nat_le k s.0) t ≡ true
      → list_all (λ s. nat_le k s.0) (replace_row key c x t) ≡ true
  below_replace k c x [] le h = grind (arith, nat_tests, le)
  below_replace k c x (r ∷ rs) le h = grind (arith, nat_tests, le, h, below_replace k c x rs le)

  all_past : (c k : ℕ) (rs : Table A) → c ≤ k → list_all (λ s. nat_le k s.0) rs ≡ true
      → list_all (λ s. nat_le c s.0) rs ≡ true
  all_past c k [] le h = refl
  all_past c k (r ∷ rs) le h = grind (arith, nat_tests, h, all_past c k rs le)

  pub in_order-replace : (c : ℕ) (x : A) (t : Table A) → is_in_order t ≡ true
      → is_in_order (replace_row key c x t) ≡ true
  in_order-replace c x [] h = refl
  in_order-replace c x (r ∷ rs) h = by (r.0 == c && key r.1 == key x) refl (in_order-replace c x rs (grind (arith, h)))
    where
      by : (b : Bool) → (r.0 == c && key r.1 == key x) ≡ b → is_in_order (replace_row key c x rs) ≡ true
          → is_in_order (replace_row key c x (r ∷ rs)) ≡ true
      by true is rest =
          let behind : list_all (λ s. nat_le c s.0) rs ≡ true =
          all_past c r.0 rs (grind (arith, nat_tests, is)) (grind (arith, h)) in
          grind (arith, nat_tests, is, h, behind)
      by false is rest = before (nat_lt c r.0 || (r.0 == c && nat_lt (key x) (key r.1))) refl
        where
          before : (b : Bool) → (nat_lt c r.0 || (r.0 == c && nat_lt (key x) (key r.1))) ≡ b
              → is_in_order (replace_row key c x (r ∷ rs)) ≡ true
          before true here =
              let behind : list_all (λ s. nat_le c s.0) rs ≡ true =
              all_past c r.0 rs (grind (arith, nat_tests, here)) (grind (arith, h)) in
              grind (arith, nat_tests, is, here, h, behind)
          before false here =
              let le : r.0 ≤ c = grind (arith, nat_tests, here) in
              let below = below_replace r.0 c x rs le (grind (arith, h)) in
              grind (arith, nat_tests, is, here, rest, below)

  -- what holds of each row, and of the new one
  pub all-replace : (test : ℕ × A → Bool) (c : ℕ) (x : A) (t : Table A) → test (c, x) ≡ true → list_all test t ≡ true
      → list_all test (replace_row key c x t) ≡ true
  all-replace test c x [] one h = grind (arith, one)
  all-replace test c x (r ∷ rs) one h = grind (arith, one, h, all-replace test c x rs one)

  pub each-replace : (P : ℕ × A → Type 0) (c : ℕ) (x : A) (t : Table A) → P (c, x) → AllByRecursion P t
      → AllByRecursion P (replace_row key c x t)
  each-replace P c x [] one each = (one, tt)
  each-replace P c x (r ∷ rs) one each =
      elim (r.0 == c && key r.1 == key x)
      as (λ b. AllByRecursion P
      (if b then (c, x) ∷ rs else if nat_lt c r.0
      || (r.0 == c && nat_lt (key x) (key r.1)) then (c, x) ∷ r ∷ rs else r ∷ replace_row key c x rs)) [
        | true ↦ (one, each.1)
        | false ↦ elim (nat_lt c r.0 || (r.0 == c && nat_lt (key x) (key r.1)))
            as (λ b. AllByRecursion P (if b then (c, x) ∷ r ∷ rs else r ∷ replace_row key c x rs)) [
              | true ↦ (one, each)
              | false ↦ (each.0, each-replace P c x rs one each.1)
            ]
      ]

-- the lines of rows, which are those of the rows without their channels
pub lines_of_rows : {A : Type 0} (line : A → List ℕ) (t : Table A)
    → flat_map (λ r. line r.1) t ≡ flat_map line (rows_alone t)
lines_of_rows line [] = refl
lines_of_rows line (r ∷ rs) = ap (λ l. line r.1 ++ l) (lines_of_rows line rs)
