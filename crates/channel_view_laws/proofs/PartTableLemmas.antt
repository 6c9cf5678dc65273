-- Filters, and tables of which the rows of some channels are kept.
use Rattle.std.proofs.Common.{◌≡◌, ℕ, List, [], ◌∷◌, Bool, true, false, ◌&&◌, ◌||◌, refl, sym, ◌∙◌, ap, arith}
use Rattle.std.specs.Prelude.{map, filter, find, ◌==◌, nat_lt, nat_le, Some, if◌then◌else◌}
use Rattle.std.specs.List.{list_any, list_all, AllByRecursion}
use Rattle.std.proofs.lemmas.Bool.Decides.{nat_tests}
use Rattle.channel_plan.specs.declared.plan.PlanRow.{PlanRow}
use Rattle.channel_plan.specs.Plan.{is_plan_in_order}
use Rattle.vault_core.specs.declared.offer.Offer.{Offer}
use Rattle.channel_view_model.specs.Tables.{Table, rows_of, replace_row, is_in_order}
use Rattle.channel_view_model.specs.Rules.{is_planned, is_table_of}
use Rattle.channel_view_model.specs.Seen.{grant_of, grants_to}
use Rattle.channel_view_model.proofs.TableLemmas.{all_after}

pub equal : (a b : ℕ) → (a == b) ≡ true → a ≡ b
equal a b e = grind (arith, nat_tests, e)

-- a test that only elements pass which are kept
module _ {R : Type 0} (mine p : R → Bool) (within : (r : R) → p r ≡ true → mine r ≡ true) where
  pub find-filter : (rs : List R) → find p (filter mine rs) ≡ find p rs
  find-filter [] = refl
  find-filter (r ∷ rs) = grind (arith, within r, find-filter rs)

  pub filter-filter : (rs : List R) → filter p (filter mine rs) ≡ filter p rs
  filter-filter [] = refl
  filter-filter (r ∷ rs) = grind (arith, within r, filter-filter rs)

  pub any-filter : (rs : List R) → list_any p (filter mine rs) ≡ list_any p rs
  any-filter [] = refl
  any-filter (r ∷ rs) = grind (arith, within r, any-filter rs)

-- what holds of each element holds of those that are kept
module _ {R : Type 0} (mine : R → Bool) where
  pub all-filter : (p : R → Bool) (rs : List R) → list_all p rs ≡ true → list_all p (filter mine rs) ≡ true
  all-filter p [] h = refl
  all-filter p (r ∷ rs) h = grind (arith, h, all-filter p rs)

  pub each-filter : (P : R → Type 0) (rs : List R) → AllByRecursion P rs → AllByRecursion P (filter mine rs)
  each-filter P [] h = tt
  each-filter P (r ∷ rs) h =
      elim (mine r) as (λ b. AllByRecursion P (if b then r ∷ filter mine rs else filter mine rs)) [
        | true ↦ (h.0, each-filter P rs h.1)
        | false ↦ each-filter P rs h.1
      ]

  -- what is found among the elements that are kept is kept
  pub found-filter : (p : R → Bool) (rs : List R) (r : R) → find p (filter mine rs) ≡ Some r → mine r ≡ true
  found-filter p [] r e = absurd (cc)
  found-filter p (q ∷ rs) r e = grind (arith, e, found-filter p rs r)

-- the plan of some channels
module _ (mine : ℕ → Bool) where
  pub planned-part : (plan : List PlanRow) (c : ℕ) → mine c ≡ true
      → is_planned (filter (λ p. mine p.ch) plan) c ≡ is_planned plan c
  planned-part plan c is = any-filter (λ p. mine p.ch) (λ p. p.ch == c) (λ p e. ap mine (equal p.ch c e) ∙ is) plan

  pub plan_in_order-part : (plan : List PlanRow) → is_plan_in_order plan ≡ true
      → is_plan_in_order (filter (λ p. mine p.ch) plan) ≡ true
  plan_in_order-part [] h = refl
  plan_in_order-part (p ∷ plan) h =
      grind (arith, h, all-filter (λ q. mine q.ch) (λ q. nat_lt p.ch q.ch) plan, plan_in_order-part plan)

-- the rows of some channels
module _ {A : Type 0} (mine : ℕ → Bool) where
  -- are all rows of each of these
  pub rows_of-part : (c : ℕ) → mine c ≡ true → (t : Table A) → rows_of c (filter (λ r. mine r.0) t) ≡ rows_of c t
  rows_of-part c is t =
      ap (map (λ r. r.1)) (filter-filter (λ r. mine r.0) (λ r. r.0 == c) (λ r e. ap mine (equal r.0 c e) ∙ is) t)

  in_order-part : (t : Table A) → is_in_order t ≡ true → is_in_order (filter (λ r. mine r.0) t) ≡ true
  in_order-part [] h = refl
  in_order-part (r ∷ rs) h = grind (arith, h, all-filter (λ s. mine s.0) (λ s. nat_le r.0 s.0) rs, in_order-part rs)

  rows_planned-part : (plan : List PlanRow) (t : Table A) → list_all (λ r. is_planned plan r.0) t ≡ true
      → list_all (λ r. is_planned (filter (λ p. mine p.ch) plan) r.0) (filter (λ r. mine r.0) t) ≡ true
  rows_planned-part plan [] h = refl
  rows_planned-part plan (r ∷ rs) h = grind (arith, h, planned-part mine plan r.0, rows_planned-part plan rs)

  pub table-part : (plan : List PlanRow) (t : Table A) → is_table_of plan t ≡ true
      → is_table_of (filter (λ p. mine p.ch) plan) (filter (λ r. mine r.0) t) ≡ true
  table-part plan t h =
      let order : is_in_order (filter (λ r. mine r.0) t) ≡ true = in_order-part t (grind (arith, h)) in
      let planned : list_all (λ r. is_planned (filter (λ p. mine p.ch) plan) r.0) (filter (λ r. mine r.0) t) ≡ true =
      rows_planned-part plan t (grind (arith, h)) in
      grind (arith, order, planned)

-- the offers of some channels are all offers to a channel to which no other offers
pub grants_to-part : (mine : ℕ → Bool) (c : ℕ) (t : Table Offer)
    → ((b : ℕ) → list_any (λ r. r.0 == b && r.1.grantee == c) t ≡ true → mine b ≡ true)
    → grants_to c (filter (λ r. mine r.0) t) ≡ grants_to c t
grants_to-part mine c t within = ap (map grant_of) (kept t within)
  where
    later : (a b : Bool) → b ≡ true → (a || b) ≡ true
    later true b h = refl
    later false b h = h

    kept : (t : Table Offer) → ((b : ℕ) → list_any (λ r. r.0 == b && r.1.grantee == c) t ≡ true → mine b ≡ true)
        → filter (λ r. r.1.grantee == c) (filter (λ r. mine r.0) t) ≡ filter (λ r. r.1.grantee == c) t
    kept [] within = refl
    kept (r ∷ rs) within = grind (arith, nat_tests, within r.0, kept rs (λ b h. within b (later _ _ h)))

-- a change of the rows of channel c
module _ {A : Type 0} (mine : ℕ → Bool) (c : ℕ) where
  -- where c isn't among these channels
  pub replace-out : (key : A → ℕ) → mine c ≡ false → (x : A) (t : Table A)
      → filter (λ r. mine r.0) (replace_row key c x t) ≡ filter (λ r. mine r.0) t
  replace-out key out x [] = grind (arith, out)
  replace-out key out x (r ∷ rs) = grind (arith, nat_tests, out, replace-out key out x rs)

  -- in front of rows that all come after
  replace_front : (key : A → ℕ) (x : A) (t : Table A) → list_all (λ s. nat_lt c s.0) t ≡ true
      → replace_row key c x t ≡ (c, x) ∷ t
  replace_front key x [] h = refl
  replace_front key x (r ∷ rs) h = grind (arith, nat_tests, h)

  pub replace-in : (key : A → ℕ) → mine c ≡ true → (x : A) (t : Table A) → is_in_order t ≡ true
      → filter (λ r. mine r.0) (replace_row key c x t) ≡ replace_row key c x (filter (λ r. mine r.0) t)
  replace-in key is x [] order = grind (arith, is)
  replace-in key is x (r ∷ rs) order = by (mine r.0) refl (replace-in key is x rs (grind (arith, order)))
    where
      by : (b : Bool) → mine r.0 ≡ b
          → filter (λ r. mine r.0) (replace_row key c x rs) ≡ replace_row key c x (filter (λ r. mine r.0) rs)
          → filter (λ r. mine r.0) (replace_row key c x (r ∷ rs))
          ≡ replace_row key c x (filter (λ r. mine r.0) (r ∷ rs))
      by true mine_too rest = grind (arith, nat_tests, is, mine_too, rest)
      by false out rest = before (nat_lt c r.0) refl
        where
          other : (r.0 == c) ≡ false
          other =
              elim (r.0 == c) as (λ v. (r.0 == c) ≡ v → v ≡ false)
              [ true ↦ λ e. sym is ∙ ap mine (sym (equal r.0 c e)) ∙ out | false ↦ λ e. refl ] refl

          before : (b : Bool) → nat_lt c r.0 ≡ b
              → filter (λ r. mine r.0) (replace_row key c x (r ∷ rs))
              ≡ replace_row key c x (filter (λ r. mine r.0) (r ∷ rs))
          before true lt =
              let behind : list_all (λ s. nat_lt c s.0) rs ≡ true =
              all_after c r.0 rs (grind (arith, nat_tests, lt)) (grind (arith, order)) in
              let front =
              replace_front key x (filter (λ r. mine r.0) rs)
              (all-filter (λ r. mine r.0) (λ s. nat_lt c s.0) rs behind) in
              grind (arith, is, out, other, lt, front)
          before false lt = grind (arith, out, other, lt, rest)
