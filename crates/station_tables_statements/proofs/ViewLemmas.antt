-- The sorted lists of the tables, as what one channel sees and adds.
use Rattle.std.proofs.Common.{◌≡◌, ℕ, ◌+◌, ◌<◌, ◌≤◌, Bool, true, false, List, [], ◌∷◌, ◌++◌, filter, cond, refl, sym}
use Rattle.std.proofs.Common.{ap, ap₂, arith, is_gt}
use Rattle.std.specs.Prelude.{◌==◌, nat_lt, if◌then◌else◌, find, slice_get}
use Rattle.std.specs.List.{AllByRecursion}
use Rattle.std.proofs.lemmas.Bool.Decides.{nat_tests}
use Rattle.sqlite_keyed.specs.Lists.{insert_sorted}
use Rattle.sqlite_keyed.proofs.ListLemmas.{all_weaker, all_kept, all_unmap, slice_get-filter}
use Rattle.vault_core.specs.Rules.{is_numbered_from}
use Rattle.channel_view_model.specs.Tables.{rows_of, add_row}
use Rattle.station_tables_records.specs.Numbered.{numbered_cmp, LacksNumber}

module _ {A : Type 0} (number : A → ℕ) where
  -- the channel's rows in the table have numbers below k
  abbrev AreBelow : ℕ → ℕ → List (ℕ × A) → Type 0
  AreBelow c k = AllByRecursion (λ r. r.0 ≡ c → number r.1 < k)

  -- numbered from n on with one more behind them, each is below that one
  below_last : (x : A) (xs : List A) (n : ℕ) → is_numbered_from number n (xs ++ x ∷ []) ≡ true
      → (n ≤ number x) × AllByRecursion (λ y. number y < number x) xs
  below_last x [] n h = (grind (arith, nat_tests, h), tt)
  below_last x (y ∷ xs) n h =
      let first : number y ≡ n = grind (arith, nat_tests, h) in
      let others = below_last x xs (n + 1) (grind (arith, h)) in
      (omega (arith, others.0), (omega (arith, first, others.0), others.1))

  -- what holds of a channel's rows, of the table's rows of the channel
  in_table : (c k : ℕ) (rows : List (ℕ × A)) → AllByRecursion (λ x. number x < k) (rows_of c rows) → AreBelow c k rows
  in_table c k rows all =
      all_weaker _ _ (λ r below same. below (grind (arith, nat_tests, same))) rows
      (all_kept (λ r. number r.1 < k) (λ r. r.0 == c) rows
      (all_unmap (λ x. number x < k) (λ r. r.1) (filter (λ r. r.0 == c) rows) all))

  -- a row behind a channel's others, without a hole in their numbers
  module _ (c : ℕ) (x : A) where
    -- none of them has its number
    pub added_is_new : (rows : List (ℕ × A)) → is_numbered_from number 1 (rows_of c rows ++ x ∷ []) ≡ true
        → LacksNumber number c (number x) rows
    added_is_new rows numbered =
        all_weaker _ _ (λ r below. grind (arith, nat_tests, below)) rows
        (in_table c (number x) rows (below_last x (rows_of c rows) 1 numbered).1)

    behind : (rows : List (ℕ × A)) → AreBelow c (number x) rows
        → insert_sorted (numbered_cmp number) (c, x) rows ≡ add_row c x rows
    behind [] above = refl
    behind (r ∷ rows) above = go (nat_lt c r.0) refl (behind rows above.1)
      where
        go : (b : Bool) → nat_lt c r.0 ≡ b → insert_sorted (numbered_cmp number) (c, x) rows ≡ add_row c x rows
            → cond (is_gt (numbered_cmp number (c, x) r)) (r ∷ insert_sorted (numbered_cmp number) (c, x) rows)
            ((c, x) ∷ r ∷ rows) ≡ (if b then (c, x) ∷ r ∷ rows else r ∷ add_row c x rows)
        go true e same =
            let after : is_gt (numbered_cmp number (c, x) r) ≡ false = grind (arith, nat_tests, e) in
            ap (λ g. cond g (r ∷ insert_sorted (numbered_cmp number) (c, x) rows) ((c, x) ∷ r ∷ rows)) after
        go false e same =
            let before : is_gt (numbered_cmp number (c, x) r) ≡ true = grind (arith, nat_tests, e, above.0) in
            ap₂ (λ g l. cond g (r ∷ l) ((c, x) ∷ r ∷ rows)) before same

    -- it is put behind them
    pub add_is_insert : (rows : List (ℕ × A)) → is_numbered_from number 1 (rows_of c rows ++ x ∷ []) ≡ true
        → insert_sorted (numbered_cmp number) (c, x) rows ≡ add_row c x rows
    add_is_insert rows numbered = behind rows (in_table c (number x) rows (below_last x (rows_of c rows) 1 numbered).1)

-- the first of a list, if it has one
pub first_found : {A : Type 0} (p : A → Bool) (xs : List A) → find p xs ≡ slice_get (filter p xs) 0
first_found p xs = sym (slice_get-filter p xs)
