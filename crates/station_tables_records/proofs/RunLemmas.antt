-- Numbers that run from 1 without a hole.
use Rattle.std.proofs.Common.{◌≡◌, ℕ, suc, ◌+◌, ◌<◌, ◌⊎◌, Bool, true, false, ◌&&◌, List, [], ◌∷◌, map, filter, length}
use Rattle.std.proofs.Common.{refl, sym, ap, ◌∙◌, arith, true≢false, Less, inl, inr}
use Rattle.std.specs.Prelude.{◌==◌, ◌||◌, nat_lt, nat_le}
use Rattle.std.specs.List.{AllByRecursion, list_any, list_all}
use Rattle.std.proofs.lemmas.List.{length-map}
use Rattle.std.proofs.lemmas.Bool.Decides.{nat_tests}
use Rattle.sqlite_trees.specs.Tree.{IsAscending}
use Rattle.sqlite_keyed.proofs.ListLemmas.{all_weaker, all_both, all_map, all_from_test, ascending-filter}
use Rattle.sqlite_keyed.proofs.ListLemmas.{none_from_any}
use Rattle.sqlite_keyed.proofs.SliceLemmas.{any-slice}
use Rattle.station_tables_records.specs.MadeDays.{Rise}
use Rattle.station_tables_records.specs.declared.aired_rows.BatchRow.{BatchRow}
use Rattle.station_tables_records.specs.MadeAirings.{AiredSet, batch_cmp, is_batch, is_batch_of, is_batch_behind}
use Rattle.station_tables_records.specs.MadeAirings.{follows_batch, batches_at, rows_in_batch, LacksBatch}
use Rattle.station_tables_records.proofs.BisectLemmas.{any_same}
use Rattle.station_tables_records.proofs.InsertLemmas.{kept_pass, all_of_kept}

-- j + 1, j + 2 and so on
abbrev RunFrom : ℕ → List ℕ → Type 0
RunFrom j [] = Unit {0}
RunFrom j (x ∷ xs) = (x ≡ j + 1) × RunFrom (j + 1) xs

-- the number is the first, or the one before it is among these
abbrev Follows : ℕ → List ℕ → ℕ → Type 0
Follows j xs x = (x ≡ j + 1) ⊎ (list_any (λ y. y + 1 == x) xs ≡ true)

none_before : (x : ℕ) (xs : List ℕ) → AllByRecursion (λ y. x < y) xs → list_any (λ y. y + 1 == x) xs ≡ false
none_before x [] up = refl
none_before x (y ∷ ys) up =
    let here : (y + 1 == x) ≡ false = let less = up.0 in grind (arith, nat_tests, less) in
    ap (λ b. b || list_any (λ z. z + 1 == x) ys) here ∙ none_before x ys up.1

runs : (j : ℕ) (xs : List ℕ) → IsAscending (λ a b. a < b) xs → AllByRecursion (Follows j xs) xs → RunFrom j xs
runs j [] up follow = tt
runs j (x ∷ xs) up follow =
    (first follow.0, runs (j + 1) xs up.1 (all_both _ _ (Follows (j + 1) xs) later xs up.0 follow.1))
  where
    first : Follows j (x ∷ xs) x → x ≡ j + 1
    first (inl is) = is
    first (inr there) =
        let self : (x + 1 == x) ≡ false = grind (arith, nat_tests) in
        absurd (true≢false (sym there ∙ ap (λ b. b || list_any (λ z. z + 1 == x) xs) self ∙ none_before x xs up.0))

    later : (y : ℕ) → x < y → Follows j (x ∷ xs) y → Follows (j + 1) xs y
    later y less (inl is) = absurd (let at = first follow.0 in omega (arith, at, is, less))
    later y less (inr there) = by (x + 1 == y) refl there
      where
        by : (b : Bool) → (x + 1 == y) ≡ b → (b || list_any (λ z. z + 1 == y) xs) ≡ true → Follows (j + 1) xs y
        by true e more = inl (let at = first follow.0 in grind (arith, nat_tests, e, at))
        by false e more = inr more

-- which numbers are there
run_any : (j : ℕ) (xs : List ℕ) → RunFrom j xs → (k : ℕ)
    → list_any (λ y. y == k) xs ≡ (nat_lt j k && nat_le k (j + length xs))
run_any j [] run k = grind (arith, nat_tests)
run_any j (x ∷ xs) run k =
    let here = run.0 in
    ap (λ b. (x == k) || b) (run_any (j + 1) xs run.1 k) ∙ joined (length xs) here
  where
    joined : (n : ℕ) → x ≡ j + 1
        → ((x == k) || (nat_lt (j + 1) k && nat_le k ((j + 1) + n))) ≡ (nat_lt j k && nat_le k (j + suc n))
    joined n at = grind (arith, nat_tests, at)

-- ---- the numbers of a day's batches

module _ (c n : ℕ) where
  abbrev numbers_at : List (ℕ × BatchRow) → List ℕ
  numbers_at batches = map (λ b. b.1.number) (filter (is_batch_of c n) batches)

  numbers_rise : (bs : List (ℕ × BatchRow)) → Rise batch_cmp bs → AllByRecursion (λ b. is_batch_of c n b ≡ true) bs
      → IsAscending (λ a b. a < b) (map (λ b. b.1.number) bs)
  numbers_rise [] up own = tt
  numbers_rise (b ∷ bs) up own = (
    all_map (λ m. b.1.number < m) (λ a. a.1.number) bs
        (all_both _ _ (λ a. b.1.number < a.1.number) (λ a less mine. lower a less own.0 mine) bs up.0 own.1),
    numbers_rise bs up.1 own.1,
  )
    where
      lower : (a : ℕ × BatchRow) → batch_cmp b a ≡ Less → is_batch_of c n b ≡ true → is_batch_of c n a ≡ true
          → b.1.number < a.1.number
      lower a less one other = grind (arith, nat_tests, less, one, other)

  number_there : (bs : List (ℕ × BatchRow)) (k : ℕ)
      → list_any (λ m. m == k) (numbers_at bs) ≡ list_any (is_batch c n k) bs
  number_there bs k =
      sym (any-slice (is_batch_of c n) (λ (b : ℕ × BatchRow). b.1.number) (λ m. m == k) bs) ∙ any_same _ _ group bs
    where
      group : (b : ℕ × BatchRow) → (is_batch_of c n b && (b.1.number == k)) ≡ is_batch c n k b
      group b = by (b.0 == c)
        where
          by : (e : Bool) → ((e && b.1.day == n) && (b.1.number == k)) ≡ (e && (b.1.day == n && b.1.number == k))
          by true = refl
          by false = refl

  module _ (set : AiredSet) (rise : Rise batch_cmp set.batches)
      (run : list_all (follows_batch set.batches) set.batches ≡ true) where
    follow : (b : ℕ × BatchRow) → follows_batch set.batches b ≡ true → is_batch_of c n b ≡ true
        → Follows 0 (numbers_at set.batches) b.1.number
    follow b follows mine = by (b.1.number == 1) refl follows
      where
        behind : (a : ℕ × BatchRow) → is_batch_behind b a ≡ (is_batch_of c n a && (a.1.number + 1 == b.1.number))
        behind a = grind (arith, nat_tests, mine)

        by : (e : Bool) → (b.1.number == 1) ≡ e → (e || list_any (is_batch_behind b) set.batches) ≡ true
            → Follows 0 (numbers_at set.batches) b.1.number
        by true e more = inl (grind (arith, nat_tests, e))
        by false e more =
            inr (sym
            (any-slice (is_batch_of c n) (λ (a : ℕ × BatchRow). a.1.number) (λ m. m + 1 == b.1.number) set.batches)
            ∙ sym (any_same _ _ behind set.batches) ∙ more)

    numbers_run : RunFrom 0 (numbers_at set.batches)
    numbers_run =
        runs 0 (numbers_at set.batches)
        (numbers_rise (filter (is_batch_of c n) set.batches) (ascending-filter _ (is_batch_of c n) set.batches rise)
        (kept_pass (is_batch_of c n) set.batches))
        (all_map (Follows 0 (numbers_at set.batches)) (λ (b : ℕ × BatchRow). b.1.number)
        (filter (is_batch_of c n) set.batches)
        (all_of_kept (is_batch_of c n) (λ b. Follows 0 (numbers_at set.batches) b.1.number) set.batches
        (all_weaker _ (λ b. is_batch_of c n b ≡ true → Follows 0 (numbers_at set.batches) b.1.number) follow
        set.batches (all_from_test (follows_batch set.batches) set.batches run))))

    counted : length (numbers_at set.batches) ≡ length (batches_at c n set)
    counted =
        length-map (filter (is_batch_of c n) set.batches) (λ (b : ℕ × BatchRow). b.1.number)
        ∙ sym
        (length-map (filter (is_batch_of c n) set.batches)
        (λ (b : ℕ × BatchRow). rows_in_batch c n b.1.number set.lines))

    -- a batch is there where its number is one from 1 to how many there are
    pub batch_there : (k : ℕ)
        → list_any (is_batch c n k) set.batches ≡ (nat_lt 0 k && nat_le k (length (batches_at c n set)))
    batch_there k =
        sym (number_there set.batches k) ∙ run_any 0 (numbers_at set.batches) numbers_run k
        ∙ ap (λ m. nat_lt 0 k && nat_le k m)
        (let zero_more : 0 + length (numbers_at set.batches) ≡ length (numbers_at set.batches) = omega arith in
        zero_more ∙ counted)

    -- so the next one isn't
    pub lacks_next : (k : ℕ) → k ≡ length (batches_at c n set) + 1 → LacksBatch c n k set.batches
    lacks_next k next = none_from_any (is_batch c n k) set.batches (batch_there k ∙ grind (arith, nat_tests, next))

    -- and each has a lower number
    pub below_next : (k : ℕ) → k ≡ length (batches_at c n set) + 1
        → AllByRecursion (λ b. is_batch_of c n b ≡ true → b.1.number < k) set.batches
    below_next k next = each set.batches (λ m there. there)
      where
        most : (m : ℕ) → list_any (is_batch c n m) set.batches ≡ true → m < k
        most m there =
            let all : (nat_lt 0 m && nat_le m (length (batches_at c n set))) ≡ true = sym (batch_there m) ∙ there in
            grind (arith, nat_tests, all, next)

        itself : (b : ℕ × BatchRow) → is_batch_of c n b ≡ true → is_batch c n b.1.number b ≡ true
        itself b mine = grind (arith, nat_tests, mine)

        or_later : (a : Bool) {b : Bool} → b ≡ true → (a || b) ≡ true
        or_later true h = refl
        or_later false h = h

        each : (bs : List (ℕ × BatchRow))
            → ((m : ℕ) → list_any (is_batch c n m) bs ≡ true → list_any (is_batch c n m) set.batches ≡ true)
            → AllByRecursion (λ b. is_batch_of c n b ≡ true → b.1.number < k) bs
        each [] among = tt
        each (b ∷ bs) among = (
          λ mine. most b.1.number
              (among b.1.number (ap (λ e. e || list_any (is_batch c n b.1.number) bs) (itself b mine))),
          each bs (λ m there. among m (or_later (is_batch c n m b) there)),
        )
