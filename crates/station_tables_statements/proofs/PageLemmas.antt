-- The rows of a channel, page by page.
use Rattle.std.proofs.Common.{◌≡◌, ℕ, ◌+◌, ◌-◌, ◌*◌, suc, zero, Bool, true, false, cond, ◌&&◌, List, [], ◌∷◌, map}
use Rattle.std.proofs.Common.{filter, take, drop, refl, sym, ap, ap₂, ◌∙◌, arith}
use Rattle.std.specs.Prelude.{◌==◌, nat_le}
use Rattle.std.proofs.lemmas.Bool.Decides.{nat_tests}
use Rattle.vault_core.specs.Rules.{is_numbered_from}
use Rattle.channel_view_model.specs.Tables.{rows_of}
use Rattle.station_tables_records.specs.Numbered.{is_on_page}

module _ {A : Type 0} (number : A → ℕ) where
  abbrev within : ℕ → ℕ → A → Bool
  within lo hi x = nat_le lo (number x) && nat_le (number x) hi

  none_dropped : (d : ℕ) → drop {A = A} d [] ≡ []
  none_dropped zero = refl
  none_dropped (suc d) = refl

  none_taken : (n : ℕ) → take {A = A} n [] ≡ []
  none_taken zero = refl
  none_taken (suc n) = refl

  -- what is left of a row and those behind it, where the first that is wanted is this one or comes later
  slice_at : (lo hi k : ℕ) (x : A) (xs : List A) → number x ≡ k
      → filter (within lo hi) xs ≡ take (hi + 1 - (k + 1) - (lo - (k + 1))) (drop (lo - (k + 1)) xs)
      → (from to : Bool) → nat_le lo k ≡ from → nat_le k hi ≡ to
      → filter (within lo hi) (x ∷ xs) ≡ take (hi + 1 - k - (lo - k)) (drop (lo - k) (x ∷ xs))
  slice_at lo hi k x xs first rest true true e f =
      let taken : within lo hi x ≡ true = grind (arith, nat_tests, first, e, f) in
      let low : lo - k ≡ 0 = grind (arith, nat_tests, e) in
      let count : hi + 1 - k - (lo - k) ≡ suc (hi - k) = grind (arith, nat_tests, e, f) in
      let count_behind : hi + 1 - (k + 1) - (lo - (k + 1)) ≡ hi - k = grind (arith, nat_tests, e, f) in
      let low_behind : lo - (k + 1) ≡ 0 = grind (arith, nat_tests, e) in
      ap (λ b. cond b (x ∷ filter (within lo hi) xs) (filter (within lo hi) xs)) taken
      ∙ ap (λ l. x ∷ l) (rest ∙ ap₂ (λ n d. take n (drop d xs)) count_behind low_behind)
      ∙ sym (ap₂ (λ n d. take n (drop d (x ∷ xs))) count low)
  slice_at lo hi k x xs first rest true false e f =
      let passed : within lo hi x ≡ false = grind (arith, nat_tests, first, f) in
      let low : lo - k ≡ 0 = grind (arith, nat_tests, e) in
      let count : hi + 1 - k - (lo - k) ≡ 0 = grind (arith, nat_tests, e, f) in
      let count_behind : hi + 1 - (k + 1) - (lo - (k + 1)) ≡ 0 = grind (arith, nat_tests, e, f) in
      let low_behind : lo - (k + 1) ≡ 0 = grind (arith, nat_tests, e) in
      ap (λ b. cond b (x ∷ filter (within lo hi) xs) (filter (within lo hi) xs)) passed
      ∙ rest ∙ ap₂ (λ n d. take n (drop d xs)) count_behind low_behind
      ∙ sym (ap₂ (λ n d. take n (drop d (x ∷ xs))) count low)
  slice_at lo hi k x xs first rest false to e f =
      let passed : within lo hi x ≡ false = grind (arith, nat_tests, first, e) in
      let low : lo - k ≡ suc (lo - (k + 1)) = grind (arith, nat_tests, e) in
      let count : hi + 1 - k - (lo - k) ≡ hi + 1 - (k + 1) - (lo - (k + 1)) = grind (arith, nat_tests, e) in
      ap (λ b. cond b (x ∷ filter (within lo hi) xs) (filter (within lo hi) xs)) passed
      ∙ rest ∙ sym (ap₂ (λ n d. take n (drop d (x ∷ xs))) count low)

  -- of rows numbered from k on, those with numbers from lo to hi stand behind one another
  numbered_slice : (lo hi k : ℕ) (xs : List A) → is_numbered_from number k xs ≡ true
      → filter (within lo hi) xs ≡ take (hi + 1 - k - (lo - k)) (drop (lo - k) xs)
  numbered_slice lo hi k [] numbered =
      sym (ap (take (hi + 1 - k - (lo - k))) (none_dropped (lo - k)) ∙ none_taken (hi + 1 - k - (lo - k)))
  numbered_slice lo hi k (x ∷ xs) numbered =
      let first : number x ≡ k = grind (arith, nat_tests, numbered) in
      slice_at lo hi k x xs first (numbered_slice lo hi (k + 1) xs (grind (arith, numbered))) (nat_le lo k)
      (nat_le k hi) refl refl

  abbrev own_rows : ℕ → List (ℕ × A) → List (ℕ × A)
  own_rows c table = filter (λ r. r.0 == c) table

  abbrev own_within : ℕ → ℕ → ℕ → List (ℕ × A) → List (ℕ × A)
  own_within c lo hi table = filter (λ r. r.0 == c && within lo hi r.1) table

  -- of a row, and then of one of any channel
  kept : (r : ℕ × A) (both own : List (ℕ × A)) (p : A → Bool) (wanted : Bool)
      → map (λ s. s.1) both ≡ filter p (map (λ s. s.1) own)
      → map (λ s. s.1) (cond wanted (r ∷ both) both)
      ≡ cond wanted (r.1 ∷ filter p (map (λ s. s.1) own)) (filter p (map (λ s. s.1) own))
  kept r both own p true more = ap (λ l. r.1 ∷ l) more
  kept r both own p false more = more

  kept_own : (r : ℕ × A) (both own : List (ℕ × A)) (p : A → Bool) (ours : Bool)
      → map (λ s. s.1) both ≡ filter p (map (λ s. s.1) own)
      → map (λ s. s.1) (cond (ours && p r.1) (r ∷ both) both) ≡ filter p (map (λ s. s.1) (cond ours (r ∷ own) own))
  kept_own r both own p true more = kept r both own p (p r.1) more
  kept_own r both own p false more = more

  -- what is asked of a channel's rows, of the table
  wanted_of : (c lo hi : ℕ) (table : List (ℕ × A))
      → map (λ r. r.1) (own_within c lo hi table) ≡ filter (within lo hi) (rows_of c table)
  wanted_of c lo hi [] = refl
  wanted_of c lo hi (r ∷ table) =
      kept_own r (own_within c lo hi table) (own_rows c table) (within lo hi) (r.0 == c) (wanted_of c lo hi table)

  -- a page of a channel whose numbers have no hole: 64 of its rows, behind those of the pages in front of it
  pub page_is_slice : (c p : ℕ) (table : List (ℕ × A)) → is_numbered_from number 1 (rows_of c table) ≡ true
      → map (λ r. r.1) (filter (is_on_page number c p) table) ≡ take 64 (drop (p * 64) (rows_of c table))
  page_is_slice c p table numbered =
      let count : p * 64 + 64 + 1 - 1 - (p * 64 + 1 - 1) ≡ 64 = omega arith in
      let passed : p * 64 + 1 - 1 ≡ p * 64 = omega arith in
      wanted_of c (p * 64 + 1) (p * 64 + 64) table
      ∙ numbered_slice (p * 64 + 1) (p * 64 + 64) 1 (rows_of c table) numbered
      ∙ ap₂ (λ n d. take n (drop d (rows_of c table))) count passed
