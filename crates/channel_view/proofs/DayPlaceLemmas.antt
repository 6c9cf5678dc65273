-- A channel's day in the table of all days, and what is found for it.
use Rattle.std.proofs.Common.{◌≡◌, ℕ, ◌+◌, [], ◌∷◌, get_or, Bool, true, false, ◌&&◌, ◌||◌, one-add, refl, sym, ◌∙◌, ap}
use Rattle.std.proofs.Common.{subst, arith}
use Rattle.std.specs.Prelude.{◌==◌, nat_lt, nat_le, find, insert, slice_get, Some}
use Rattle.std.specs.List.{position_or_len}
use Rattle.std.specs.Option.{option_map}
use Rattle.std.proofs.lemmas.Bool.Decides.{nat_tests}
use Rattle.std.proofs.Math.ListN.{set}
use Rattle.vault_core.specs.declared.offer.Offer.{Offer}
use Rattle.channel_view_model.specs.Tables.{Table, rows_alone, replace_row}
use Rattle.channel_view_model.specs.Seen.{grant_of, grants_to}
use Rattle.channel_view_model.proofs.TableLemmas.{picked_is}
use Rattle.channel_view.specs.Places.{is_day_at}

-- the first row, without its channel
pub first_alone : {A : Type 0} (p : A → Bool) (t : Table A)
    → option_map (λ r. r.1) (find (λ r. p r.1) t) ≡ find p (rows_alone t)
first_alone p [] = refl
first_alone p (r ∷ rs) = grind (arith, first_alone p rs)

-- a lent clip among the offers of all channels
pub grant_among : (c owner n : ℕ) (offers : Table Offer)
    → option_map grant_of (find (λ r. r.1.grantee == c && (r.0 == owner && r.1.n == n)) offers)
    ≡ find (λ g. g.owner == owner && g.offer.n == n) (grants_to c offers)
grant_among c owner n offers =
    ap (λ r. r.first (λ g. g.owner == owner && g.offer.n == n)) (picked_is (λ r. r.1.grantee == c) grant_of offers)

-- where the day stands or belongs
module _ {A : Type 0} (key : A → ℕ) (c : ℕ) (day : A) where
  abbrev pub is_from : ℕ × A → Bool
  is_from r = nat_lt c r.0 || (r.0 == c && nat_le (key day) (key r.1))

  pub set_is : (t : Table A) (k : ℕ) (r : ℕ × A) → k ≡ position_or_len is_from t
      → is_day_at key c (key day) (slice_get t k) ≡ true → r ≡ get_or t k r
      → set t k (r.0, day) ≡ replace_row key c day t
  set_is [] k r at there read = absurd (cc)
  set_is (s ∷ ss) k r at there read = by (is_from s) refl (set_is ss)
    where
      by : (b : Bool) → is_from s ≡ b
          → ((j : ℕ) (r : ℕ × A) → j ≡ position_or_len is_from ss → is_day_at key c (key day) (slice_get ss j) ≡ true
          → r ≡ get_or ss j r → set ss j (r.0, day) ≡ replace_row key c day ss)
          → set (s ∷ ss) k (r.0, day) ≡ replace_row key c day (s ∷ ss)
      by true here rest =
          let first : k ≡ 0 = at ∙ rw here refl in
          let mine : is_day_at key c (key day) (Some s) ≡ true =
          subst (λ j. is_day_at key c (key day) (slice_get (s ∷ ss) j) ≡ true) first there in
          let row : r ≡ s = subst (λ j. r ≡ get_or (s ∷ ss) j r) first read in
          let number : r.0 ≡ c = ap (λ (x : ℕ × A). x.0) row ∙ grind (arith, nat_tests, mine) in
          ap (λ j. set (s ∷ ss) j (r.0, day)) first ∙ ap (λ n. (n, day) ∷ ss) number ∙ sym (rw mine refl)
      by false other rest =
          let next : k ≡ 1 + position_or_len is_from ss = at ∙ rw other refl in
          let not_mine : (s.0 == c && key s.1 == key day) ≡ false = grind (arith, nat_tests, other) in
          let not_before : (nat_lt c s.0 || (s.0 == c && nat_lt (key day) (key s.1))) ≡ false =
          grind (arith, nat_tests, other) in
          let later =
          rest (position_or_len is_from ss) r refl
          (subst (λ j. is_day_at key c (key day) (slice_get (s ∷ ss) j) ≡ true)
          (next ∙ one-add (position_or_len is_from ss)) there)
          (subst (λ j. r ≡ get_or (s ∷ ss) j r) (next ∙ one-add (position_or_len is_from ss)) read) in
          ap (λ j. set (s ∷ ss) j (r.0, day)) (next ∙ one-add (position_or_len is_from ss)) ∙ ap (λ l. s ∷ l) later
          ∙ sym (rw (not_mine, not_before) refl)

  pub insert_is : (t : Table A) (k : ℕ) → k ≡ position_or_len is_from t
      → is_day_at key c (key day) (slice_get t k) ≡ false → insert t k (c, day) ≡ replace_row key c day t
  insert_is [] k at lacks = ap (λ j. insert [] j (c, day)) at
  insert_is (s ∷ ss) k at lacks = by (is_from s) refl (insert_is ss)
    where
      by : (b : Bool) → is_from s ≡ b
          → ((j : ℕ) → j ≡ position_or_len is_from ss → is_day_at key c (key day) (slice_get ss j) ≡ false
          → insert ss j (c, day) ≡ replace_row key c day ss)
          → insert (s ∷ ss) k (c, day) ≡ replace_row key c day (s ∷ ss)
      by true here rest =
          let first : k ≡ 0 = at ∙ rw here refl in
          let not_mine : (s.0 == c && key s.1 == key day) ≡ false =
          subst (λ j. is_day_at key c (key day) (slice_get (s ∷ ss) j) ≡ false) first lacks in
          let before : (nat_lt c s.0 || (s.0 == c && nat_lt (key day) (key s.1))) ≡ true =
          grind (arith, nat_tests, here, not_mine) in
          ap (λ j. insert (s ∷ ss) j (c, day)) first ∙ sym (rw (not_mine, before) refl)
      by false other rest =
          let next : k ≡ 1 + position_or_len is_from ss = at ∙ rw other refl in
          let not_mine : (s.0 == c && key s.1 == key day) ≡ false = grind (arith, nat_tests, other) in
          let not_before : (nat_lt c s.0 || (s.0 == c && nat_lt (key day) (key s.1))) ≡ false =
          grind (arith, nat_tests, other) in
          let later =
          rest (position_or_len is_from ss) refl
          (subst (λ j. is_day_at key c (key day) (slice_get (s ∷ ss) j) ≡ false)
          (next ∙ one-add (position_or_len is_from ss)) lacks) in
          ap (λ j. insert (s ∷ ss) j (c, day)) (next ∙ one-add (position_or_len is_from ss)) ∙ ap (λ l. s ∷ l) later
          ∙ sym (rw (not_mine, not_before) refl)

  -- the same with the numbers and lists as a call reads them
  module _ (table items more : Table A) (n m k : ℕ) (copy : A) (copied : copy ≡ day) (same : items ≡ table)
      (again : more ≡ table) (number : n ≡ key day) (number_again : m ≡ key day)
      (at : k ≡ position_or_len (λ r. nat_lt c r.0 || (r.0 == c && nat_le n (key r.1))) items) where
    at_place : k ≡ position_or_len is_from table
    at_place =
        at ∙ ap (λ d. position_or_len (λ r. nat_lt c r.0 || (r.0 == c && nat_le d (key r.1))) items) number
        ∙ ap (position_or_len is_from) same

    pub day_set : (r : ℕ × A) → is_day_at key c m (slice_get more k) ≡ true → r ≡ get_or table k r
        → set table k (r.0, copy) ≡ replace_row key c day table
    day_set r there read =
        ap (λ d. set table k (r.0, d)) copied
        ∙ set_is table k r at_place
        (ap (λ d. is_day_at key c d (slice_get table k)) (sym number_again)
        ∙ ap (λ (t : Table A). is_day_at key c m (slice_get t k)) (sym again) ∙ there) read

    pub day_inserted : is_day_at key c m (slice_get more k) ≡ false
        → insert table k (c, copy) ≡ replace_row key c day table
    day_inserted lacks =
        ap (λ d. insert table k (c, d)) copied
        ∙ insert_is table k at_place
        (ap (λ d. is_day_at key c d (slice_get table k)) (sym number_again)
        ∙ ap (λ (t : Table A). is_day_at key c m (slice_get t k)) (sym again) ∙ lacks)
