-- Where what is told of a day stands, or belongs.
use Rattle.std.proofs.Common.{◌≡◌, ℕ, ◌+◌, List, [], ◌∷◌, Bool, true, false, one-add, refl, sym, ◌∙◌, ap, subst, arith}
use Rattle.std.specs.Prelude.{◌==◌, nat_lt, nat_le, insert, slice_get}
use Rattle.std.specs.List.{position_or_len}
use Rattle.std.proofs.lemmas.Bool.Decides.{nat_tests}
use Rattle.std.proofs.Math.ListN.{set}
use Rattle.vault_core.specs.Questions.{replaced}
use Rattle.report_texts.specs.declared.counts.DayCounts.{DayCounts}
use Rattle.rows_at_hand.specs.Counted.{is_told_at}

-- what is told of a day stands there, or belongs there
module _ (day : DayCounts) where
  abbrev pub is_from : DayCounts → Bool
  is_from k = nat_le day.number k.number

  pub set_is : (rows : List DayCounts) (k : ℕ) → k ≡ position_or_len is_from rows
      → is_told_at day.number (slice_get rows k) ≡ true → set rows k day ≡ replaced (λ d. d.number) day rows
  set_is [] k at there = absurd (cc)
  set_is (s ∷ ss) k at there = by (is_from s) refl (set_is ss)
    where
      by : (b : Bool) → is_from s ≡ b
          → ((j : ℕ) → j ≡ position_or_len is_from ss → is_told_at day.number (slice_get ss j) ≡ true
          → set ss j day ≡ replaced (λ d. d.number) day ss)
          → set (s ∷ ss) k day ≡ replaced (λ d. d.number) day (s ∷ ss)
      by true here rest =
          let first : k ≡ 0 = at ∙ rw here refl in
          let mine : (s.number == day.number) ≡ true =
          subst (λ j. is_told_at day.number (slice_get (s ∷ ss) j) ≡ true) first there in
          ap (λ j. set (s ∷ ss) j day) first ∙ sym (rw mine refl)
      by false other rest =
          let next : k ≡ 1 + position_or_len is_from ss = at ∙ rw other refl in
          let not_mine : (s.number == day.number) ≡ false = grind (arith, nat_tests, other) in
          let not_before : nat_lt day.number s.number ≡ false = grind (arith, nat_tests, other) in
          let later =
          rest (position_or_len is_from ss) refl
          (subst (λ j. is_told_at day.number (slice_get (s ∷ ss) j) ≡ true)
          (next ∙ one-add (position_or_len is_from ss)) there) in
          ap (λ j. set (s ∷ ss) j day) (next ∙ one-add (position_or_len is_from ss)) ∙ ap (λ l. s ∷ l) later
          ∙ sym (rw (not_mine, not_before) refl)

  pub insert_is : (rows : List DayCounts) (k : ℕ) → k ≡ position_or_len is_from rows
      → is_told_at day.number (slice_get rows k) ≡ false → insert rows k day ≡ replaced (λ d. d.number) day rows
  insert_is [] k at lacks = ap (λ j. insert [] j day) at
  insert_is (s ∷ ss) k at lacks = by (is_from s) refl (insert_is ss)
    where
      by : (b : Bool) → is_from s ≡ b
          → ((j : ℕ) → j ≡ position_or_len is_from ss → is_told_at day.number (slice_get ss j) ≡ false
          → insert ss j day ≡ replaced (λ d. d.number) day ss)
          → insert (s ∷ ss) k day ≡ replaced (λ d. d.number) day (s ∷ ss)
      by true here rest =
          let first : k ≡ 0 = at ∙ rw here refl in
          let not_mine : (s.number == day.number) ≡ false =
          subst (λ j. is_told_at day.number (slice_get (s ∷ ss) j) ≡ false) first lacks in
          let before : nat_lt day.number s.number ≡ true = grind (arith, nat_tests, here, not_mine) in
          ap (λ j. insert (s ∷ ss) j day) first ∙ sym (rw (not_mine, before) refl)
      by false other rest =
          let next : k ≡ 1 + position_or_len is_from ss = at ∙ rw other refl in
          let not_mine : (s.number == day.number) ≡ false = grind (arith, nat_tests, other) in
          let not_before : nat_lt day.number s.number ≡ false = grind (arith, nat_tests, other) in
          let later =
          rest (position_or_len is_from ss) refl
          (subst (λ j. is_told_at day.number (slice_get (s ∷ ss) j) ≡ false)
          (next ∙ one-add (position_or_len is_from ss)) lacks) in
          ap (λ j. insert (s ∷ ss) j day) (next ∙ one-add (position_or_len is_from ss)) ∙ ap (λ l. s ∷ l) later
          ∙ sym (rw (not_mine, not_before) refl)
