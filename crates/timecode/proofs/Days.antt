-- The frames of a day and their addresses.
use Rattle.std.proofs.Common.{inl, inr, ◌≡◌, ℕ, zero, suc, ◌+◌, ◌-◌, ◌*◌, ◌/◌, ◌%◌, ◌<◌, ◌≤◌, Bool, true, false, Some}
use Rattle.std.proofs.Common.{None, refl, ap, sym, subst, ◌∙◌, ◌↔◌, arith}
use Rattle.std.proofs.lemmas.Bool.{ltb-true, eqb-true, eqb-false, and_parts, and_from, not-true, eq-eqb, both_ways}
use Rattle.std.proofs.lemmas.Bool.{cases_Bool, cases_eq, cond-true, cond-false, false_from_ne_true, lt-ltb}
use Rattle.std.proofs.lemmas.Bool.{not_from_false, ne_eqb, cases_lt, and_left}
use Rattle.std.proofs.lemmas.Option.{none-some}
use Rattle.std.specs.Prelude.{find, is_some, is_none}
use Rattle.std.specs.List.{range_with_len}
use Rattle.timecode.specs.declared.rates.Rate.{Rate}
use Rattle.timecode.specs.declared.rates.Rate.TheVariants.{F24, F25, F30, Df30}
use Rattle.timecode.specs.Rate.{nominal_frames, is_drop_frame}
use Rattle.timecode.specs.Address.{Address, address, midnight, same_address, next_address, is_in_range, is_dropped}
use Rattle.timecode.specs.Counting.{address_of_frame, IsDayLength, day_length, frame_at}
use Rattle.timecode.proofs.Counted.{IsCounted, labels_before, dropped_before, midnight_counted, next_counted}
use Rattle.timecode.proofs.Counted.{counted_once, counted_number, same_fields}

-- each frame of the day is counted at its address
pub counted : (rate : Rate) (n : ℕ) → n < day_length rate → IsCounted rate n (address_of_frame rate n)
unfolding address_of_frame
counted rate zero low = midnight_counted rate
counted rate (suc n) low = next_counted rate n (address_of_frame rate n) low (counted rate n (omega arith))

pub counted_low : (rate : Rate) (n : ℕ) (a : Address) → IsCounted rate n a → n < day_length rate
counted_low F24 n a p = omega arith
counted_low F25 n a p = omega arith
counted_low F30 n a p = omega arith
counted_low Df30 n a p = omega arith

pub address-counted : (rate : Rate) (n : ℕ) (a : Address) → IsCounted rate n a → address_of_frame rate n ≡ a
address-counted rate n a p = counted_once rate n (address_of_frame rate n) a (counted rate n (counted_low rate n a p)) p

-- a frame of the day at an address is the frame that the address belongs to
pub counted_at : (rate : Rate) (n : ℕ) (a : Address) → n < day_length rate → address_of_frame rate n ≡ a
    → IsCounted rate n a
counted_at rate n a low e = let P : Address → Type 0 = λ x. IsCounted rate n x in subst P e (counted rate n low)

pub addresses_differ : (rate : Rate) (m n : ℕ) → m < day_length rate → n < day_length rate
    → address_of_frame rate m ≡ address_of_frame rate n → m ≡ n
addresses_differ rate m n lm ln e =
    counted_number rate m n (address_of_frame rate n) (counted_at rate m (address_of_frame rate n) lm e)
    (counted rate n ln)

-- `find` over numbers in order
find-first : (test : ℕ → Bool) (low n k : ℕ) → low ≤ k → k < low + n → ((j : ℕ) → low ≤ j → j < k → test j ≡ false)
    → test k ≡ true
    → find test (range_with_len low n) ≡ Some k
find-first test low zero k le lt before here = absurd (omega arith)
find-first test low (suc n) k le lt before here =
    elim (cases_eq low k) [
      | inl e ↦ cond-true _ _ _ (ap test e ∙ here) ∙ ap Some e
      | inr ne ↦ cond-false _ _ _ (before low (omega arith) (omega arith))
          ∙ find-first test (low + 1) n k (omega arith) (omega arith) (λ j l u. before j (omega arith) u) here
    ]

find-none : (test : ℕ → Bool) (low n : ℕ) → ((j : ℕ) → low ≤ j → j < low + n → test j ≡ false)
    → find test (range_with_len low n) ≡ None
find-none test low zero fails = refl
find-none test low (suc n) fails =
    cond-false _ _ _ (fails low (omega arith) (omega arith))
    ∙ find-none test (low + 1) n (λ j l u. fails j (omega arith) (omega arith))

find-sound : (test : ℕ → Bool) (low n k : ℕ) → find test (range_with_len low n) ≡ Some k
    → (k < low + n) × (test k ≡ true)
find-sound test low zero k e = absurd (none-some k e)
find-sound test low (suc n) k e =
    elim (cases_Bool (test low)) [
      | inl t ↦ let same : low ≡ k = cc (cond-true (test low) (Some low) (find test (range_with_len (low + 1) n)) t) in
          (omega arith, ap test (sym same) ∙ t)
      | inr f ↦ let rest = find-sound test (low + 1) n k (sym (cond-false _ _ _ f) ∙ e) in
          (omega (arith, rest.0), rest.1)
    ]

same-true : (a b : Address) → same_address a b ≡ true → a ≡ b
same-true a b e =
    let parts = and_parts _ _ e in
    let three = and_parts _ _ parts.0 in
    let two = and_parts _ _ three.0 in
    same_fields a b (eqb-true _ _ two.0) (eqb-true _ _ two.1) (eqb-true _ _ three.1) (eqb-true _ _ parts.1)

same-self : (a b : Address) → a ≡ b → same_address a b ≡ true
same-self a b e =
    and_from _ _
    (and_from _ _
    (and_from _ _ (eq-eqb _ _ (ap (λ (x : Address). x.hours) e)) (eq-eqb _ _ (ap (λ (x : Address). x.minutes) e)))
    (eq-eqb _ _ (ap (λ (x : Address). x.seconds) e))) (eq-eqb _ _ (ap (λ (x : Address). x.frames) e))

-- the frame that an address belongs to is the one found
pub frame_at-counted : (rate : Rate) (n : ℕ) (a : Address) → IsCounted rate n a → frame_at rate a ≡ Some n
unfolding frame_at
frame_at-counted rate n a p =
    let low = counted_low rate n a p in
    find-first (λ k. same_address (address_of_frame rate k) a) 0 (day_length rate) n (omega arith) (omega arith)
    (λ j _ u. false_from_ne_true _
    (λ t. let same = counted_number rate j n a (counted_at rate j a (omega arith) (same-true _ _ t)) p in
    omega arith))
    (same-self _ _ (address-counted rate n a p))

-- a frame found at an address is a frame of the day, and has the address
pub frame_at-sound : (rate : Rate) (a : Address) (n : ℕ) → frame_at rate a ≡ Some n
    → (n < day_length rate) × (address_of_frame rate n ≡ a)
unfolding frame_at
frame_at-sound rate a n e =
    let found = find-sound (λ k. same_address (address_of_frame rate k) a) 0 (day_length rate) n e in
    (omega (arith, found.0), same-true _ _ found.1)

pub frame_at-none : (rate : Rate) (a : Address) → ((n : ℕ) → IsCounted rate n a → ⊥) → frame_at rate a ≡ None
unfolding frame_at
frame_at-none rate a never =
    find-none (λ k. same_address (address_of_frame rate k) a) 0 (day_length rate)
    (λ j _ u. false_from_ne_true _ (λ t. never j (counted_at rate j a (omega arith) (same-true _ _ t))))

-- counting comes to midnight after the last address of a day
after_last : (rate : Rate) (n : ℕ) (last : Address) → IsCounted rate n last → next_address rate last ≡ midnight
    → address_of_frame rate (suc n) ≡ midnight
unfolding address_of_frame
after_last rate n last p e = ap (next_address rate) (address-counted rate n last p) ∙ e

comes_round : (rate : Rate) → address_of_frame rate (day_length rate) ≡ midnight
comes_round F24 =
    after_last F24 2073599 (address 23 59 59 23)
    (record {
      hours = omega arith;
      minutes = omega arith;
      seconds = omega arith;
      frames = omega arith;
      kept = λ d. cc;
      number =
          refl;
    }) refl
comes_round F25 =
    after_last F25 2159999 (address 23 59 59 24)
    (record {
      hours = omega arith;
      minutes = omega arith;
      seconds = omega arith;
      frames = omega arith;
      kept = λ d. cc;
      number =
          refl;
    }) refl
comes_round F30 =
    after_last F30 2591999 (address 23 59 59 29)
    (record {
      hours = omega arith;
      minutes = omega arith;
      seconds = omega arith;
      frames = omega arith;
      kept = λ d. cc;
      number =
          refl;
    }) refl
comes_round Df30 =
    after_last Df30 2589407 (address 23 59 59 29)
    (record {
      hours = omega arith;
      minutes = omega arith;
      seconds = omega arith;
      frames = omega arith;
      kept =
          λ d s m. omega arith;
      number = refl;
    }) refl

above_zero : (rate : Rate) → 0 < day_length rate
above_zero F24 = omega arith
above_zero F25 = omega arith
above_zero F30 = omega arith
above_zero Df30 = omega arith

pub day_length_is : (rate : Rate) → IsDayLength rate (day_length rate)
day_length_is rate = record {
  above_zero = above_zero rate;
  comes_round = comes_round rate;
  no_sooner =
      λ k some low e. let none =
      counted_number rate k 0 midnight (counted_at rate k midnight low e) (midnight_counted rate) in omega arith;
}

-- an address in range that is not dropped belongs to a frame
pub record InRange (rate : Rate) (a : Address) : Type 0 where
  pub hours : a.hours < 24
  pub minutes : a.minutes < 60
  pub seconds : a.seconds < 60
  pub frames : a.frames < nominal_frames rate

pub range_parts : (rate : Rate) (a : Address) → is_in_range rate a ≡ true → InRange rate a
range_parts rate a e =
    let parts = and_parts _ _ e in
    let three = and_parts _ _ parts.0 in
    let two = and_parts _ _ three.0 in
    record {
      hours = ltb-true _ _ two.0;
      minutes = ltb-true _ _ two.1;
      seconds = ltb-true _ _ three.1;
      frames =
          ltb-true _ _ parts.1;
    }

pub range_from : (rate : Rate) (a : Address) → InRange rate a → is_in_range rate a ≡ true
range_from rate a p =
    and_from _ _ (and_from _ _ (and_from _ _ (lt-ltb _ _ p.hours) (lt-ltb _ _ p.minutes)) (lt-ltb _ _ p.seconds))
    (lt-ltb _ _ p.frames)

-- what a label is that is dropped
dropped_parts : (rate : Rate) (a : Address) → is_dropped rate a ≡ true
    → (is_drop_frame rate ≡ true) × (a.seconds ≡ 0) × (a.frames < 2) × (0 < a.minutes % 10)
dropped_parts rate a e =
    let parts = and_parts _ _ e in
    let three = and_parts _ _ parts.0 in
    let two = and_parts _ _ three.0 in
    (two.0, eqb-true _ _ two.1, ltb-true _ _ three.1, omega (arith, eqb-false _ _ (not-true _ parts.1)))

dropped_from : (rate : Rate) (a : Address) → is_drop_frame rate ≡ true → a.seconds ≡ 0 → a.frames < 2
    → 0 < a.minutes % 10 → is_dropped rate a ≡ true
dropped_from rate a d s f m =
    and_from _ _ (and_from _ _ (and_from _ _ d (eq-eqb _ _ s)) (lt-ltb _ _ f))
    (not_from_false _ (ne_eqb _ _ (λ z. omega arith)))

-- no frame has a label that is dropped
pub dropped-none : (rate : Rate) (a : Address) → is_dropped rate a ≡ true → frame_at rate a ≡ None
dropped-none rate a e =
    let parts = dropped_parts rate a e in
    frame_at-none rate a (λ n p. let kept = p.kept parts.0 parts.1 parts.3 in omega (arith, parts.2))

dropped_first : (rate : Rate) (a : Address) → InRange rate a → dropped_before rate a ≤ labels_before rate a
dropped_first F24 a p = omega arith
dropped_first F25 a p = omega arith
dropped_first F30 a p = omega arith
dropped_first Df30 a p = omega arith

pub kept_counted : (rate : Rate) (a : Address) → InRange rate a → is_dropped rate a ≡ false
    → IsCounted rate (labels_before rate a - dropped_before rate a) a
kept_counted rate a p stays =
    let enough = dropped_first rate a p in
    record {
      hours = p.hours;
      minutes = p.minutes;
      seconds = p.seconds;
      frames = p.frames;
      kept =
          λ d s m. elim (cases_lt a.frames 2)
          [ inl f ↦ absurd (both_ways _ stays (dropped_from rate a d s f m)) | inr f ↦ f ];
      number = omega arith;
    }

-- the frame that an address in range belongs to
pub frame_at-kept : (rate : Rate) (a : Address) → is_in_range rate a ≡ true → is_dropped rate a ≡ false
    → frame_at rate a ≡ Some (labels_before rate a - dropped_before rate a)
frame_at-kept rate a r stays = frame_at-counted rate _ a (kept_counted rate a (range_parts rate a r) stays)

pub dropped_iff : (rate : Rate) (a : Address) → is_in_range rate a ≡ true
    → (is_some (frame_at rate a) ≡ false) ↔ (is_dropped rate a ≡ true)
dropped_iff rate a r = (
  λ none. elim (cases_Bool (is_dropped rate a))
      [ inl t ↦ t | inr f ↦ absurd (both_ways _ none (ap is_some (frame_at-kept rate a r f))) ],
  λ t. ap is_some (dropped-none rate a t),
)

pub dropped_test : (rate : Rate) (a : Address) → is_in_range rate a ≡ true
    → is_none (frame_at rate a) ≡ is_dropped rate a
dropped_test rate a r =
    elim (cases_Bool (is_dropped rate a)) [
      | inl t ↦ ap is_none (dropped-none rate a t) ∙ sym t
      | inr f ↦ ap is_none (frame_at-kept rate a r f) ∙ sym f
    ]

nothing_less : (n : ℕ) → n - 0 ≡ n
nothing_less n = omega arith

minutes_dropped : (h m : ℕ) → 108 * h + 2 * (m - m / 10) ≡ 2 * (h * 60 + m - (h * 60 + m) / 10)
minutes_dropped h m = omega arith

-- the frame of an address, where no label is dropped
pub plain_frame : (rate : Rate) (a : Address) → is_in_range rate a ≡ true → is_drop_frame rate ≡ false
    → frame_at rate a ≡ Some (((a.hours * 60 + a.minutes) * 60 + a.seconds) * nominal_frames rate + a.frames)
plain_frame rate a r d =
    frame_at-kept rate a r (and_left _ _ (and_left _ _ (and_left _ _ d)))
    ∙ ap Some (ap (λ x. labels_before rate a - x) (cond-false _ _ _ d) ∙ nothing_less (labels_before rate a))

-- the frame of an address of drop-frame counting
pub drop_frame : (rate : Rate) (a : Address) → is_in_range rate a ≡ true → is_drop_frame rate ≡ true
    → (a.seconds ≡ 0 → a.frames < 2 → 0 < a.minutes % 10 → ⊥)
    → frame_at rate a
    ≡ Some
    (((a.hours * 60 + a.minutes) * 60 + a.seconds) * nominal_frames rate + a.frames - 2 *
    (a.hours * 60 + a.minutes - (a.hours * 60 + a.minutes) / 10))
drop_frame rate a r d stays =
    frame_at-kept rate a r
    (false_from_ne_true _ (λ t. let parts = dropped_parts rate a t in stays parts.1 parts.2 parts.3))
    ∙ ap Some (ap (λ x. labels_before rate a - x) (cond-true _ _ _ d ∙ minutes_dropped a.hours a.minutes))

pub no_frame : (rate : Rate) (a : Address) → is_drop_frame rate ≡ true → a.seconds ≡ 0 → a.frames < 2
    → 0 < a.minutes % 10 → frame_at rate a ≡ None
no_frame rate a d s f m = dropped-none rate a (dropped_from rate a d s f m)

pub ruleset frames = (plain_frame, drop_frame, no_frame)
