-- Which frame an address belongs to: what counting on keeps, without any counting.
use Rattle.std.proofs.Common.{inl, inr, ◌≡◌, ℕ, suc, ◌+◌, ◌-◌, ◌*◌, ◌/◌, ◌%◌, ◌<◌, ◌≤◌, true, false, cond, ◌⊎◌, eqb}
use Rattle.std.proofs.Common.{ltb, refl, sym, arith}
use Rattle.std.proofs.lemmas.Bool.{cond_both, ltb-true, ltb-false, eqb-true, eqb-false, and_parts, and_from, not-true}
use Rattle.std.proofs.lemmas.Bool.{eq-eqb, not_from_false, both_ways, cases_Bool, cases_eq, cases_lt}
use Rattle.timecode.specs.declared.rates.Rate.{Rate}
use Rattle.timecode.specs.declared.rates.Rate.TheVariants.{F24, F25, F30, Df30}
use Rattle.timecode.specs.Rate.{nominal_frames, is_drop_frame}
use Rattle.timecode.specs.Address.{Address, address, midnight, counted_on, begins_short_minute, next_address}
use Rattle.timecode.specs.Counting.{day_length}

-- the labels that counting without leaving any out passes before the address
abbrev pub labels_before : Rate → Address → ℕ
labels_before rate a = ((a.hours * 60 + a.minutes) * 60 + a.seconds) * nominal_frames rate + a.frames

-- the labels among them that are dropped
abbrev pub dropped_before : Rate → Address → ℕ
dropped_before rate a = cond (is_drop_frame rate) (108 * a.hours + 2 * (a.minutes - a.minutes / 10)) 0

-- the address is that of frame n
pub record IsCounted (rate : Rate) (n : ℕ) (a : Address) : Type 0 where
  pub hours : a.hours < 24
  pub minutes : a.minutes < 60
  pub seconds : a.seconds < 60
  pub frames : a.frames < nominal_frames rate
  pub kept : is_drop_frame rate ≡ true → a.seconds ≡ 0 → 0 < a.minutes % 10 → 2 ≤ a.frames
  pub number : n + dropped_before rate a ≡ labels_before rate a

pub midnight_counted : (rate : Rate) → IsCounted rate 0 midnight
midnight_counted F24 =
    record {
      hours = omega arith;
      minutes = omega arith;
      seconds = omega arith;
      frames = omega arith;
      kept =
          λ _ _ h. absurd (omega arith);
      number = refl;
    }
midnight_counted F25 =
    record {
      hours = omega arith;
      minutes = omega arith;
      seconds = omega arith;
      frames = omega arith;
      kept =
          λ _ _ h. absurd (omega arith);
      number = refl;
    }
midnight_counted F30 =
    record {
      hours = omega arith;
      minutes = omega arith;
      seconds = omega arith;
      frames = omega arith;
      kept =
          λ _ _ h. absurd (omega arith);
      number = refl;
    }
midnight_counted Df30 =
    record {
      hours = omega arith;
      minutes = omega arith;
      seconds = omega arith;
      frames = omega arith;
      kept =
          λ _ _ h. absurd (omega arith);
      number = refl;
    }

-- the five ways in which counting on carries
carry_cases : (n : ℕ) (a : Address) (P : Address → Type 0)
    → (a.frames + 1 < n → P (address a.hours a.minutes a.seconds (a.frames + 1)))
    → (n ≤ a.frames + 1 → a.seconds + 1 < 60 → P (address a.hours a.minutes (a.seconds + 1) 0))
    → (n ≤ a.frames + 1 → 60 ≤ a.seconds + 1 → a.minutes + 1 < 60 → P (address a.hours (a.minutes + 1) 0 0))
    → (n ≤ a.frames + 1 → 60 ≤ a.seconds + 1 → 60 ≤ a.minutes + 1 → a.hours + 1 < 24 → P (address (a.hours + 1) 0 0 0))
    → (n ≤ a.frames + 1 → 60 ≤ a.seconds + 1 → 60 ≤ a.minutes + 1 → 24 ≤ a.hours + 1 → P midnight)
    → P (counted_on n a)
carry_cases n a P frame second minute hour day =
    cond_both (ltb (a.frames + 1) n) _ _ P (λ e. frame (ltb-true _ _ e)) (λ e1.
    cond_both (ltb (a.seconds + 1) 60) _ _ P (λ e. second (ltb-false _ _ e1) (ltb-true _ _ e)) (λ e2.
    cond_both (ltb (a.minutes + 1) 60) _ _ P (λ e. minute (ltb-false _ _ e1) (ltb-false _ _ e2) (ltb-true _ _ e)) (λ e3.
    cond_both (ltb (a.hours + 1) 24) _ _ P
    (λ e. hour (ltb-false _ _ e1) (ltb-false _ _ e2) (ltb-false _ _ e3) (ltb-true _ _ e))
    (λ e. day (ltb-false _ _ e1) (ltb-false _ _ e2) (ltb-false _ _ e3) (ltb-false _ _ e)))))

-- what the test of drop-frame counting means
short_minute : (a : Address) → begins_short_minute a ≡ true → (a.seconds ≡ 0) × (a.frames ≡ 0) × (0 < a.minutes % 10)
short_minute a e =
    let parts = and_parts _ _ e in
    let zeros = and_parts _ _ parts.0 in
    (eqb-true _ _ zeros.0, eqb-true _ _ zeros.1, omega (arith, eqb-false _ _ (not-true _ parts.1)))

no_short_minute : (a : Address) → begins_short_minute a ≡ false → a.seconds ≡ 0 → a.frames ≡ 0 → a.minutes % 10 ≡ 0
no_short_minute a e s f =
    elim (cases_Bool (eqb (a.minutes % 10) 0)) [
      | inl t ↦ eqb-true _ _ t
      | inr t ↦ absurd (both_ways _ e (and_from _ _ (and_from _ _ (eq-eqb _ _ s) (eq-eqb _ _ f)) (not_from_false _ t)))
    ]

-- what follows a label of drop-frame counting that a carry gave
abbrev drop_next : ℕ → Address → Type 0
drop_next n next = IsCounted Df30 n (cond (begins_short_minute next) (address next.hours next.minutes 0 2) next)

-- an address that begins no minute, or a tenth minute, stays
stays : (n : ℕ) (next : Address) → (next.seconds ≡ 0 → next.frames ≡ 0 → 0 < next.minutes % 10 → ⊥)
    → IsCounted Df30 n next → drop_next n next
stays n next other p =
    cond_both (begins_short_minute next) _ _ (IsCounted Df30 n)
    (λ t. let short = short_minute next t in absurd (other short.0 short.1 short.2)) (λ _. p)

pub next_counted : (rate : Rate) (n : ℕ) (a : Address) → suc n < day_length rate → IsCounted rate n a
    → IsCounted rate (suc n) (next_address rate a)
next_counted F24 n a low p =
    carry_cases 24 a (IsCounted F24 (suc n))
    (λ e. record {
      hours = p.hours;
      minutes = p.minutes;
      seconds = p.seconds;
      frames = omega arith;
      kept = λ d. cc;
      number =
          omega arith;
    })
    (λ e1 e2. record {
      hours = p.hours;
      minutes = p.minutes;
      seconds = omega arith;
      frames = omega arith;
      kept = λ d. cc;
      number =
          omega arith;
    })
    (λ e1 e2 e3. record {
      hours = p.hours;
      minutes = omega arith;
      seconds = omega arith;
      frames = omega arith;
      kept = λ d. cc;
      number =
          omega arith;
    })
    (λ e1 e2 e3 e4. record {
      hours = omega arith;
      minutes = omega arith;
      seconds = omega arith;
      frames = omega arith;
      kept =
          λ d. cc;
      number = omega arith;
    })
    (λ e1 e2 e3 e4. absurd (omega arith))
next_counted F25 n a low p =
    carry_cases 25 a (IsCounted F25 (suc n))
    (λ e. record {
      hours = p.hours;
      minutes = p.minutes;
      seconds = p.seconds;
      frames = omega arith;
      kept = λ d. cc;
      number =
          omega arith;
    })
    (λ e1 e2. record {
      hours = p.hours;
      minutes = p.minutes;
      seconds = omega arith;
      frames = omega arith;
      kept = λ d. cc;
      number =
          omega arith;
    })
    (λ e1 e2 e3. record {
      hours = p.hours;
      minutes = omega arith;
      seconds = omega arith;
      frames = omega arith;
      kept = λ d. cc;
      number =
          omega arith;
    })
    (λ e1 e2 e3 e4. record {
      hours = omega arith;
      minutes = omega arith;
      seconds = omega arith;
      frames = omega arith;
      kept =
          λ d. cc;
      number = omega arith;
    })
    (λ e1 e2 e3 e4. absurd (omega arith))
next_counted F30 n a low p =
    carry_cases 30 a (IsCounted F30 (suc n))
    (λ e. record {
      hours = p.hours;
      minutes = p.minutes;
      seconds = p.seconds;
      frames = omega arith;
      kept = λ d. cc;
      number =
          omega arith;
    })
    (λ e1 e2. record {
      hours = p.hours;
      minutes = p.minutes;
      seconds = omega arith;
      frames = omega arith;
      kept = λ d. cc;
      number =
          omega arith;
    })
    (λ e1 e2 e3. record {
      hours = p.hours;
      minutes = omega arith;
      seconds = omega arith;
      frames = omega arith;
      kept = λ d. cc;
      number =
          omega arith;
    })
    (λ e1 e2 e3 e4. record {
      hours = omega arith;
      minutes = omega arith;
      seconds = omega arith;
      frames = omega arith;
      kept =
          λ d. cc;
      number = omega arith;
    })
    (λ e1 e2 e3 e4. absurd (omega arith))
next_counted Df30 n a low p =
    carry_cases 30 a (drop_next (suc n))
    (λ e. stays _ (address a.hours a.minutes a.seconds (a.frames + 1)) (λ s f m. omega arith)
    (record {
      hours = p.hours;
      minutes = p.minutes;
      seconds = p.seconds;
      frames = omega arith;
      kept =
          λ d s m. let k = p.kept d s m in omega arith;
      number = omega arith;
    }))
    (λ e1 e2. stays _ (address a.hours a.minutes (a.seconds + 1) 0) (λ s f m. omega arith)
    (record {
      hours = p.hours;
      minutes = p.minutes;
      seconds = omega arith;
      frames = omega arith;
      kept =
          λ d s m. absurd (omega arith);
      number = omega arith;
    }))
    (λ e1 e2 e3. cond_both (begins_short_minute (address a.hours (a.minutes + 1) 0 0)) _ _ (IsCounted Df30 (suc n))
    (λ t. let short = short_minute (address a.hours (a.minutes + 1) 0 0) t in
    let long : 0 < (a.minutes + 1) % 10 = short.2 in
    record {
      hours = p.hours;
      minutes = omega arith;
      seconds = omega arith;
      frames = omega arith;
      kept =
          λ d s m. omega arith;
      number = omega arith;
    })
    (λ t. let tenth : (a.minutes + 1) % 10 ≡ 0 = no_short_minute (address a.hours (a.minutes + 1) 0 0) t refl refl in
    record {
      hours = p.hours;
      minutes = omega arith;
      seconds = omega arith;
      frames = omega arith;
      kept =
          λ d s m. absurd (omega arith);
      number = omega arith;
    }))
    (λ e1 e2 e3 e4. stays _ (address (a.hours + 1) 0 0 0) (λ s f m. omega arith)
    (record {
      hours = omega arith;
      minutes = omega arith;
      seconds = omega arith;
      frames = omega arith;
      kept =
          λ d s m. absurd (omega arith);
      number = omega arith;
    }))
    (λ e1 e2 e3 e4. absurd (omega arith))

pub same_fields : (a b : Address) → a.hours ≡ b.hours → a.minutes ≡ b.minutes → a.seconds ≡ b.seconds
    → a.frames ≡ b.frames → a ≡ b
same_fields a b h m s f =
    let e : address a.hours a.minutes a.seconds a.frames ≡ address b.hours b.minutes b.seconds b.frames = cc in e

-- of a minute that lacks two labels, an address is at least two frames after its start
after_two : (n : ℕ) (a : Address) → IsCounted Df30 n a → (a.minutes % 10 ≡ 0) ⊎ (2 ≤ 30 * a.seconds + a.frames)
after_two n a p =
    elim (cases_lt 0 (a.minutes % 10)) [
      | inl m ↦ elim (cases_eq a.seconds 0)
          [ inl s ↦ inr (let two = p.kept refl s m in omega arith) | inr s ↦ inr (omega arith) ]
      | inr m ↦ inl (omega arith)
    ]

-- no minute begins before the one before it ends
minute_order : (n : ℕ) (a b : Address) → IsCounted Df30 n a → IsCounted Df30 n b → a.hours ≡ b.hours
    → a.minutes < b.minutes → ⊥
minute_order n a b p q h l =
    elim (after_two n b q) [ inl tenth ↦ omega arith | inr two ↦ omega arith ]

-- two addresses of one frame are the same
pub counted_once : (rate : Rate) (n : ℕ) (a b : Address) → IsCounted rate n a → IsCounted rate n b → a ≡ b
counted_once F24 n a b p q =
    let h : a.hours ≡ b.hours = omega arith in
    let m : a.minutes ≡ b.minutes = omega arith in
    let s : a.seconds ≡ b.seconds = omega arith in
    let f : a.frames ≡ b.frames = omega arith in
    same_fields a b h m s f
counted_once F25 n a b p q =
    let h : a.hours ≡ b.hours = omega arith in
    let m : a.minutes ≡ b.minutes = omega arith in
    let s : a.seconds ≡ b.seconds = omega arith in
    let f : a.frames ≡ b.frames = omega arith in
    same_fields a b h m s f
counted_once F30 n a b p q =
    let h : a.hours ≡ b.hours = omega arith in
    let m : a.minutes ≡ b.minutes = omega arith in
    let s : a.seconds ≡ b.seconds = omega arith in
    let f : a.frames ≡ b.frames = omega arith in
    same_fields a b h m s f
counted_once Df30 n a b p q =
    let h : a.hours ≡ b.hours = omega arith in
    let m : a.minutes ≡ b.minutes = omega (arith, minute_order n a b p q h, minute_order n b a q p (sym h)) in
    let s : a.seconds ≡ b.seconds = omega arith in
    let f : a.frames ≡ b.frames = omega arith in
    same_fields a b h m s f

-- two frames at one address are the same
pub counted_number : (rate : Rate) (m n : ℕ) (a : Address) → IsCounted rate m a → IsCounted rate n a → m ≡ n
counted_number rate m n a p q = omega arith
