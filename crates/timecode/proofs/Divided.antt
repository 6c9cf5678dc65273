-- What dividing a number of labels gives.
use Rattle.std.proofs.Common.{◌≡◌, ◌≢◌, ℕ, ◌+◌, ◌-◌, ◌*◌, ◌/◌, ◌%◌, ◌<◌, ◌≤◌, true, false, Ok, ap, sym, ◌∙◌, arith}
use Rattle.std.proofs.lemmas.Bool.{cond-true, lt-ltb}
use Rattle.timecode.specs.declared.rates.Rate.{Rate}
use Rattle.timecode.specs.declared.rates.Rate.TheVariants.{F24, F25, F30, Df30}
use Rattle.timecode.specs.Rate.{nominal_frames, is_drop_frame}
use Rattle.timecode.specs.Address.{Address, address}
use Rattle.timecode.specs.Counting.{day_length}
use Rattle.timecode.specs.Label.{label_of, label_of_frame}
use Rattle.timecode.proofs.Counted.{IsCounted}
use Rattle.timecode.proofs.Days.{address-counted}

-- the address after l labels of n in a second
abbrev pub divided : ℕ → ℕ → Address
divided n l = address (l / n / 3600) (l / n / 60 % 60) (l / n % 60) (l % n)

plain_divided : (rate : Rate) (n : ℕ) → n < day_length rate → is_drop_frame rate ≡ false
    → IsCounted rate n (divided (nominal_frames rate) n)
plain_divided F24 n low d =
    record {
      hours = omega arith;
      minutes = omega arith;
      seconds = omega arith;
      frames = omega arith;
      kept = λ t. cc;
      number =
          omega arith;
    }
plain_divided F25 n low d =
    record {
      hours = omega arith;
      minutes = omega arith;
      seconds = omega arith;
      frames = omega arith;
      kept = λ t. cc;
      number =
          omega arith;
    }
plain_divided F30 n low d =
    record {
      hours = omega arith;
      minutes = omega arith;
      seconds = omega arith;
      frames = omega arith;
      kept = λ t. cc;
      number =
          omega arith;
    }
plain_divided Df30 n low d = cc

drop_divided : (rate : Rate) (n r : ℕ) → n < day_length rate → is_drop_frame rate ≡ true
    → r ≡ 2 * ((n + r) / 1800 - (n + r) / 1800 / 10) → ((n + r) / 1800 % 10 ≢ 0 → 2 ≤ (n + r) % 1800)
    → IsCounted rate n (divided (nominal_frames rate) (n + r))
drop_divided F24 n r low d dropped stays = cc
drop_divided F25 n r low d dropped stays = cc
drop_divided F30 n r low d dropped stays = cc
drop_divided Df30 n r low d dropped stays =
    record {
      hours = omega arith;
      minutes = omega arith;
      seconds = omega arith;
      frames = omega arith;
      kept =
          λ t s m. let two = stays (omega arith) in omega arith;
      number = omega arith;
    }

-- the label of a frame
label_from : (rate : Rate) (n : ℕ) (a : Address) → n < day_length rate → IsCounted rate n a
    → Ok (label_of rate a) ≡ label_of_frame rate n
label_from rate n a low p =
    sym (cond-true _ _ _ (lt-ltb _ _ low) ∙ ap (λ x. Ok (label_of rate x)) (address-counted rate n a p))

pub plain_label : (rate : Rate) (n k l : ℕ) → n < day_length rate → is_drop_frame rate ≡ false → k ≡ nominal_frames rate
    → l ≡ n → Ok (label_of rate (divided k l)) ≡ label_of_frame rate n
plain_label rate n k l low d counts same =
    ap (λ x. Ok (label_of rate (divided x l))) counts
    ∙ ap (λ x. Ok (label_of rate (divided (nominal_frames rate) x))) same
    ∙ label_from rate n (divided (nominal_frames rate) n) low (plain_divided rate n low d)

pub drop_label : (rate : Rate) (n r k l : ℕ) → n < day_length rate → is_drop_frame rate ≡ true → k ≡ nominal_frames rate
    → l ≡ n + r
    → r ≡ 2 * ((n + r) / 1800 - (n + r) / 1800 / 10) → ((n + r) / 1800 % 10 ≢ 0 → 2 ≤ (n + r) % 1800)
    → Ok (label_of rate (divided k l)) ≡ label_of_frame rate n
drop_label rate n r k l low d counts same dropped stays =
    ap (λ x. Ok (label_of rate (divided x l))) counts
    ∙ ap (λ x. Ok (label_of rate (divided (nominal_frames rate) x))) same
    ∙ label_from rate n (divided (nominal_frames rate) (n + r)) low (drop_divided rate n r low d dropped stays)
