-- The digits of an event's number that is written.
use Rattle.std.proofs.Common.{◌≡◌, ℕ, ◌+◌, ◌-◌, ◌/◌, ◌%◌, ◌<◌, ◌≤◌, Bool, true, false, nat_lt, List, [], ◌∷◌, ◌++◌}
use Rattle.std.proofs.Common.{length, replicate, refl, ap, ◌∙◌, append_assoc, arith}
use Rattle.std.specs.Prelude.{decimal}
use Rattle.std.proofs.lemmas.Bool.Decides.{nat_tests}
use Rattle.std.proofs.lemmas.Fmt.{decimal_digit, decimal_step}
use Rattle.timecode.specs.Decimal.{in_digits}
use Rattle.edl.specs.Written.{number_text, padded, three_digits}

tens : (n : ℕ) → 10 ≤ n → n < 100 → decimal n ≡ (48 + n / 10) ∷ (48 + n % 10) ∷ []
tens n low high =
    decimal_step n low (omega arith)
    ∙ ap (λ (front : List ℕ). front ++ (48 + n % 10) ∷ []) (decimal_digit (n / 10) (omega arith))

hundreds : (n : ℕ) → 100 ≤ n → n < 1000 → decimal n ≡ (48 + n / 10 / 10) ∷ (48 + n / 10 % 10) ∷ (48 + n % 10) ∷ []
hundreds n low high =
    decimal_step n (omega arith) (omega arith)
    ∙ ap (λ (front : List ℕ). front ++ (48 + n % 10) ∷ []) (tens (n / 10) (omega arith) (omega arith))

thousands : (n : ℕ) → 1000 ≤ n → n < 10000
    → decimal n ≡ (48 + n / 10 / 10 / 10) ∷ (48 + n / 10 / 10 % 10) ∷ (48 + n / 10 % 10) ∷ (48 + n % 10) ∷ []
thousands n low high =
    decimal_step n (omega arith) (omega arith)
    ∙ ap (λ (front : List ℕ). front ++ (48 + n % 10) ∷ []) (hundreds (n / 10) (omega arith) (omega arith))

-- zeros in front of so many digits
with_zeros : List ℕ → List ℕ
with_zeros digits = replicate (3 - length digits) 48 ++ digits

pub filled_three : (n : ℕ) → n < 1000 → in_digits 3 n ≡ three_digits n
unfolding three_digits with_zeros
filled_three n lt = by (nat_lt n 10) (nat_lt n 100) refl refl
  where
    by : (one two : Bool) → nat_lt n 10 ≡ one → nat_lt n 100 ≡ two → in_digits 3 n ≡ three_digits n
    by true two e f =
        let below : n < 10 = grind (arith, nat_tests) in
        let a : 0 ≡ n / 100 = omega arith in
        let b : 0 ≡ n / 10 % 10 = omega arith in
        let c : n ≡ n % 10 = omega arith in
        ap with_zeros (decimal_digit n below) ∙ (λ i. (48 + a i) ∷ (48 + b i) ∷ (48 + c i) ∷ [])
    by false true e f =
        let below : n < 100 = grind (arith, nat_tests) in
        let above : 10 ≤ n = grind (arith, nat_tests) in
        let a : 0 ≡ n / 100 = omega arith in
        let b : n / 10 ≡ n / 10 % 10 = omega arith in
        ap with_zeros (tens n above below) ∙ (λ i. (48 + a i) ∷ (48 + b i) ∷ (48 + n % 10) ∷ [])
    by false false e f =
        let above : 100 ≤ n = grind (arith, nat_tests) in
        let a : n / 10 / 10 ≡ n / 100 = omega arith in
        ap with_zeros (hundreds n above lt) ∙ (λ i. (48 + a i) ∷ (48 + n / 10 % 10) ∷ (48 + n % 10) ∷ [])

pub filled_four : (n : ℕ) → 1000 ≤ n → n < 10000 → in_digits 3 n ≡ (48 + n / 1000) ∷ three_digits (n % 1000)
unfolding three_digits with_zeros
filled_four n low high =
    let a : n / 10 / 10 / 10 ≡ n / 1000 = omega arith in
    let b : n / 10 / 10 % 10 ≡ n % 1000 / 100 = omega arith in
    let c : n / 10 % 10 ≡ n % 1000 / 10 % 10 = omega arith in
    let d : n % 10 ≡ n % 1000 % 10 = omega arith in
    ap with_zeros (thousands n low high) ∙ (λ i. (48 + a i) ∷ (48 + b i) ∷ (48 + c i) ∷ (48 + d i) ∷ [])

-- the five places of a number
pub number_text-three : (n : ℕ) → n < 1000 → number_text n ≡ three_digits n ++ replicate 2 32
unfolding number_text three_digits
number_text-three n lt = ap (padded 5) (filled_three n lt)

pub number_text-four : (n : ℕ) → 1000 ≤ n → n < 10000
    → number_text n ≡ (48 + n / 1000) ∷ (three_digits (n % 1000) ++ replicate 1 32)
unfolding number_text three_digits
number_text-four n low high = ap (padded 5) (filled_four n low high)

pub ruleset number_written = (append_assoc, number_text-three, number_text-four)
