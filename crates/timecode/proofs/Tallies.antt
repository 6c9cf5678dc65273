-- How many labels of a minute, and of an hour, drop-frame counting drops.
use Rattle.std.proofs.Common.{◌≡◌, ℕ, zero, suc, ◌+◌, ◌%◌, ◌<◌, Bool, true, false, not, ◌&&◌, cond, eqb, ltb, refl, ap}
use Rattle.std.proofs.Common.{◌∙◌, arith}
use Rattle.timecode.specs.declared.rates.Rate.TheVariants.{Df30}
use Rattle.timecode.specs.Address.{address, is_dropped}
use Rattle.timecode.specs.Counting.{count_below, sum_below, uncounted_in_minute, uncounted_in_hour}
use Rattle.timecode.proofs.Days.{dropped_test, range_from}

count_below-same : (p q : ℕ → Bool) (n : ℕ) → ((k : ℕ) → k < n → p k ≡ q k) → count_below p n ≡ count_below q n
count_below-same p q zero same = refl
count_below-same p q (suc n) same =
    ap (λ b. count_below p n + cond b 1 0) (same n (omega arith))
    ∙ ap (λ x. x + cond (q n) 1 0) (count_below-same p q n (λ k low. same k (omega arith)))

sum_below-same : (f g : ℕ → ℕ) (n : ℕ) → ((k : ℕ) → k < n → f k ≡ g k) → sum_below f n ≡ sum_below g n
sum_below-same f g zero same = refl
sum_below-same f g (suc n) same =
    ap (λ x. sum_below f n + x) (same n (omega arith))
    ∙ ap (λ x. x + g n) (sum_below-same f g n (λ k low. same k (omega arith)))

-- in a second: x says that it is a minute's first, y that the minute is no tenth one
in_second : (x y : Bool) → count_below (λ f. ((true && x) && ltb f 2) && y) 30 ≡ cond (x && y) 2 0
in_second true true = refl
in_second true false = refl
in_second false true = refl
in_second false false = refl

in_minute : (z : Bool) → sum_below (λ s. cond (eqb s 0 && not z) 2 0) 60 ≡ cond z 0 2
in_minute true = refl
in_minute false = refl

pub two_of_a_minute : (h m : ℕ) → h < 24 → m < 60 → uncounted_in_minute h m ≡ cond (eqb (m % 10) 0) 0 2
unfolding uncounted_in_minute
two_of_a_minute h m hl ml =
    sum_below-same _ (λ s. cond (eqb s 0 && not (eqb (m % 10) 0)) 2 0) 60 (λ s sl.
    count_below-same _ (λ f. is_dropped Df30 (address h m s f)) 30 (λ f fl.
    dropped_test Df30 (address h m s f)
    (range_from Df30 (address h m s f) (record { hours = hl; minutes = ml; seconds = sl; frames = fl })))
    ∙ in_second (eqb s 0) (not (eqb (m % 10) 0)))
    ∙ in_minute (eqb (m % 10) 0)

pub of_an_hour : (h : ℕ) → h < 24 → uncounted_in_hour h ≡ 108
unfolding uncounted_in_hour
of_an_hour h hl = sum_below-same _ (λ m. cond (eqb (m % 10) 0) 0 2) 60 (λ m ml. two_of_a_minute h m hl ml) ∙ refl
