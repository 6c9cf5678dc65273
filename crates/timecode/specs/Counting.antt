-- Frames of a day, numbered from 0, and their addresses.
use Rattle.std.specs.Prelude.{◌≡◌, ◌≢◌, ℕ, zero, suc, ◌+◌, ◌<◌, Bool, Option, is_none, find, if◌then◌else◌}
use Rattle.std.specs.List.{range_with_len}
use Rattle.timecode.specs.declared.rates.Rate.{Rate}
use Rattle.timecode.specs.declared.rates.Rate.TheVariants.{F24, F25, F30, Df30}
use Rattle.timecode.specs.Address.{Address, address, midnight, same_address, next_address}

-- the address of frame n, which counting n frames on from 00:00:00:00 comes to
unfoldable pub address_of_frame : Rate → ℕ → Address
address_of_frame rate zero = midnight
address_of_frame rate (suc n) = next_address rate (address_of_frame rate n)

-- after n frames, and no sooner, counting comes to 00:00:00:00 again
pub record IsDayLength (rate : Rate) (n : ℕ) : Type 0 where
  pub above_zero : 0 < n
  pub comes_round : address_of_frame rate n ≡ midnight
  pub no_sooner : (k : ℕ) → 0 < k → k < n → address_of_frame rate k ≢ midnight

-- the frames of a day; drop-frame counting has 107,892 in an hour
abbrev pub day_length : Rate → ℕ
day_length F24 = 2_073_600
day_length F25 = 2_160_000
day_length F30 = 2_592_000
day_length Df30 = 2_589_408

-- the frame of the day that has this address, if one has
unfoldable pub frame_at : Rate → Address → Option ℕ
frame_at rate a = find (λ n. same_address (address_of_frame rate n) a) (range_with_len 0 (day_length rate))

-- at how many k below n the test holds
abbrev pub count_below : (ℕ → Bool) → ℕ → ℕ
count_below test zero = 0
count_below test (suc n) = count_below test n + (if test n then 1 else 0)

-- the sum of f k for k below n
abbrev pub sum_below : (ℕ → ℕ) → ℕ → ℕ
sum_below f zero = 0
sum_below f (suc n) = sum_below f n + f n

-- how many of the 1,800 labels of a minute, and of the 108,000 of an hour, no frame of a drop-frame day has
unfoldable pub uncounted_in_minute : ℕ → ℕ → ℕ
uncounted_in_minute h m = sum_below (λ s. count_below (λ f. is_none (frame_at Df30 (address h m s f))) 30) 60

unfoldable pub uncounted_in_hour : ℕ → ℕ
uncounted_in_hour h = sum_below (uncounted_in_minute h) 60
