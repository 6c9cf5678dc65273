-- A number that was read to its end.
use Rattle.std.proofs.Common.{◌≡◌, ℕ, ◌^◌, ◌<◌, ◌≤◌, true, List, length, drop, Some, sym, ap, ◌∙◌, lt-ltb, le-leb}
use Rattle.std.proofs.Common.{arith}
use Rattle.std.specs.Prelude.{nat_lt, nat_le}
use Rattle.std.specs.List.{list_all}
use Rattle.std.specs.Char.{is_ascii_digit}
use Rattle.std.specs.Str.Parse.{digits_value, digits_value_after}
use Rattle.std.proofs.lemmas.List.{drop_all}
use Rattle.std.proofs.Math.Nat.{pow-le-pow_right}
use Rattle.timecode.specs.Decimal.{decimal_number}

pub number_is : (most : ℕ) (text : List ℕ) (n i : ℕ) → (length text ≡ 0 → ⊥) → length text ≤ most
    → list_all is_ascii_digit text ≡ true
    → digits_value_after 10 n (drop i text) ≡ digits_value 10 text → length text ≤ i → Some n ≡ decimal_number most text
number_is most text n i some few digits value end =
    let n_is : n ≡ digits_value 10 text = sym (ap (digits_value_after 10 n) (drop_all i text end)) ∙ value in
    let zero_below : nat_lt 0 (length text) ≡ true = lt-ltb 0 (length text) (omega (arith, some)) in
    let fits : nat_le (length text) most ≡ true = le-leb (length text) most few in
    rw (zero_below, fits, digits) (ap Some n_is)

pub number_below : (most n i : ℕ) → i ≤ most → n < 10 ^ i → n < 10 ^ most
number_below most n i le below =
    let more : 10 ^ i ≤ 10 ^ most = pow-le-pow_right (omega arith) le in omega (arith, more, below)
