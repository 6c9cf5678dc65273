-- A number as `{:03}` and its like write it.
use Rattle.std.proofs.Common.{◌≡◌, ℕ, ◌-◌, ◌^◌, ◌<◌, true, false, [], ◌++◌, length, replicate, append-nil, ◌∙◌, ap}
use Rattle.std.proofs.Common.{arith}
use Rattle.std.specs.Prelude.{◌==◌, ◌&&◌, decimal, if◌then◌else◌}
use Rattle.std.specs.Fmt.{styled_decimal, format_spec, padded_integral, char_count}
use Rattle.std.proofs.lemmas.Bool.Decides.{nat_tests}
use Rattle.timecode.specs.Decimal.{in_digits}

pub digits_written : (width n : ℕ) → 0 < width
    → styled_decimal (format_spec 32 0 4 width (2 ^ 64 - 1)) n ≡ in_digits width n
unfolding padded_integral char_count
digits_written width n some =
    let wide : (width == 0) ≡ false = grind (arith, nat_tests, some) in
    let zeros : width - length (decimal n) - 0 - 0 ≡ width - length (decimal n) = omega arith in
    ap
    (λ b. if b && true && true then decimal n
    else padded_integral (format_spec 32 0 4 width (2 ^ 64 - 1)) false [] (decimal n)) wide
    ∙ ap (λ k. replicate k 48 ++ (decimal n ++ [])) zeros
    ∙ ap (λ digits. replicate (width - length (decimal n)) 48 ++ digits) (append-nil (decimal n))
