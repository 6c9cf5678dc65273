-- A short text's bytes.
use Rattle.std.proofs.Common.{◌≡◌, ℕ, ◌-◌, ◌≤◌, List, ◌++◌, length, drop, ◌∙◌, ap, arith}
use Rattle.std.proofs.Math.ListN.{replicate}
use Rattle.std.proofs.Math.Seq.{drop-append_seam}
use Rattle.std.proofs.lemmas.List.{length-append, drop-replicate, length-replicate}

-- n bytes, of which the text are the first
pub padded : (n : ℕ) (text : List ℕ) → length text ≤ n
    → (length text ≤ n) × (length (text ++ drop (length text) (replicate n 0)) ≡ n)
    × (drop (length text) (text ++ drop (length text) (replicate n 0)) ≡ replicate (n - length text) 0)
padded n text le =
    let zero_byte : ℕ = 0 in
    let rest : length (drop (length text) (replicate n zero_byte)) ≡ n - length text =
    ap length (drop-replicate (length text) n zero_byte) ∙ length-replicate (n - length text) zero_byte in (
      le,
      length-append text (drop (length text) (replicate n zero_byte)) ∙ omega (arith, rest),
      drop-append_seam text _
          ∙ drop-replicate (length text) n zero_byte,
    )
