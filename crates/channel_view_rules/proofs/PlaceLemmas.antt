-- Where `put` puts an element.
use Rattle.std.proofs.Common.{◌≡◌, ◌+◌, ◌≤◌, List, [], ◌∷◌, length, Bool, true, false, not, cond, one-add, refl, sym}
use Rattle.std.proofs.Common.{◌∙◌, ap, arith}
use Rattle.std.specs.Prelude.{position, unwrap_or, insert}
use Rattle.std.specs.List.{position_or_len}
use Rattle.std.proofs.lemmas.Bool.Decides.{nat_tests}
use Rattle.channel_view_model.specs.Tables.{put}

module _ {R : Type 0} (a : R → Bool) where
  pub within : (rs : List R) → position_or_len a rs ≤ length rs
  within [] = omega arith
  within (r ∷ rs) = let rest = within rs in grind (arith, rest)

  pub at_place : (x : R) (rs : List R) → put a x rs ≡ insert rs (position_or_len a rs) x
  at_place x [] = refl
  at_place x (r ∷ rs) =
      elim (a r)
      as (λ b. cond b (x ∷ r ∷ rs) (r ∷ put a x rs)
      ≡ insert (r ∷ rs) (cond (not b) (1 + position_or_len a rs) 0) x) [
        | true ↦ refl
        | false ↦ rw (one-add (position_or_len a rs)) (ap (λ zs. r ∷ zs) (at_place x rs))
      ]

  pub first_or_len : (rs : List R) → unwrap_or (position a rs) (length rs) ≡ position_or_len a rs
  first_or_len rs = let le = within rs in grind (arith, nat_tests, le)

  pub put-insert : (x : R) (rs : List R) → insert rs (unwrap_or (position a rs) (length rs)) x ≡ put a x rs
  put-insert x rs = ap (λ i. insert rs i x) (first_or_len rs) ∙ sym (at_place x rs)
