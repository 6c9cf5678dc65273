-- The questions that are asked of a list agree with one another.
use Rattle.std.proofs.Common.{◌≡◌, List, [], ◌∷◌, Bool, true, false, refl}
use Rattle.std.specs.Prelude.{Some, find, is_some, ◌||◌, if◌then◌else◌}
use Rattle.std.specs.List.{list_any}
use Rattle.vault_core.specs.Questions.{listed, IsConsistent}

pub some_is_first : {A : Type 0} (p : A → Bool) (xs : List A) → list_any p xs ≡ is_some (find p xs)
some_is_first p [] = refl
some_is_first p (x ∷ xs) =
    elim (p x) as (λ b. (b || list_any p xs) ≡ is_some (if b then Some x else find p xs))
    [ true ↦ refl | false ↦ some_is_first p xs ]

pub listed_is_consistent : {A : Type 0} (xs : List A) → IsConsistent (listed xs)
listed_is_consistent xs = record { some = λ p. some_is_first p xs; first = λ p. refl; count = refl }
