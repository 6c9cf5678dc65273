-- Grants of which each stands before the next.
use Rattle.std.proofs.Common.{◌≡◌, ℕ, ◌<◌, zero, suc, List, [], ◌∷◌, length, get_or, Bool, true, false, refl, subst}
use Rattle.std.proofs.Common.{add-one, arith}
use Rattle.std.specs.List.{IsAllAdjacentAnswer}
use Rattle.grant_core.specs.declared.grant.Grant.{Grant}
use Rattle.grant_core.specs.Grant.{is_before, are_in_order}

in_order : (gs : List Grant)
    → ((k : ℕ) (d : Grant) → suc k < length gs → true ≡ is_before (get_or gs k d) (get_or gs (suc k) d))
    → true ≡ are_in_order gs
in_order [] h = refl
in_order (g ∷ []) h = refl
in_order (g ∷ h ∷ gs) each =
    let first : true ≡ is_before g h = each zero g (omega arith) in
    let rest : true ≡ are_in_order (h ∷ gs) = in_order (h ∷ gs) (λ k d lt. each (suc k) d (omega (arith, lt))) in
    grind (arith, first, rest)

out_of_order : (gs : List Grant) (k : ℕ) → suc k < length gs
    → ((d : Grant) → false ≡ is_before (get_or gs k d) (get_or gs (suc k) d)) → false ≡ are_in_order gs
out_of_order [] k lt fails = absurd (omega arith)
out_of_order (g ∷ []) k lt fails = absurd (omega arith)
out_of_order (g ∷ h ∷ gs) zero lt fails = let first : false ≡ is_before g h = fails g in grind (arith, first)
out_of_order (g ∷ h ∷ gs) (suc k) lt fails =
    let rest : false ≡ are_in_order (h ∷ gs) = out_of_order (h ∷ gs) k (omega (arith, lt)) fails in
    grind (arith, rest)

pub order_is : (gs : List Grant) (r : Bool) → IsAllAdjacentAnswer (λ g h b. b ≡ is_before g h) gs r
    → r ≡ are_in_order gs
order_is gs true h =
    in_order gs
    (λ k d lt. subst (λ m. true ≡ is_before (get_or gs k d) (get_or gs m d)) (add-one k) (h k d (omega (arith, lt))))
order_is gs false h =
    out_of_order gs h.0 (omega (arith, h.1))
    (λ d. subst (λ m. false ≡ is_before (get_or gs h.0 d) (get_or gs m d)) (add-one h.0) (h.2 d))
