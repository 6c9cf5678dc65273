-- Texts and the plan rows that they are.
use Rattle.std.proofs.Common.{◌≡◌, ℕ, ◌+◌, ◌<◌, List, [], ◌∷◌, ◌++◌, length, map, take, get_or, zero, suc, arith, ◌∙◌}
use Rattle.std.proofs.Common.{subst}
use Rattle.std.specs.Borrow.{Bor}
use Rattle.std.specs.Prelude.{Option, Some, None, Result, Ok, Err, OnOk, IfErr}
use Rattle.std.specs.Io.KnownBytes.{Appends, Keeps}
use Rattle.std.proofs.lemmas.List.{map-append, take_more}
use Rattle.channel_plan.specs.declared.plan.PlanRow.{PlanRow}
use Rattle.channel_plan.specs.Plan.{IsPlanText}
use Rattle.playout_actions.specs.Answering.{ArePlanTexts}

-- one more text, and its row
pub plan-push : (texts : List (List ℕ)) (rows : List PlanRow) (text : List ℕ) (row : PlanRow) → ArePlanTexts texts rows
    → IsPlanText text row → ArePlanTexts (texts ++ text ∷ []) (rows ++ row ∷ [])
plan-push [] [] text row h k = (k, tt)
plan-push [] (r ∷ rows) text row h k = absurd h
plan-push (t ∷ texts) [] text row h k = absurd h
plan-push (t ∷ texts) (r ∷ rows) text row h k = (h.0, plan-push texts rows text row h.1 k)

-- each of them has a row
pub plan-at : (texts : List (Bor (List ℕ))) (rows : List PlanRow) (i : ℕ) (d : Bor (List ℕ))
    → ArePlanTexts (map (λ t. t.now) texts) rows → i < length texts
    → (row : PlanRow) × IsPlanText (get_or texts i d).now row
plan-at [] rows i d h lt = absurd (omega arith)
plan-at (t ∷ texts) [] i d h lt = absurd h
plan-at (t ∷ texts) (r ∷ rows) zero d h lt = (r, h.0)
plan-at (t ∷ texts) (r ∷ rows) (suc i) d h lt = plan-at texts rows i d h.1 (omega arith)

-- the texts so far, and one more
pub plan-more : (texts : List (Bor (List ℕ))) (rows now : List PlanRow) (i : ℕ) (d : Bor (List ℕ)) (text : List ℕ)
    (row : PlanRow) → i < length texts
    → ArePlanTexts (map (λ t. t.now) (take i texts)) rows → text ≡ (get_or texts i d).now → IsPlanText text row
    → now ≡ rows ++ row ∷ []
    → ArePlanTexts (map (λ t. t.now) (take (i + 1) texts)) now
plan-more texts rows now i d text row lt h is k pushed =
    rw (pushed, take_more texts i d lt, map-append)
    (plan-push (map (λ t. t.now) (take i texts)) rows _ row h (subst (λ (l : List ℕ). IsPlanText l row) is k))

-- what was appended stays
pub appended_kept : (old mid new : Option (List ℕ)) (bytes : List ℕ) → Appends old mid bytes → Keeps mid new
    → Appends old new bytes
appended_kept None mid new bytes h k = tt
appended_kept (Some xs) None new bytes h k = absurd h
appended_kept (Some xs) (Some ys) None bytes h k = absurd k
appended_kept (Some xs) (Some ys) (Some zs) bytes h k = k ∙ h

-- what follows where a call succeeded
pub on_ok : {T E : Type 0} (P Q : Type 0) (r : Result T E) → OnOk r P → (P → Q) → OnOk r Q
on_ok P Q (Ok v) h f = f h
on_ok P Q (Err e) h f = tt

-- what holds of each error
pub if_err : {T E : Type 0} (P : E → Type 0) (r : Result T E) → ((e : E) → P e) → IfErr r P
if_err P (Ok v) h = tt
if_err P (Err e) h = h e
