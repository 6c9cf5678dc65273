-- A list of statuses has one list of runs.
use Rattle.std.proofs.Common.{◌≡◌, ℕ, zero, suc, ◌+◌, ◌<◌, List, [], ◌∷◌, ◌++◌, refl, sym, ◌∙◌, ap, subst, arith}
use Rattle.std.specs.Prelude.{replicate}
use Rattle.asrun_match.specs.declared.status.Status.{Status}
use Rattle.asrun_match.specs.declared.status.Run.{Run}
use Rattle.asrun_match.specs.Runs.{LieInRow, BeginsOther, AreRunsOf, spelled}

abbrev NotFirst : Status → List Status → Type 0
NotFirst s [] = Unit {0}
NotFirst s (x ∷ xs) = s ≡ x → ⊥

not_first : (n : ℕ) (s t : Status) (rest : List Status) → 0 < n → (s ≡ t → ⊥) → NotFirst s (replicate n t ++ rest)
not_first zero s t rest some other = absurd (omega arith)
not_first (suc n) s t rest some other = other

other_first : (from : ℕ) (s : Status) (runs : List Run) → BeginsOther s runs → LieInRow from runs
    → NotFirst s (spelled runs)
other_first from s [] other row = tt
other_first from s (run ∷ runs) other row = not_first run.frames s run.status (spelled runs) row.1 other

-- the longest front of one status is of one length
same_front : (m n : ℕ) (s : Status) (u v : List Status) → replicate m s ++ u ≡ replicate n s ++ v → NotFirst s u
    → NotFirst s v → (m ≡ n) × (u ≡ v)
same_front zero zero s u v same out other = (refl, same)
same_front zero (suc n) s [] v same out other = absurd (cc)
same_front zero (suc n) s (x ∷ u) v same out other = absurd (out (let here : s ≡ x = cc in here))
same_front (suc m) zero s u [] same out other = absurd (cc)
same_front (suc m) zero s u (x ∷ v) same out other = absurd (other (let here : s ≡ x = cc in here))
same_front (suc m) (suc n) s u v same out other =
    let rest : replicate m s ++ u ≡ replicate n s ++ v = cc in
    let ih = same_front m n s u v rest out other in
    (ap suc ih.0, ih.1)

same_status : (m n : ℕ) (s t : Status) (u v : List Status) → 0 < m → 0 < n → replicate m s ++ u ≡ replicate n t ++ v
    → s ≡ t
same_status zero n s t u v some other same = absurd (omega arith)
same_status (suc m) zero s t u v some other same = absurd (omega arith)
same_status (suc m) (suc n) s t u v some other same = cc

not_empty : (n : ℕ) (s : Status) (rest : List Status) → 0 < n → [] ≡ replicate n s ++ rest → ⊥
not_empty zero s rest some same = omega arith
not_empty (suc n) s rest some same = cc

determined : (from : ℕ) (a b : List Run) → LieInRow from a → LieInRow from b → spelled a ≡ spelled b → a ≡ b
determined from [] [] row other same = refl
determined from [] (y ∷ b) row other same = absurd (not_empty y.frames y.status (spelled b) other.1 same)
determined from (x ∷ a) [] row other same = absurd (not_empty x.frames x.status (spelled a) row.1 (sym same))
determined from (x ∷ a) (y ∷ b) row other same =
    let status = same_status x.frames y.frames x.status y.status (spelled a) (spelled b) row.1 other.1 same in
    let front = same_front x.frames y.frames x.status (spelled a) (spelled b)
    (same ∙ ap (λ s. replicate y.frames s ++ spelled b) (sym status))
    (other_first (from + x.frames) x.status a row.2 row.3)
    (subst (λ s. NotFirst s (spelled b)) (sym status) (other_first (from + y.frames) y.status b other.2 other.3)) in
    let position : x.position ≡ y.position = row.0 ∙ sym other.0 in
    let frames : x.frames ≡ y.frames = front.0 in
    let first : x ≡ y = λ i. record { position = position i; frames = frames i; status = status i } in
    let rest =
    determined (from + x.frames) a b row.3 (subst (λ n. LieInRow (from + n) b) (sym frames) other.3) front.1 in
    λ i. first i ∷ rest i

pub runs_determined : (list : List Status) (a b : List Run) → AreRunsOf list a → AreRunsOf list b → a ≡ b
runs_determined list a b one other = determined 0 a b one.longest other.longest (one.spelled ∙ sym other.spelled)
