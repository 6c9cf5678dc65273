-- The runs that are made of a list of statuses, and how many frames have each status.
use Rattle.std.proofs.Common.{◌≡◌, ℕ, zero, suc, ◌+◌, ◌-◌, ◌*◌, List, [], ◌∷◌, ◌++◌, Bool, true, false, cond, length}
use Rattle.std.proofs.Common.{refl, sym, ◌∙◌, ap, ap₂, subst, arith, add-one}
use Rattle.std.specs.Prelude.{replicate, map, filter, drop, not, ◌||◌, ◌==◌, sum_by, if◌then◌else◌}
use Rattle.std.specs.List.{flat_map, prefix_len, range_with_len}
use Rattle.std.proofs.lemmas.Bool.Decides.{nat_tests}
use Rattle.std.proofs.lemmas.List.Sums.{sum_by-cons, sum_by-append}
use Rattle.std.proofs.lemmas.List.Folds.{sum_by-replicate}
use Rattle.channel_plan.specs.declared.plan.PlanRow.{PlanRow}
use Rattle.asrun_match.specs.declared.status.Run.{Run}
use Rattle.asrun_match.specs.declared.status.Status.{Status}
use Rattle.asrun_match.specs.declared.status.Status.TheVariants.{Missed, Ok, Slip, Wrong}
use Rattle.asrun_match.specs.Runs.{AreRunsOf, BeginsOther, LieInRow, spelled}
use Rattle.asrun_match.proofs.DeterminedLemmas.{runs_determined}
use Rattle.report_texts.specs.Asrun.{begins_run, counts_line, frames_with, is_status, match_text, run_at, run_line, runs_of}
use Rattle.report_texts.specs.Asrun.{status_at, status_frames, status_table}

same_status : (s t : Status) → is_status s t ≡ true → s ≡ t
same_status Missed Missed same = refl
same_status Ok Ok same = refl
same_status Slip Slip same = refl
same_status Wrong Wrong same = refl
same_status _ _ same = cc

its_own : (s : Status) → is_status s s ≡ true
its_own Missed = refl
its_own Ok = refl
its_own Slip = refl
its_own Wrong = refl

other_status : (s t : Status) → is_status s t ≡ false → s ≡ t → ⊥
other_status s t other same =
    let one : is_status s t ≡ true = ap (is_status s) (sym same) ∙ its_own s in
    let both : true ≡ false = sym one ∙ other in
    cc

-- The same runs, as they grow from the last frame to the first, by which the proofs go: a frame in front of the runs
-- behind it joins the first of them, where that has its status, else it is a run.
abbrev joined : ℕ → Status → List Run → List Run
joined at s [] = record { position = at; frames = 1; status = s } ∷ []
joined at s (run ∷ runs) =
    if is_status s run.status then record { position = at; frames = run.frames + 1; status = s } ∷ runs
    else record { position = at; frames = 1; status = s } ∷ run ∷ runs

abbrev runs_from : ℕ → List Status → List Run
runs_from at [] = []
runs_from at (s ∷ statuses) = joined at s (runs_from (at + 1) statuses)

drop_next : (all : List Status) (at : ℕ) (s : Status) (rest : List Status) → drop at all ≡ s ∷ rest
    → drop (suc at) all ≡ rest
drop_next [] zero s rest is = absurd (cc)
drop_next [] (suc at) s rest is = absurd (cc)
drop_next (x ∷ all) zero s rest is = cc
drop_next (x ∷ all) (suc at) s rest is = drop_next all at s rest is

status_there : (all : List Status) (at : ℕ) (s : Status) (rest : List Status) → drop at all ≡ s ∷ rest
    → status_at all at ≡ s
status_there [] zero s rest is = absurd (cc)
status_there [] (suc at) s rest is = absurd (cc)
status_there (x ∷ all) zero s rest is = cc
status_there (x ∷ all) (suc at) s rest is = status_there all at s rest is

-- the runs from one place on of all statuses
abbrev runs_behind : List Status → ℕ → ℕ → List Run
runs_behind all at n = map (run_at all) (filter (begins_run all) (range_with_len at n))

run_there : (all : List Status) (at : ℕ) (s : Status) (rest : List Status) → drop at all ≡ s ∷ rest
    → run_at all at ≡ record { position = at; frames = 1 + prefix_len (is_status s) rest; status = s }
run_there all at s rest is =
    let there = status_there all at s rest is in
    (λ i. record { position = at; frames = prefix_len (is_status (there i)) (is i); status = there i })
    ∙ ap (λ b. let r : Run = record { position = at; frames = cond b (1 + prefix_len (is_status s) rest) 0; status = s }
    in r) (its_own s)

grown : (all : List Status) (at : ℕ) (s : Status) (rest : List Status) → drop at all ≡ s ∷ rest
    → runs_from at (s ∷ rest) ≡ run_at all at ∷ runs_behind all (at + 1) (length rest)
grown all at s [] is = ap (λ (run : Run). run ∷ []) (sym (run_there all at s [] is))
grown all at s (t ∷ rest) is =
    ap (joined at s) (grown all (at + 1) t rest next) ∙ by (is_status s t) refl
  where
    next : drop (at + 1) all ≡ t ∷ rest
    next = ap (λ n. drop n all) (add-one at) ∙ drop_next all at s (t ∷ rest) is

    later : List Run
    later = runs_behind all (at + 1 + 1) (length rest)

    begins : begins_run all (at + 1) ≡ not (is_status s t)
    begins =
        let above : (at + 1 == 0) ≡ false = grind (arith, nat_tests) in
        let before : at + 1 - 1 ≡ at = omega arith in
        ap (λ b. b || not (is_status (status_at all (at + 1 - 1)) (status_at all (at + 1)))) above
        ∙ ap (λ n. not (is_status (status_at all n) (status_at all (at + 1)))) before
        ∙ ap₂ (λ x y. not (is_status x y)) (status_there all at s (t ∷ rest) is)
        (status_there all (at + 1) t rest next)

    first : run_at all (at + 1)
        ≡ record { position = at + 1; frames = 1 + prefix_len (is_status t) rest; status = t }
    first = run_there all (at + 1) t rest next

    behind : (b : Bool) → begins_run all (at + 1) ≡ b
        → runs_behind all (at + 1) (length (t ∷ rest)) ≡ (if b then run_at all (at + 1) ∷ later else later)
    behind b is =
        let others : List ℕ = filter (begins_run all) (range_with_len (at + 1 + 1) (length rest)) in
        ap (λ b. map (run_at all) (cond b ((at + 1) ∷ others) others)) is ∙ mapped b others
      where
        mapped : (b : Bool) (others : List ℕ) → map (run_at all) (cond b ((at + 1) ∷ others) others)
            ≡ (if b then run_at all (at + 1) ∷ map (run_at all) others else map (run_at all) others)
        mapped true others = refl
        mapped false others = refl

    by : (b : Bool) → is_status s t ≡ b
        → joined at s (run_at all (at + 1) ∷ later) ≡ run_at all at ∷ runs_behind all (at + 1) (length (t ∷ rest))
    by true same =
        let one : s ≡ t = same_status s t same in
        let longer : 1 + prefix_len (is_status t) rest + 1 ≡ 1 + prefix_len (is_status s) (t ∷ rest) =
        omega arith ∙ ap (λ (n : ℕ). 1 + n) (ap (λ r. 1 + prefix_len (is_status r) rest) (sym one)
        ∙ ap (λ b. cond b (1 + prefix_len (is_status s) rest) 0) (sym same)) in
        ap (λ (run : Run). joined at s (run ∷ later)) first
        ∙ ap
        (λ b. if b then record { position = at; frames = 1 + prefix_len (is_status t) rest + 1; status = s } ∷ later
        else record { position = at; frames = 1; status = s }
        ∷ record { position = at + 1; frames = 1 + prefix_len (is_status t) rest; status = t } ∷ later) same
        ∙ ap (λ n. let r : Run = record { position = at; frames = n; status = s } in r ∷ later) longer
        ∙ ap₂ (λ (run : Run) runs. run ∷ runs) (sym (run_there all at s (t ∷ rest) is))
        (sym (behind false (begins ∙ ap not same)))
    by false other =
        let alone : 1 ≡ 1 + prefix_len (is_status s) (t ∷ rest) =
        ap (λ b. 1 + cond b (1 + prefix_len (is_status s) rest) 0) (sym other) in
        ap (λ r. if is_status s r then record { position = at; frames = (run_at all (at + 1)).frames + 1; status = s }
        ∷ later else record { position = at; frames = 1; status = s } ∷ run_at all (at + 1) ∷ later)
        (ap (λ (run : Run). run.status) first)
        ∙ ap (λ b. if b then record { position = at; frames = (run_at all (at + 1)).frames + 1; status = s } ∷ later
        else record { position = at; frames = 1; status = s } ∷ run_at all (at + 1) ∷ later) other
        ∙ ap (λ n. let r : Run = record { position = at; frames = n; status = s } in r ∷ run_at all (at + 1) ∷ later)
        alone
        ∙ ap₂ (λ (run : Run) runs. run ∷ runs) (sym (run_there all at s (t ∷ rest) is))
        (sym (behind true (begins ∙ ap not other)))

runs_grown : (statuses : List Status) → runs_from 0 statuses ≡ runs_of statuses
runs_grown [] = refl
runs_grown (s ∷ rest) = grown (s ∷ rest) 0 s rest refl

spelled_if : (at : ℕ) (s : Status) (run : Run) (runs : List Run) (b : Bool) → is_status s run.status ≡ b
    → spelled
    (if b then record { position = at; frames = run.frames + 1; status = s }
    ∷ runs else record { position = at; frames = 1; status = s } ∷ run ∷ runs)
    ≡ s ∷ spelled (run ∷ runs)
spelled_if at s run runs true is =
    ap (λ n. replicate n s ++ spelled runs) (add-one run.frames)
    ∙ ap (λ t. s ∷ (replicate run.frames t ++ spelled runs)) (same_status s run.status is)
spelled_if at s run runs false is = refl

spelled_joined : (at : ℕ) (s : Status) (runs : List Run) → spelled (joined at s runs) ≡ s ∷ spelled runs
spelled_joined at s [] = refl
spelled_joined at s (run ∷ runs) = spelled_if at s run runs (is_status s run.status) refl

spelled_from : (at : ℕ) (statuses : List Status) → spelled (runs_from at statuses) ≡ statuses
spelled_from at [] = refl
spelled_from at (s ∷ statuses) =
    spelled_joined at s (runs_from (at + 1) statuses) ∙ ap (λ list. s ∷ list) (spelled_from (at + 1) statuses)

row_if : (at : ℕ) (s : Status) (run : Run) (runs : List Run) (b : Bool) → is_status s run.status ≡ b
    → LieInRow (at + 1) (run ∷ runs)
    → LieInRow
    at (if b then record { position = at; frames = run.frames + 1; status = s }
    ∷ runs else record { position = at; frames = 1; status = s } ∷ run ∷ runs)
row_if at s run runs true is row =
    let behind : at + 1 + run.frames ≡ at + (run.frames + 1) = omega arith in (
      refl,
      omega arith,
      subst (λ t. BeginsOther t runs) (sym (same_status s run.status is)) row.2,
      subst (λ n. LieInRow n runs) behind row.3,
    )
row_if at s run runs false is row = (refl, omega arith, other_status s run.status is, row)

row_joined : (at : ℕ) (s : Status) (runs : List Run) → LieInRow (at + 1) runs → LieInRow at (joined at s runs)
row_joined at s [] row = (refl, omega arith, tt, tt)
row_joined at s (run ∷ runs) row = row_if at s run runs (is_status s run.status) refl row

row_from : (at : ℕ) (statuses : List Status) → LieInRow at (runs_from at statuses)
row_from at [] = tt
row_from at (s ∷ statuses) = row_joined at s (runs_from (at + 1) statuses) (row_from (at + 1) statuses)

pub runs_made : (statuses : List Status) → AreRunsOf statuses (runs_of statuses)
runs_made statuses =
    subst (AreRunsOf statuses) (runs_grown statuses)
    (record { spelled = spelled_from 0 statuses; longest = row_from 0 statuses })

pub runs_those_made : (statuses : List Status) (runs : List Run) → AreRunsOf statuses runs → runs ≡ runs_of statuses
runs_those_made statuses runs are = runs_determined statuses runs (runs_of statuses) are (runs_made statuses)

frames_if : (run : Run) (runs : List Run) (b : Bool)
    → sum_by (λ run. run.frames) (if b then run ∷ runs else runs)
    ≡ run.frames * cond b 1 0 + sum_by (λ run. run.frames) runs
frames_if run runs true = omega (arith, sum_by-cons (λ (run : Run). run.frames) run runs)
frames_if run runs false = omega arith

frames_spelled : (s : Status) (runs : List Run) → frames_with s runs ≡ status_frames s (spelled runs)
frames_spelled s [] = refl
frames_spelled s (run ∷ runs) =
    let one : Status → ℕ = λ t. cond (is_status s t) 1 0 in
    frames_if run (filter (λ run. is_status s run.status) runs) (is_status s run.status)
    ∙ ap (λ n. run.frames * one run.status + n) (frames_spelled s runs)
    ∙ ap (λ n. n + status_frames s (spelled runs)) (sym (sum_by-replicate one run.frames run.status))
    ∙ sym (sum_by-append one (replicate run.frames run.status) (spelled runs))

pub frames_counted : (statuses : List Status) (runs : List Run) → AreRunsOf statuses runs → (s : Status)
    → frames_with s runs ≡ status_frames s statuses
frames_counted statuses runs are s = frames_spelled s runs ∙ ap (status_frames s) are.spelled

one_of_four : (t : Status)
    → cond (is_status Ok t) 1 0 + cond (is_status Slip t) 1 0 + cond (is_status Wrong t) 1 0 + cond (is_status Missed t)
    1 0 ≡ 1
one_of_four Missed = refl
one_of_four Ok = refl
one_of_four Slip = refl
one_of_four Wrong = refl

pub counts_sum : (statuses : List Status)
    → status_frames Ok statuses + status_frames Slip statuses + status_frames Wrong statuses + status_frames Missed
    statuses ≡ length statuses
counts_sum [] = refl
counts_sum (t ∷ statuses) =
    let more : (s : Status) → status_frames s (t ∷ statuses) ≡ cond (is_status s t) 1 0 + status_frames s statuses =
    λ s. sum_by-cons (λ t. cond (is_status s t) 1 0) t statuses in
    omega (arith, more Ok, more Slip, more Wrong, more Missed, one_of_four t, counts_sum statuses)

pub table_of_statuses : (plan : PlanRow) (statuses : List Status) (runs : List Run) → AreRunsOf statuses runs
    → match_text plan runs ≡ status_table plan statuses
table_of_statuses plan statuses runs are =
    let made : runs ≡ runs_of statuses = runs_those_made statuses runs are in
    let counted : (s : Status) → frames_with s runs ≡ status_frames s statuses = frames_counted statuses runs are in
    λ i. flat_map (run_line plan) (made i) ++ counts_line (λ s. counted s i)
