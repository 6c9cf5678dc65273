-- Runs, and a further stretch behind them.
use Rattle.std.proofs.Common.{◌≡◌, ℕ, ◌+◌, ◌<◌, List, [], ◌∷◌, ◌++◌, length, get_or, take, set, refl, sym, ◌∙◌, ap}
use Rattle.std.proofs.Common.{subst, arith, append_assoc, length-append, length-set}
use Rattle.std.specs.Prelude.{replicate, sum_by}
use Rattle.std.proofs.lemmas.List.{append-nil, length-replicate, replicate-append-replicate, take_more, take_more_set}
use Rattle.std.proofs.lemmas.List.{take_all, get_or_read, nil_from_length}
use Rattle.std.proofs.lemmas.List.Sums.{sum_by-cons}
use Rattle.std.proofs.lemmas.Grind.{flat_map-append}
use Rattle.edl_diff.specs.declared.status.Status.{Status}
use Rattle.edl_diff.specs.declared.status.Run.{Run}
use Rattle.edl_diff.specs.Runs.{LieInRow, spelled}

abbrev stretch : Run → List Status
stretch run = replicate run.frames run.status

pub spelled_push : (runs : List Run) (next : Run)
    → spelled (runs ++ next ∷ []) ≡ spelled runs ++ replicate next.frames next.status
spelled_push runs next =
    flat_map-append stretch runs (next ∷ []) ∙ ap (λ list. spelled runs ++ list) (append-nil (stretch next))

length-spelled : (run : Run) (runs : List Run) → length (spelled (run ∷ runs)) ≡ run.frames + length (spelled runs)
length-spelled run runs =
    length-append (stretch run) (spelled runs)
    ∙ ap (λ n. n + length (spelled runs)) (length-replicate run.frames run.status)

-- a run with more frames
abbrev pub longer : Run → ℕ → Run
longer run k = record { position = run.position; frames = run.frames + k; status = run.status }

spelled_longer : (runs : List Run) (last : Run) (k : ℕ)
    → spelled (runs ++ longer last k ∷ []) ≡ spelled (runs ++ last ∷ []) ++ replicate k last.status
spelled_longer runs last k =
    spelled_push runs (longer last k)
    ∙ ap (λ list. spelled runs ++ list) (sym (replicate-append-replicate last.frames k last.status))
    ∙ sym (append_assoc (spelled runs) (stretch last) (replicate k last.status))
    ∙ ap (λ list. list ++ replicate k last.status) (sym (spelled_push runs last))

row_longer : (from : ℕ) (runs : List Run) (last : Run) (k : ℕ) → LieInRow from (runs ++ last ∷ [])
    → LieInRow from (runs ++ longer last k ∷ [])
row_longer from [] last k row = (row.0, omega (arith, row.1), tt, tt)
row_longer from (run ∷ []) last k row = (row.0, row.1, row.2, row_longer (from + run.frames) [] last k row.3)
row_longer from (run ∷ other ∷ runs) last k row =
    (row.0, row.1, row.2, row_longer (from + run.frames) (other ∷ runs) last k row.3)

row_next : (from : ℕ) (runs : List Run) (last next : Run) → LieInRow from (runs ++ last ∷ [])
    → (last.status ≡ next.status → ⊥)
    → next.position ≡ from + length (spelled (runs ++ last ∷ [])) → 0 < next.frames
    → LieInRow from ((runs ++ last ∷ []) ++ next ∷ [])
row_next from [] last next row other at some =
    let one : length (spelled (last ∷ [])) ≡ last.frames + 0 = length-spelled last [] in
    (row.0, row.1, other, (omega (arith, at, one), some, tt, tt))
row_next from (run ∷ []) last next row other at some =
    let more = length-spelled run (last ∷ []) in
    (row.0, row.1, row.2, row_next (from + run.frames) [] last next row.3 other (omega (arith, at, more)) some)
row_next from (run ∷ second ∷ runs) last next row other at some =
    let more = length-spelled run (second ∷ (runs ++ last ∷ [])) in (
      row.0,
      row.1,
      row.2,
      row_next (from + run.frames) (second ∷ runs) last next row.3 other (omega (arith, at, more))
          some,
    )

-- what is read twice is the same
pub read_twice : (runs : List Run) (i : ℕ) (a b : Run) → i < length runs → a ≡ get_or runs i a → b ≡ get_or runs i b
    → a ≡ b
read_twice runs i a b lt one other = get_or_read runs i a lt one b ∙ sym other

module _ (runs : List Run) (i : ℕ) (last : Run) (end : i + 1 ≡ length runs) (read : last ≡ get_or runs i last) where
  split : runs ≡ take i runs ++ last ∷ []
  split =
      sym (take_all (i + 1) runs (omega arith))
      ∙ take_more runs i last (omega arith)
      ∙ ap (λ r. take i runs ++ r ∷ []) (sym read)

  set_last : (run : Run) → set runs i run ≡ take i runs ++ run ∷ []
  set_last run =
      let size = length-set runs i run in
      sym (take_all (i + 1) (set runs i run) (omega arith))
      ∙ take_more_set runs i run (omega arith)

  pub spelled_after : (k : ℕ) (s : Status) → last.status ≡ s
      → spelled (set runs i (longer last k)) ≡ spelled runs ++ replicate k s
  spelled_after k s same =
      ap spelled (set_last (longer last k))
      ∙ spelled_longer (take i runs) last k
      ∙ ap (λ list. spelled list ++ replicate k last.status) (sym split)
      ∙ ap (λ s. spelled runs ++ replicate k s) same

  pub row_after : (k : ℕ) → LieInRow 0 runs → LieInRow 0 (set runs i (longer last k))
  row_after k row =
      subst (LieInRow 0) (sym (set_last (longer last k)))
      (row_longer 0 (take i runs) last k (subst (LieInRow 0) split row))

  pub row_behind : (next : Run) → LieInRow 0 runs → (last.status ≡ next.status → ⊥)
      → next.position ≡ length (spelled runs) → 0 < next.frames → LieInRow 0 (runs ++ next ∷ [])
  row_behind next row other at some =
      let here : next.position ≡ 0 + length (spelled (take i runs ++ last ∷ [])) =
      at ∙ ap (λ list. length (spelled list)) split ∙ omega arith in
      subst (λ list. LieInRow 0 (list ++ next ∷ [])) (sym split)
      (row_next 0 (take i runs) last next (subst (LieInRow 0) split row) other here some)

pub row_first : (runs : List Run) (next : Run) → length runs ≡ 0 → next.position ≡ length (spelled runs)
    → 0 < next.frames → LieInRow 0 (runs ++ next ∷ [])
row_first runs next none at some =
    let empty = nil_from_length runs none in
    let here : next.position ≡ 0 = at ∙ ap (λ list. length (spelled list)) empty in
    subst (λ list. LieInRow 0 (list ++ next ∷ [])) (sym empty) (here, some, tt, tt)

pub sum_by-frames : (runs : List Run) → sum_by (λ run. run.frames) runs ≡ length (spelled runs)
sum_by-frames [] = refl
sum_by-frames (run ∷ runs) =
    sum_by-cons (λ (run : Run). run.frames) run runs ∙ ap (λ n. run.frames + n) (sum_by-frames runs)
    ∙ sym (length-spelled run runs)
