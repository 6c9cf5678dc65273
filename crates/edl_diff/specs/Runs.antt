-- Runs: the longest stretches of one status.
use Rattle.std.specs.Prelude.{◌≡◌, ℕ, ◌+◌, ◌<◌, List, [], ◌∷◌, replicate, flat_map}
use Rattle.edl_diff.specs.declared.status.Status.{Status}
use Rattle.edl_diff.specs.declared.status.Run.{Run}

-- each run's status, as often as it has frames
abbrev pub spelled : List Run → List Status
spelled runs = flat_map (λ run. replicate run.frames run.status) runs

-- the first run, if there is one, has another status
abbrev pub BeginsOther : Status → List Run → Type 0
BeginsOther s [] = Unit {0}
BeginsOther s (run ∷ runs) = s ≡ run.status → ⊥

-- one behind the other from a frame on: none is empty, and none has the status of the one before it
abbrev pub LieInRow : ℕ → List Run → Type 0
LieInRow from [] = Unit {0}
LieInRow from (run ∷ runs) =
    (run.position ≡ from) × (0 < run.frames) × BeginsOther run.status runs × LieInRow (from + run.frames) runs

-- the runs of a list of statuses
pub record AreRunsOf (list : List Status) (runs : List Run) : Type 0 where
  pub spelled : spelled runs ≡ list
  pub longest : LieInRow 0 runs
