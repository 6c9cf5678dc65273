-- The lines of one track more.
use Rattle.std.proofs.Common.{◌≡◌, ℕ, ◌+◌, ◌<◌, List, [], ◌∷◌, ◌++◌, length, get_or, take, refl, sym, ap, ◌∙◌, subst}
use Rattle.std.proofs.Common.{arith, append_assoc}
use Rattle.std.proofs.lemmas.List.{append-nil, take_more, get_or_read}
use Rattle.timecode.specs.declared.rates.Rate.{Rate}
use Rattle.timecode.specs.Counting.{day_length}
use Rattle.edl.specs.Entry.{EventEntry}
use Rattle.edl_diff.specs.declared.track.Track.{Track}
use Rattle.edl_diff.specs.declared.status.Run.{Run}
use Rattle.edl_diff.specs.Status.{statuses}
use Rattle.edl_diff.specs.Runs.{AreRunsOf}
use Rattle.edl_diff.specs.Lines.{AreCompared, track_lines}

module _ (rate : Rate) (one other : List EventEntry) where
  compared_push : (tracks : List Track) (track : Track) (text : List ℕ) (runs : List Run)
      → AreCompared rate one other tracks text → AreRunsOf (statuses (day_length rate) track one other) runs
      → AreCompared rate one other (tracks ++ track ∷ []) (text ++ track_lines rate track runs)
  compared_push [] track text runs none are = (
    runs,
    [],
    are,
    ap (λ (t : List ℕ). t ++ track_lines rate track runs) none
        ∙ sym (append-nil (track_lines rate track runs)),
    refl,
  )
  compared_push (t ∷ tracks) track text runs more are = (
    more.0,
    more.1 ++ track_lines rate track runs,
    more.2,
    ap (λ (l : List ℕ). l ++ track_lines rate track runs) more.3
        ∙ append_assoc (track_lines rate t more.0) more.1 (track_lines rate track runs),
    compared_push tracks track more.1 runs more.4 are,
  )

  -- of the tracks up to the next one
  pub compared_more : (tracks : List Track) (i : ℕ) (track : Track) (text new : List ℕ) (runs : List Run)
      → i < length tracks → track ≡ get_or tracks i track
      → AreCompared rate one other (take i tracks) text → AreRunsOf (statuses (day_length rate) track one other) runs
      → new ≡ text ++ track_lines rate track runs
      → AreCompared rate one other (take (i + 1) tracks) new
  compared_more tracks i track text new runs lt is before are pushed =
      subst (λ (l : List Track). AreCompared rate one other l new)
      (sym (take_more tracks i track lt ∙ ap (λ (t : Track). take i tracks ++ t ∷ []) (sym is)))
      (subst (λ (t : List ℕ). AreCompared rate one other (take i tracks ++ track ∷ []) t) (sym pushed)
      (compared_push (take i tracks) track text runs before are))
