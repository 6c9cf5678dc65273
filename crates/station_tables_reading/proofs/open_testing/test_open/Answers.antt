-- `test_open`: tests that the store is open.
use Rattle.std.proofs.Common.{ℕ, List, [], inl, inr, Result, Ok, Err, IfOk, IfErr}
use Rattle.std.proofs.lemmas.Result.{IfErr-weaker}
use Rattle.sqlite.specs.declared.error.Error.{Error}
use Rattle.sqlite.specs.State.{State, IsNotRun, IsUnchanged, KeepsCommit}
use Rattle.station_tables_records.proofs.StateLemmas.{kept_failed, kept_unchanged}
use Rattle.station_tables_reading.proofs.open_testing.test_open.Goals as goal

-- whether it was compiled or not, a text commits nothing
kept_not_run : (old new : State) (text : List ℕ) (e : Error) → IsNotRun old new text [] e → KeepsCommit old new
unfolding IsNotRun
kept_not_run old new text e (inl same) = kept_unchanged old new same.1
kept_not_run old new text e (inr fails) = kept_failed old new _ e fails

kept : {X : Type 0} (old new : State) (text : List ℕ) (r : Result X Error) (P : X → Type 0)
    → IfOk r (λ x. P x × IsUnchanged old new) → IfErr r (λ e. IsNotRun old new text [] e) → KeepsCommit old new
kept old new text (Ok x) P same fails = kept_unchanged old new same.1
kept old new text (Err e) P same fails = kept_not_run old new text e fails

pub returns : goal.returns
returns g c =
    record {
      reads =
          record {
            same_reference = c.in-Ok.ensures.same_reference;
            same = λ clean. (c.in-Ok.ensures.ok clean).1;
            kept =
                λ clean. kept_unchanged _ _ (c.in-Ok.ensures.ok clean).1;
            survives = c.in-Ok.ensures.survives;
          };
    }

pub returns-in_default : goal.returns-in_default
returns-in_default g c =
    record {
      reads =
          record {
            same_reference = c.prepare.ensures.same_reference;
            same = λ clean. tt;
            kept =
                λ clean. kept _ _ _ c.prepare.result _ (c.prepare.ensures.ok clean)
                (IfErr-weaker c.prepare.result _ _ (λ e fails. fails []) (c.prepare.ensures.err clean));
            survives = c.prepare.ensures.survives;
          };
    }
