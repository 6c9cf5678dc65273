-- What one call inside a transaction leaves.
use Rattle.std.proofs.Common.{◌≡◌, ◌⊎◌, ℕ, List, Ok, Err, Result, IfOk, IfErr, OnOk, IsTrue, true≢false, false, refl}
use Rattle.std.proofs.Common.{sym, ap, ◌∙◌, inl, arith}
use Rattle.std.specs.Result.{IsErr}
use Rattle.std.proofs.lemmas.Result.{IfOk-weaker, IfErr-weaker}
use Rattle.sqlite_value.specs.Order.{Row}
use Rattle.sqlite_trees.specs.declared.store.Store.{Ghosts}
use Rattle.sqlite.specs.declared.error.Error.{Error}
use Rattle.sqlite.specs.declared.error.Error.TheVariants.{SqliteFailure}
use Rattle.sqlite.specs.declared.error.ErrorCode.TheVariants.{TransactionState}
use Rattle.sqlite.specs.declared.transaction.Transaction.{Transaction}
use Rattle.sqlite.specs.Held.{state}
use Rattle.sqlite.specs.State.{HasCleanDisk, Survives, Shown, FailsToQuery, IsTooLate, ExecutesInside, IsUnchanged}
use Rattle.sqlite.proofs.InsideLemmas.{keeps_then}
use Rattle.sqlite.proofs.StateLemmas.{survives_then}
use Rattle.station_tables_records.specs.Inside.{inside, Reads, Writes}
use Rattle.station_tables_records.specs.Asking.{IsReading}
use Rattle.station_tables_records.proofs.SelectLemmas.{reads_only}
use Rattle.station_tables_records.proofs.StateLemmas.{was_open, kept_result, kept_ran, ran_inside}

module _ {S : Type 0} (g : Ghosts S) (old new : Transaction S) (text : List ℕ) (params : Row) where
  -- what a call of `query_all` with these parameters ensures
  pub record Queried {X : Type 0} (items : X → List Row) (result : Result X Error) : Type 0 where
    pub same_reference : new.conn.ghost_name ≡ old.conn.ghost_name
    pub ok : HasCleanDisk (inside g new) → IfOk result (λ x. Shown text params (inside g old) (inside g new) (items x))
    pub err : HasCleanDisk (inside g new)
        → IfErr result
        (λ e. FailsToQuery text params (inside g old) (inside g new) e
        ⊎ IsTooLate text params (inside g old) (inside g new) e)
    pub survives : Survives (inside g old) (inside g new) (λ _. ⊥)

  -- what a call of `execute` ensures
  pub record Executed (result : Result ℕ Error) : Type 0 where
    pub same_reference : new.conn.ghost_name ≡ old.conn.ghost_name
    pub ended : (inside g old).in_transaction ≡ false
        → (result ≡ Err (SqliteFailure TransactionState)) × (new.conn.now ≡ old.conn.now)
    pub runs : HasCleanDisk (inside g new) → IsTrue (inside g old).in_transaction
        → ExecutesInside 0 text params (inside g old) (inside g new) result
    pub survives : Survives (inside g old) (inside g new) (λ _. ⊥)

  module _ {X : Type 0} {items : X → List Row} {result : Result X Error} (call : Queried items result) where
    -- a text that says no RETURNING only reads
    pub reads_inside : IsReading text → Reads g old new result
    reads_inside reading = record {
      same_reference = call.same_reference;
      same = unchanged;
      kept = λ clean. kept_result (inside g old) (inside g new) text params result (unchanged clean) (call.err clean);
      survives = call.survives;
    }
      where
        unchanged : HasCleanDisk (inside g new) → OnOk result (IsUnchanged (inside g old) (inside g new))
        unchanged clean =
            IfOk-weaker result _ _ (λ x. reads_only (inside g old) (inside g new) text params reading (items x))
            (call.ok clean)

    -- what follows from what it shows
    pub shown_inside : {P : List Row → Type 0} → HasCleanDisk (inside g new)
        → (HasCleanDisk (inside g old) → IsTrue (inside g old).is_open → (rows : List Row)
        → Shown text params (inside g old) (inside g new) rows → P rows) → IfOk result (λ x. P (items x))
    shown_inside {P} clean follows =
        IfOk-weaker result _ _
        (λ x shown. follows (omega (arith, call.survives.clean))
        (was_open (inside g old) (inside g new) text params (items x) shown) (items x) shown) (call.ok clean)

    -- and from how it fails
    pub failed_inside : {P : Error → Type 0} → HasCleanDisk (inside g new)
        → (HasCleanDisk (inside g old) → (e : Error)
        → FailsToQuery text params (inside g old) (inside g new) e
        ⊎ IsTooLate text params (inside g old) (inside g new) e → P e) → IfErr result P
    failed_inside {P} clean follows =
        IfErr-weaker result _ P (follows (omega (arith, call.survives.clean))) (call.err clean)

  module _ {result : Result ℕ Error} (call : Executed result) where
    -- what follows from its success
    pub made_inside : {P : Type 0} → HasCleanDisk (inside g new)
        → (HasCleanDisk (inside g old) → IsTrue (inside g old).is_open → (count : ℕ)
        → ExecutesInside 0 text params (inside g old) (inside g new) (Ok count) → P) → OnOk result P
    made_inside {P} clean follows =
        ran_inside (inside g old) (inside g new) text params result P _ (λ e. (call.ended e).0) (call.runs clean)
        (λ count ran. follows (omega (arith, call.survives.clean)) ran.1.was_open count ran)

    -- whatever it is, it commits nothing
    pub writes_inside : Writes g old new result
    writes_inside = record {
      same_reference = call.same_reference;
      lasts = λ clean inside_one. made_inside clean (λ _ _ count ran. ran.1.mode);
      kept =
          λ clean. kept_ran (inside g old) (inside g new) text params result (λ e. ap (state g) (call.ended e).1)
          (call.runs clean);
      survives = call.survives;
    }

-- ---- what is handed on of a reading: another value, or an error

pub reads_on : {S X Y E F : Type 0} (g : Ghosts S) (a b : Transaction S) (x : X) (y : Y)
    → Reads {X = X} {E = E} g a b (Ok x) → Reads {X = Y} {E = F} g a b (Ok y)
reads_on g a b x y read =
    record { same_reference = read.same_reference; same = read.same; kept = read.kept; survives = read.survives }

pub reads_failed : {S X Y E F : Type 0} (g : Ghosts S) (a b : Transaction S) (r : Result X E) (handed : Result Y F)
    → IsErr handed → Reads g a b r → Reads g a b handed
reads_failed g a b r (Ok y) is read = absurd (true≢false (sym is))
reads_failed g a b r (Err e) is read =
    record { same_reference = read.same_reference; same = λ clean. tt; kept = read.kept; survives = read.survives }

-- ---- one writing after another, and none

pub writes_then : {S X Y E F : Type 0} (g : Ghosts S) (a b c : Transaction S) (x : X) (r : Result Y F)
    → Writes {X = X} {E = E} g a b (Ok x) → Writes g b c r → Writes g a c r
writes_then g a b c x r one two =
    let early : HasCleanDisk (inside g c) → HasCleanDisk (inside g b) =
    λ clean. omega (arith, two.survives.clean, clean) in
    record {
      same_reference = two.same_reference ∙ one.same_reference;
      lasts = λ clean mode. two.lasts clean (one.lasts (early clean) mode);
      kept = λ clean. keeps_then _ _ _ (one.kept (early clean)) (two.kept clean);
      survives = survives_then _ _ _ _ _ _ (λ _ db none. none) (λ _ db none. none) one.survives two.survives;
    }

pub writes_on : {S X E Y F : Type 0} (g : Ghosts S) (a b : Transaction S) (x : X) (y : Y)
    → Writes {X = X} {E = E} g a b (Ok x) → Writes {X = Y} {E = F} g a b (Ok y)
writes_on g a b x y write =
    record { same_reference = write.same_reference; lasts = write.lasts; kept = write.kept; survives = write.survives }

pub writes_none : {S X E : Type 0} (g : Ghosts S) (a : Transaction S) (x : X) → Writes {X = X} {E = E} g a a (Ok x)
writes_none g a x = record {
  same_reference = refl;
  lasts = λ clean mode. mode;
  kept = λ clean. record { was_open = λ o. o; committed = λ o. refl };
  survives =
      record {
        clean = omega arith;
        shield = λ s. s;
        counts = omega arith;
        limit = refl;
        closes =
            λ clean open_now. inl open_now;
        crash = λ clean db may. inl may;
      };
}
