-- Statuses of the words that are done over lists in files.
use Rattle.std.proofs.Common.{◌≡◌, ℕ, ◌≤◌, Bool, true, false, inl, inr, List, refl, sym, ◌∙◌, subst, arith}
use Rattle.std.specs.Prelude.{Result, Ok, Err, IfOk, IfErr, OnOk, MatchResult, if◌then◌else◌}
use Rattle.std.specs.Io.KnownBytes.{Appends}
use Rattle.timecode.specs.declared.rates.Rate.{Rate}
use Rattle.playout_lists.specs.declared.fault.Fault.{Fault}
use Rattle.playout_lists.specs.declared.comparing.CompareFault.{CompareFault}
use Rattle.playout_lists.specs.Fault.{line_of}
use Rattle.playout_lists.specs.Named.{Holds, ChecksFiles, StopsAtFile}
use Rattle.playout_lists.specs.Comparing.{ComparesFiles, TellsComparing, WriteHas}
use Rattle.playout_lists.specs.Telling.{Told, Tells}
use Rattle.playout_actions.specs.Office.{DoesCompare, DoesFiles, Office}

-- files were checked, or that stopped
pub does_files : (holds : Holds) (o : Office) (rate : Rate) (names : List (List ℕ)) (mid : Told) (r : Result Bool Fault)
    → IfOk r (ChecksFiles holds rate names o.written_old o.written_new o.told_old mid)
    → IfErr r (StopsAtFile holds rate names o.written_old o.written_new o.told_old mid)
    → IfOk r (λ quiet. quiet ≡ true → mid ≡ o.told_old)
    → IfOk r (λ quiet. o.status ≡ (if quiet then 0 else 1))
    → IfErr r (λ fault. (o.status ≡ 1) × Tells mid o.told_new (line_of fault)) → OnOk r (o.told_new ≡ mid)
    → DoesFiles holds o rate names
does_files holds o rate names mid (Ok quiet) done stops untold status told kept =
    inl (
      quiet,
      subst (λ (t : Told). ChecksFiles holds rate names o.written_old o.written_new o.told_old t quiet)
          (sym kept) done,
      status,
      λ yes. kept ∙ untold yes,
    )
does_files holds o rate names mid (Err fault) done stops untold status told kept =
    inr (fault, mid, stops, told.0, told.1)

pub quiet_files : (status : ℕ) (old mid new : Told) (r : Result Bool Fault)
    → IfOk r (λ quiet. quiet ≡ true → mid ≡ old) → IfOk r (λ quiet. status ≡ (if quiet then 0 else 1))
    → IfErr r (λ fault. (status ≡ 1) × Tells mid new (line_of fault)) → OnOk r (new ≡ mid)
    → status ≡ 0 → new ≡ old
quiet_files status old mid new (Ok true) untold is told kept zero = kept ∙ untold refl
quiet_files status old mid new (Ok false) untold is told kept zero = absurd (omega (arith, is, zero))
quiet_files status old mid new (Err fault) untold is told kept zero = absurd (omega (arith, told.0, zero))

-- two files were compared, or not
pub does_compare : (holds : Holds) (o : Office) (rate : Rate) (one other : List ℕ) (r : Result (Unit {0}) CompareFault)
    → OnOk r ((text : List ℕ) × ComparesFiles holds rate one other text × Appends o.written_old o.written_new text)
    → IfErr r (WriteHas holds rate one other o.written_old o.written_new)
    → MatchResult r (λ _. (o.status ≡ 0) × (o.told_new ≡ o.told_old))
    (λ fault. (o.status ≡ 1) × TellsComparing o.told_old o.told_new one other fault)
    → DoesCompare holds o rate one other
does_compare holds o rate one other (Ok v) done has told = inl (done.0, done.1, done.2, told.0, told.1)
does_compare holds o rate one other (Err fault) done has told = inr (fault, has, told.0, told.1)

pub small_status : {T E : Type 0} (status : ℕ) (P : Type 0) (Q : E → Type 0) (r : Result T E)
    → MatchResult r (λ _. (status ≡ 0) × P) (λ fault. (status ≡ 1) × Q fault) → status ≤ 2
small_status status P Q (Ok v) is = omega (arith, is.0)
small_status status P Q (Err e) is = omega (arith, is.0)

pub quiet_status : {T E : Type 0} (status : ℕ) (P : Type 0) (Q : E → Type 0) (r : Result T E)
    → MatchResult r (λ _. (status ≡ 0) × P) (λ fault. (status ≡ 1) × Q fault) → status ≡ 0 → P
quiet_status status P Q (Ok v) is zero = is.1
quiet_status status P Q (Err e) is zero = absurd (omega (arith, is.0, zero))
