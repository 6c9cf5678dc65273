-- What was said on standard error, whose writer may fail.
use Rattle.std.specs.Prelude.{◌≡◌, ℕ, List, Option, None}
use Rattle.std.specs.Io.KnownBytes.{Appends}
use Rattle.std.specs.declared.io.traits.Write.{Ghosts as WriteGhosts}
use Rattle.report_texts.specs.Output.{AppendsPart}
use Rattle.report_texts.specs.declared.output.WriteFault.{WriteFault}
use Rattle.playout_lists.specs.declared.fault_writer.FaultLines.{FaultLines}
use Rattle.playout_lists.specs.declared.fault_writer.FaultWriter.{Ghosts}

-- what it holds, as far as its writer tells, and whether a write of it has failed
pub record Told : Type 0 where
  pub text : Option (List ℕ)
  pub failed : Option WriteFault

abbrev pub has_told : {E : Type 0} → {g : Ghosts E} → {w : WriteGhosts E} → (E → Option (List ℕ)) → FaultLines E g w
    → Told
has_told contents faults = record { text = contents faults.writer; failed = faults.failed }

-- These bytes were written whole, if no write has failed by then.
abbrev pub TellsAll : Told → Told → List ℕ → Type 0
TellsAll old new bytes = new.failed ≡ None → (old.failed ≡ None) × Appends old.text new.text bytes

-- They were, and else a beginning of them.
pub record Tells (old new : Told) (bytes : List ℕ) : Type 0 where
  pub all : TellsAll old new bytes
  pub part : AppendsPart old.text new.text bytes
