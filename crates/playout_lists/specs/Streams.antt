-- All of an input, and all of an output.
use Rattle.std.specs.Prelude.{ℕ, ◌<◌, ◌≤◌, List, length, Option}
use Rattle.std.specs.Io.KnownBytes.{Consumes, IsAtEnd}
use Rattle.playout_lists.specs.declared.streams.InputFault.{InputFault}
use Rattle.playout_lists.specs.declared.streams.InputFault.TheVariants as input
use Rattle.playout_lists.specs.declared.streams.StreamFault.{StreamFault}
use Rattle.playout_lists.specs.declared.streams.StreamFault.TheVariants.{Input, Write}

-- all of the input was read, of at most so many bytes
pub record ReadsAll (limit : ℕ) (readable_old readable_new : Option (List ℕ)) (read : List ℕ) : Type 0 where
  pub consumed : Consumes readable_old readable_new read
  pub at_end : IsAtEnd readable_new
  pub fits : length read ≤ limit

-- The faults that an input has: it is too large only where more than so many bytes were read. No contract sees why a
-- reader fails, or where memory ends.
abbrev pub InputHas : ℕ → Option (List ℕ) → Option (List ℕ) → InputFault → Type 0
InputHas limit readable_old readable_new input.TooLarge =
    (read : List ℕ) × Consumes readable_old readable_new read × (limit < length read)
InputHas limit readable_old readable_new input.Read = Unit {0}
InputHas limit readable_old readable_new input.Unavailable = Unit {0}

-- and an output
abbrev pub StreamHas : ℕ → Option (List ℕ) → Option (List ℕ) → StreamFault → Type 0
StreamHas limit readable_old readable_new (Input fault) = InputHas limit readable_old readable_new fault
StreamHas limit readable_old readable_new Write = Unit {0}
