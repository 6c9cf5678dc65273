-- What is known of the connections that something accepts.
use Rattle.std.specs.Prelude.{◌≡◌, ◌≢◌, ◌+◌, ℕ, List, Option, Some, None, Result, Ok, Err, IsErr}
use Rattle.std.specs.Io.KnownBytes.{ReadConsumes, WriteAppends}

-- what a connection has left to be read, and what was written to it, as far as it is known
pub record Wire : Type 0 where
  pub unread : Option (List ℕ)
  pub written : Option (List ℕ)

-- nothing is known of it, as of a socket
abbrev pub unknown : Wire
unknown = record { unread = None; written = None }

-- every connection is as it was
abbrev pub LeavesAll : (ℕ → Wire) → (ℕ → Wire) → Type 0
LeavesAll old new = (m : ℕ) → new m ≡ old m

-- every connection but this one is
abbrev pub LeavesOthers : ℕ → (ℕ → Wire) → (ℕ → Wire) → Type 0
LeavesOthers n old new = (m : ℕ) → m ≢ n → new m ≡ old m

-- a read of it, into this buffer, and a write to it, of these bytes
abbrev pub IsRead : {E : Type 0} → Wire → Wire → Result ℕ E → List ℕ → Type 0
IsRead old new result buffer = ReadConsumes old.unread new.unread result buffer × (new.written ≡ old.written)

abbrev pub IsWritten : {E : Type 0} → Wire → Wire → Result ℕ E → List ℕ → Type 0
IsWritten old new result bytes = WriteAppends old.written new.written result bytes × (new.unread ≡ old.unread)

-- the next number, the first being 0, where one was accepted
abbrev pub IsNumbered : {E : Type 0} → ℕ → ℕ → Result (Option ℕ) E → Type 0
IsNumbered old new (Ok (Some n)) = (n ≡ old) × (new ≡ old + 1)
IsNumbered old new (Ok None) = new ≡ old
IsNumbered old new (Err e) = new ≡ old

-- what a call that was waited for comes to: so many bytes are so many, and a failure is one
abbrev pub WaitedFor : {E : Type 0} → Result ℕ E → Result ℕ E → Type 0
WaitedFor (Ok n) result = result ≡ Ok n
WaitedFor (Err e) result = IsErr result
