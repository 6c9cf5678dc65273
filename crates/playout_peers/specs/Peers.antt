-- Part of the promise: connections that were open at once: what all of them did is a merge of what each did.
use Rattle.std.specs.Prelude.{◌≡◌, ◌≤◌, ◌⊎◌, ◌==◌, ◌++◌, ◌&&◌, ℕ, suc, Bool, true, false, List, [], ◌∷◌}
use Rattle.std.specs.Prelude.{length, take, map, filter, Option, Result, Ok, Err, if◌then◌else◌}
use Rattle.std.specs.Io.KnownBytes.{Consumes, Appends}
use Rattle.channel_view_model.specs.Centre.{Centre}
use Rattle.http_office_requests.specs.Piece.{Piece}
use Rattle.http_office_requests.specs.Request.{Asked, request_of}
use Rattle.http_office_answers.specs.Answer.{unavailable_answer}
use Rattle.http_office.specs.Run.{HasAnswered}
use Rattle.http_office.specs.Serving.{IsServed}
use Rattle.http_office.specs.Stream.{Begins, StopsIn, bytes_of_all}
use Rattle.http_office_answers.specs.declared.answers.Answer.{Answer}
use Rattle.http_office.specs.declared.serving.End.{End}
use Rattle.http_office.specs.declared.serving.ServeFault.{ServeFault}
use Rattle.http_office.specs.declared.serving.ServeFault.TheVariants.{Read, Write, Memory}
use Rattle.report_texts.specs.Output.{AppendsPart}
use Rattle.playout_lists.specs.Fault.{line_of}
use Rattle.playout_lists.specs.Telling.{Told, TellsAll}
use Rattle.playout_lists.specs.declared.fault.Fault.TheVariants.{Stream}
use Rattle.playout_lists.specs.declared.streams.InputFault.{InputFault}
use Rattle.playout_lists.specs.declared.streams.InputFault.TheVariants as input
use Rattle.playout_lists.specs.declared.streams.StreamFault.{StreamFault}
use Rattle.playout_lists.specs.declared.streams.StreamFault.TheVariants.{Input, Write as Written}
use Rattle.playout_peers.specs.Wire.{Wire}

-- a message that was answered: of which connection, by its number
pub record Done : Type 0 where
  pub peer : ℕ
  pub piece : Piece
  pub answer : Answer

-- the messages of one connection among those of all, and their answers, in order
abbrev pub pieces_of : ℕ → List Done → List Piece
pieces_of n done = map (λ d. d.piece) (filter (λ d. d.peer == n) done)

abbrev pub answers_of : ℕ → List Done → List Answer
answers_of n done = map (λ d. d.answer) (filter (λ d. d.peer == n) done)

-- what all of them asked, in the order in which it was done, and what they were answered
abbrev pub asked_in : List Done → List Asked
asked_in done = map (λ d. request_of d.piece) done

abbrev pub answers_in : List Done → List Answer
answers_in done = map (λ d. d.answer) done

-- What ended: a connection, of this number; or something failed that is no connection's.
pub data Ending : Type 0 where
  over : ℕ → Result End ServeFault → Ending
  failed : InputFault → Ending

-- how one connection ended, if it did
abbrev pub ends_of : ℕ → List Ending → List (Result End ServeFault)
ends_of n [] = []
ends_of n (over m how ∷ ends) = if m == n then how ∷ ends_of n ends else ends_of n ends
ends_of n (failed fault ∷ ends) = ends_of n ends

-- how many did
abbrev pub count_of : List Ending → ℕ
count_of [] = 0
count_of (over m how ∷ ends) = suc (count_of ends)
count_of (failed fault ∷ ends) = count_of ends

-- none of it was a fault
abbrev pub is_well : Ending → Bool
is_well (over m (Ok end)) = true
is_well (over m (Err fault)) = false
is_well (failed fault) = false

abbrev pub are_well : List Ending → Bool
are_well [] = true
are_well (e ∷ ends) = is_well e && are_well ends

-- how a connection's fault is told
abbrev pub stream_fault_of : ServeFault → StreamFault
stream_fault_of Read = Input input.Read
stream_fault_of Write = Written
stream_fault_of Memory = Input input.Unavailable

-- the lines of the faults
abbrev pub line_at : Ending → List ℕ
line_at (over m (Ok end)) = []
line_at (over m (Err fault)) = line_of (Stream (stream_fault_of fault))
line_at (failed fault) = line_of (Stream (Input fault))

abbrev pub lines_at : List Ending → List ℕ
lines_at [] = []
lines_at (e ∷ ends) = line_at e ++ lines_at ends

-- what is written to a connection that ends for want of memory: it was done nothing of
abbrev pub farewell : Result End ServeFault → List ℕ
farewell (Ok end) = []
farewell (Err Read) = []
farewell (Err Write) = []
farewell (Err Memory) = unavailable_answer

-- A connection that has ended: what was read of it begins with these pieces, these are their answers, and so much of
-- them was written as its end says.
pub record HasEnded (pieces : List Piece) (answers : List Answer) (first last : Wire) (how : Result End ServeFault)
    : Type 0 where
  pub before : Option (List ℕ)
  pub served : IsServed pieces answers first.unread last.unread first.written before how
  pub left : AppendsPart before last.written (farewell how)

-- One that hasn't: of the last answer a beginning was written.
pub record StaysOpen (pieces : List Piece) (answers : List Answer) (first last : Wire) : Type 0 where
  pub read : List ℕ
  pub rest : List ℕ
  pub written : List ℕ
  pub consumed : Consumes first.unread last.unread read
  pub begins : Begins read pieces rest
  pub each : length pieces ≡ length answers
  pub appended : Appends first.written last.written written
  pub so_far : StopsIn answers written ⊎ ((n : ℕ) × (written ≡ bytes_of_all answers ++ take n unavailable_answer))

-- it ended once, or it hasn't
abbrev pub IsConnection : List Piece → List Answer → Wire → Wire → List (Result End ServeFault) → Type 0
IsConnection pieces answers first last [] = StaysOpen pieces answers first last
IsConnection pieces answers first last (how ∷ []) = HasEnded pieces answers first last how
IsConnection pieces answers first last (how ∷ again ∷ more) = ⊥

-- Connections were served, so many of which ended at most: each got its own answers, in order; and each fault was said.
pub record AreServed (done : List Done) (ends : List Ending) (first last : ℕ → Wire) (most : ℕ)
    (told_old told_new : Told) (quiet : Bool) : Type 0 where
  pub each : (n : ℕ) → IsConnection (pieces_of n done) (answers_of n done) (first n) (last n) (ends_of n ends)
  pub count : count_of ends ≤ most
  pub told : TellsAll told_old told_new (lines_at ends)
  -- quiet where nothing had a fault, and only there; and then as many ended as were to
  pub well : quiet ≡ are_well ends
  pub all : quiet ≡ true → count_of ends ≡ most

-- And a store did what all of them asked, one message after another, and nothing else.
pub record ServesPeers {S : Type 0} (is_clean : S → Type 0) (stands_for may_leave : S → Centre → Type 0)
    (leaves_sets : S → Type 0) (old new : S)
    (first last : ℕ → Wire) (most : ℕ) (told_old told_new : Told) (quiet : Bool) : Type 0 where
  pub done : List Done
  pub ends : List Ending
  pub are_served : AreServed done ends first last most told_old told_new quiet
  pub did : HasAnswered is_clean stands_for may_leave leaves_sets old new (asked_in done) (answers_in done)
