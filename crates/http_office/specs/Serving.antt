-- Part of the promise: a stream from its first read on: what was read, which pieces it has, what was done and written
-- for them, and how it ended.
use Rattle.std.specs.Prelude.{◌≡◌, ◌≢◌, ℕ, List, [], map, length, Option, Result, Ok, Err}
use Rattle.std.specs.Io.KnownBytes.{Consumes, Appends, IsAtEnd}
use Rattle.channel_view_model.specs.Centre.{Centre}
use Rattle.http_office_requests.specs.Piece.{Piece, IsPartial}
use Rattle.http_office_requests.specs.Request.{request_of}
use Rattle.http_office.specs.Run.{HasAnswered}
use Rattle.http_office.specs.Stream.{Begins, AllGoOn, EndsWithLast, StopsIn, bytes_of_all}
use Rattle.http_office_answers.specs.declared.answers.Answer.{Answer}
use Rattle.http_office.specs.declared.serving.End.{End}
use Rattle.http_office.specs.declared.serving.End.TheVariants.{Closed, CutShort, Refused, TurnsSpent}
use Rattle.http_office.specs.declared.serving.ServeFault.{ServeFault}
use Rattle.http_office.specs.declared.serving.ServeFault.TheVariants.{Read, Write, Memory}

-- What each end and each fault says of the pieces that were answered, of the bytes after them, of what was written, and
-- of what the reader has left.
abbrev pub Ends : Result End ServeFault → List Piece → List ℕ → List Answer → List ℕ → Option (List ℕ) → Type 0
-- the input ended between messages
Ends (Ok Closed) pieces rest answers written left =
    (written ≡ bytes_of_all answers) × AllGoOn pieces × (rest ≡ []) × IsAtEnd left
-- the input ended within a message
Ends (Ok CutShort) pieces rest answers written left =
    (written ≡ bytes_of_all answers) × AllGoOn pieces × (rest ≢ []) × IsPartial rest × IsAtEnd left
-- the last piece ends the connection
Ends (Ok Refused) pieces rest answers written left = (written ≡ bytes_of_all answers) × EndsWithLast pieces
-- no piece of what was read is left unanswered
Ends (Ok TurnsSpent) pieces rest answers written left =
    (written ≡ bytes_of_all answers) × AllGoOn pieces × IsPartial rest
Ends (Err Read) pieces rest answers written left = (written ≡ bytes_of_all answers) × AllGoOn pieces × IsPartial rest
-- of a further piece nothing was done
Ends (Err Memory) pieces rest answers written left = (written ≡ bytes_of_all answers) × AllGoOn pieces
-- the last piece was acted on, and a beginning of its answer written
Ends (Err Write) pieces rest answers written left = StopsIn answers written

-- What was read begins with these pieces, and these are their answers.
pub record IsServed (pieces : List Piece) (answers : List Answer)
    (readable_old readable_new written_old written_new : Option (List ℕ))
    (result : Result End ServeFault) : Type 0 where
  pub read : List ℕ
  pub rest : List ℕ
  pub written : List ℕ
  pub consumed : Consumes readable_old readable_new read
  pub begins : Begins read pieces rest
  pub each : length pieces ≡ length answers
  pub appended : Appends written_old written_new written
  pub ends : Ends result pieces rest answers written readable_new

-- and what each of them asks was done, in order, and nothing else
pub record Serves {S : Type 0} (is_clean : S → Type 0) (stands_for may_leave : S → Centre → Type 0)
    (leaves_sets : S → Type 0) (old new : S)
    (readable_old readable_new written_old written_new : Option (List ℕ))
    (result : Result End ServeFault) : Type 0 where
  pub pieces : List Piece
  pub answers : List Answer
  pub served : IsServed pieces answers readable_old readable_new written_old written_new result
  pub did : HasAnswered is_clean stands_for may_leave leaves_sets old new (map request_of pieces) answers
