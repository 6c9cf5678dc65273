-- The steps of a stream.
use Rattle.std.specs.Prelude.{◌≡◌, ℕ, ◌<◌, ◌≤◌, List, [], ◌∷◌, ◌++◌, length, take, map, true, false, Option, Some, None}
use Rattle.std.specs.Prelude.{Result, Ok, Err}
use Rattle.std.specs.Io.KnownBytes.{Consumes, Appends, Keeps, IsAtEnd}
use Rattle.channel_view_model.specs.Centre.{Centre}
use Rattle.http_office_requests.specs.Piece.{Piece, IsPiece, IsPartial}
use Rattle.http_office_requests.specs.Request.{request_of}
use Rattle.http_office_answers.specs.Answer.{answer_bytes}
use Rattle.http_office_requests.specs.FoundPiece.{IsFramingProgress}
use Rattle.http_office.specs.Run.{HasAnswered}
use Rattle.http_office.specs.Stream.{goes_on, Begins, AllGoOn, EndsWithLast, StopsIn, bytes_of_all}
use Rattle.report_texts.specs.Output.{AppendsPart}
use Rattle.http_office_answers.specs.declared.answers.Answer.{Answer}
use Rattle.http_office_requests.specs.declared.piece.FramingProgress.{FramingProgress}
use Rattle.http_office.specs.declared.serving.ServeFault.{ServeFault}
use Rattle.http_office.specs.declared.serving.ServeFault.TheVariants.{Read, Write, Memory}
use Rattle.http_office.specs.declared.serving.Turn.{Turn}
use Rattle.http_office.specs.declared.serving.Turn.TheVariants.{Waits, Answered, Ended}
use Rattle.http_office.specs.declared.serving.ReadOutcome.{ReadOutcome}
use Rattle.http_office.specs.declared.serving.ReadOutcome.TheVariants.{More, End}

-- what one read did
abbrev pub ReadsMore : Option (List ℕ) → Option (List ℕ) → List ℕ → List ℕ → Result ReadOutcome ServeFault → Type 0
ReadsMore old new before now (Ok More) = (bytes : List ℕ) × Consumes old new bytes × (now ≡ before ++ bytes)
ReadsMore old new before now (Ok End) = Keeps old new × IsAtEnd new × (now ≡ before)
ReadsMore old new before now (Err Read) = Keeps old new × (now ≡ before)
ReadsMore old new before now (Err Memory) = (bytes : List ℕ) × Consumes old new bytes
ReadsMore old new before now (Err Write) = ⊥

-- what a piece asks was answered and done, and its answer's bytes were written: all of them, or a beginning
pub record ActsOn (Writes : Option (List ℕ) → Option (List ℕ) → List ℕ → Type 0) {S : Type 0} (is_clean : S → Type 0)
    (stands_for may_leave : S → Centre → Type 0) (leaves_sets : S → Type 0)
    (old new : S) (before now : Option (List ℕ)) (piece : Piece) : Type 0 where
  pub answer : Answer
  pub did : HasAnswered is_clean stands_for may_leave leaves_sets old new (request_of piece ∷ []) (answer ∷ [])
  pub wrote : Writes before now (answer_bytes answer)

-- what one look at the front of the bytes did: it answered the piece that is the first n bytes, or none is whole
abbrev pub TakesTurn : {S : Type 0} → (S → Type 0) → (S → Centre → Type 0) → (S → Centre → Type 0) → (S → Type 0) → S
    → S
    → Option (List ℕ) → Option (List ℕ) → List ℕ
    → Result Turn ServeFault → Type 0
TakesTurn is_clean stands_for may_leave leaves_sets old new before now bytes (Ok (Waits seen)) =
    IsPartial bytes × IsFramingProgress bytes seen × HasAnswered is_clean stands_for may_leave leaves_sets old new [] []
    × Keeps before now
TakesTurn is_clean stands_for may_leave leaves_sets old new before now bytes (Ok (Answered n)) =
    (n ≤ length bytes) × (0 < n) × (p : Piece) × IsPiece (take n bytes) p × (goes_on p ≡ true)
    × ActsOn Appends is_clean stands_for may_leave leaves_sets old new before now p
TakesTurn is_clean stands_for may_leave leaves_sets old new before now bytes (Ok Ended) =
    (n : ℕ) × (p : Piece) × IsPiece (take n bytes) p × (goes_on p ≡ false)
    × ActsOn Appends is_clean stands_for may_leave leaves_sets old new before now p
TakesTurn is_clean stands_for may_leave leaves_sets old new before now bytes (Err Write) =
    (n : ℕ) × (p : Piece) × IsPiece (take n bytes) p
    × ActsOn AppendsPart is_clean stands_for may_leave leaves_sets old new before now p
TakesTurn is_clean stands_for may_leave leaves_sets old new before now bytes (Err Read) = ⊥
TakesTurn is_clean stands_for may_leave leaves_sets old new before now bytes (Err Memory) = ⊥

-- how a run of turns stopped: with what is known of the bytes that are left, or with the connection
abbrev pub Stops : Result (Option FramingProgress) ServeFault → List Piece → List ℕ → List Answer → List ℕ → List ℕ
    → Type 0
Stops (Ok (Some seen)) pieces rest answers written left =
    (written ≡ bytes_of_all answers) × AllGoOn pieces × IsPartial rest × IsFramingProgress rest seen × (left ≡ rest)
Stops (Ok None) pieces rest answers written left = (written ≡ bytes_of_all answers) × EndsWithLast pieces
Stops (Err Write) pieces rest answers written left = StopsIn answers written
Stops (Err Read) pieces rest answers written left = ⊥
Stops (Err Memory) pieces rest answers written left = ⊥

-- every whole piece of the bytes was answered
pub record AnswersWhole {S : Type 0} (is_clean : S → Type 0) (stands_for may_leave : S → Centre → Type 0)
    (leaves_sets : S → Type 0) (old new : S)
    (before now : Option (List ℕ))
    (bytes left : List ℕ) (result : Result (Option FramingProgress) ServeFault) : Type 0 where
  pub pieces : List Piece
  pub rest : List ℕ
  pub answers : List Answer
  pub written : List ℕ
  pub begins : Begins bytes pieces rest
  pub did : HasAnswered is_clean stands_for may_leave leaves_sets old new (map request_of pieces) answers
  pub appended : Appends before now written
  pub stops : Stops result pieces rest answers written left

-- So far: the pieces at the front of the bytes were answered, and rest is what is left. It is what a loop keeps from read to
-- read; what a whole stream is answered is said over all its bytes at once, by Serves.
pub record SoFar {S : Type 0} (is_clean : S → Type 0) (stands_for may_leave : S → Centre → Type 0)
    (leaves_sets : S → Type 0) (old new : S)
    (before now : Option (List ℕ))
    (bytes rest : List ℕ) : Type 0 where
  pub pieces : List Piece
  pub answers : List Answer
  pub begins : Begins bytes pieces rest
  pub go_on : AllGoOn pieces
  pub did : HasAnswered is_clean stands_for may_leave leaves_sets old new (map request_of pieces) answers
  pub appended : Appends before now (bytes_of_all answers)

-- the same of all that was read; no whole piece is pending, and so much is known of what is
pub record HasServed {S : Type 0} (is_clean : S → Type 0) (stands_for may_leave : S → Centre → Type 0)
    (leaves_sets : S → Type 0) (old new : S)
    (before now : Option (List ℕ))
    (readable_old readable_new : Option (List ℕ)) (pending : List ℕ) (seen : FramingProgress) : Type 0 where
  pub read : List ℕ
  pub consumed : Consumes readable_old readable_new read
  pub done : SoFar is_clean stands_for may_leave leaves_sets old new before now read pending
  pub waits : IsPartial pending
  pub seen_is : IsFramingProgress pending seen
