-- A turn of one connection.
use Rattle.std.specs.Prelude.{◌≡◌, ◌≢◌, ◌≤◌, ◌-◌, ◌++◌, ℕ, true, false, List, [], ◌∷◌, length, take, drop}
use Rattle.std.specs.Io.KnownBytes.{Consumes, Appends, IsAtEnd}
use Rattle.channel_view_model.specs.Centre.{Centre}
use Rattle.http_office_requests.specs.Piece.{Piece, IsPiece, IsPartial}
use Rattle.http_office_requests.specs.Request.{request_of}
use Rattle.http_office_answers.specs.Answer.{unavailable_answer}
use Rattle.http_office_answers.specs.Answer.{answer_bytes}
use Rattle.http_office.specs.Run.{HasAnswered}
use Rattle.http_office.specs.Stream.{goes_on, Begins, AllGoOn, EndsWithLast, bytes_of_all}
use Rattle.http_office_answers.specs.declared.answers.Answer.{Answer}
use Rattle.playout_peers.specs.Wire.{Wire}
use Rattle.playout_peers.specs.Peers.{Done, pieces_of, answers_of, asked_in, answers_in, HasEnded}
use Rattle.playout_peers.specs.declared.peer.Peer.{Peer}
use Rattle.playout_peers.specs.declared.peer.Task.{Task}
use Rattle.playout_peers.specs.declared.peer.Task.TheVariants.{Reads, Answers, Refuses, Starves}
use Rattle.playout_peers.specs.declared.peer.ReadOutcome.{ReadOutcome}
use Rattle.playout_peers.specs.declared.peer.ReadOutcome.TheVariants.{More, Later, Closed, Broken, Starved}
use Rattle.playout_peers.specs.declared.peer.Front.{Front}
use Rattle.playout_peers.specs.declared.peer.Front.TheVariants.{Waits, Answered, Last}
use Rattle.playout_peers.specs.declared.peer.Said.{Said}
use Rattle.playout_peers.specs.declared.peer.Said.TheVariants.{All, Part, Fails}
use Rattle.playout_peers.specs.declared.peer.Turned.{Turned}
use Rattle.playout_peers.specs.declared.peer.Turned.TheVariants.{Stays, Ends}

-- so many bytes of the last answer are written, and all of those before it
pub record IsSent (answer : Answer) (sent : ℕ) (answers : List Answer) (written : List ℕ) : Type 0 where
  pub before : List Answer
  pub last : answers ≡ before ++ answer ∷ []
  pub written_is : written ≡ bytes_of_all before ++ take sent (answer_bytes answer)

-- what a connection is at says how far its answers are written, and whether more messages may follow
abbrev pub IsAt : Task → List Piece → List Answer → List ℕ → Type 0
IsAt Reads pieces answers written = (written ≡ bytes_of_all answers) × AllGoOn pieces
IsAt (Answers answer sent) pieces answers written = IsSent answer sent answers written × AllGoOn pieces
IsAt (Refuses answer sent) pieces answers written = IsSent answer sent answers written × EndsWithLast pieces
IsAt (Starves sent) pieces answers written =
    (written ≡ bytes_of_all answers ++ take sent unavailable_answer) × AllGoOn pieces

-- and whether what is pending follows the messages that were answered
abbrev pub IsPending : Task → List ℕ → List ℕ → Type 0
IsPending Reads rest pending = rest ≡ pending
IsPending (Answers answer sent) rest pending = rest ≡ pending
IsPending (Refuses answer sent) rest pending = Unit {0}
IsPending (Starves sent) rest pending = Unit {0}

-- an open connection, all of whose messages so far were answered
pub record IsOpen (pieces : List Piece) (answers : List Answer) (first now : Wire) (pending : List ℕ) (task : Task)
    : Type 0 where
  pub read : List ℕ
  pub rest : List ℕ
  pub written : List ℕ
  pub consumed : Consumes first.unread now.unread read
  pub begins : Begins read pieces rest
  pub each : length pieces ≡ length answers
  pub appended : Appends first.written now.written written
  pub at : IsAt task pieces answers written
  pub waits : IsPending task rest pending

abbrev pub IsOpenPeer : List Piece → List Answer → Wire → Wire → Peer → Type 0
IsOpenPeer pieces answers first now peer = IsOpen pieces answers first now peer.connection.pending.items peer.task

-- what one read did
abbrev pub Heard : Wire → Wire → List ℕ → List ℕ → ReadOutcome → Type 0
Heard old new before now More =
    (bytes : List ℕ) × Consumes old.unread new.unread bytes × (new.written ≡ old.written) × (now ≡ before ++ bytes)
Heard old new before now Later = Consumes old.unread new.unread [] × (new.written ≡ old.written) × (now ≡ before)
Heard old new before now Closed =
    Consumes old.unread new.unread [] × (new.written ≡ old.written) × (now ≡ before) × IsAtEnd new.unread
Heard old new before now Broken = Consumes old.unread new.unread [] × (new.written ≡ old.written) × (now ≡ before)
Heard old new before now Starved =
    (bytes : List ℕ) × Consumes old.unread new.unread bytes × (new.written ≡ old.written)

-- a write from a place of the bytes on: up to this one they are written
pub record Sent (old new : Wire) (bytes : List ℕ) (from to : ℕ) : Type 0 where
  pub further : from ≤ to
  pub took : Appends old.written new.written (take (to - from) (drop from bytes))
  pub unread : new.unread ≡ old.unread

-- what was written of bytes from a place on: the rest of them, up to a place, or nothing, and the connection broke
abbrev pub Says : Wire → Wire → List ℕ → ℕ → Said → Type 0
Says old new bytes from All = Sent old new bytes from (length bytes)
Says old new bytes from (Part to) = Sent old new bytes from to
Says old new bytes from Fails = Sent old new bytes from from

-- what a look at the front of what is pending came to: none is whole, or the first message was answered and taken out
abbrev pub AnswersFront : {S : Type 0} → (S → Type 0) → (S → Centre → Type 0) → (S → Centre → Type 0) → (S → Type 0) → S
    → S → List ℕ
    → List ℕ → Front → Type 0
AnswersFront is_clean stands_for may_leave leaves_sets old new before now Waits =
    IsPartial before × (now ≡ before) × (new ≡ old)
AnswersFront is_clean stands_for may_leave leaves_sets old new before now (Answered answer) =
    (n : ℕ) × (p : Piece) × IsPiece (take n before) p × (goes_on p ≡ true) × (now ≡ drop n before)
    × HasAnswered is_clean stands_for may_leave leaves_sets old new (request_of p ∷ []) (answer ∷ [])
AnswersFront is_clean stands_for may_leave leaves_sets old new before now (Last answer) =
    (n : ℕ) × (p : Piece) × IsPiece (take n before) p × (goes_on p ≡ false)
    × HasAnswered is_clean stands_for may_leave leaves_sets old new (request_of p ∷ []) (answer ∷ [])

-- how a turn leaves a connection: open, in its seat, or ended so
abbrev pub ComesTo : Turned → List Piece → List Answer → Wire → Wire → ℕ → Type 0
ComesTo (Stays peer then) pieces answers first now number =
    IsOpenPeer pieces answers first now peer × (peer.connection.seat.number ≡ number)
ComesTo (Ends how) pieces answers first now number = HasEnded pieces answers first now how

-- What a turn of this connection did: at most one message was answered, and it was its own.
pub record TakesTurn {S : Type 0} (is_clean : S → Type 0) (stands_for may_leave : S → Centre → Type 0)
    (leaves_sets : S → Type 0) (old new : S)
    (before now : Wire) (peer : Peer) (turned : Turned) : Type 0 where
  pub done : List Done
  pub did : HasAnswered is_clean stands_for may_leave leaves_sets old new (asked_in done) (answers_in done)
  pub comes : (pieces : List Piece) (answers : List Answer) (first : Wire) → IsOpenPeer pieces answers first before peer
      → ComesTo turned (pieces ++ pieces_of peer.connection.seat.number done)
      (answers ++ answers_of peer.connection.seat.number done) first now
      peer.connection.seat.number
  pub others : (m : ℕ) → m ≢ peer.connection.seat.number → (pieces_of m done ≡ []) × (answers_of m done ≡ [])
