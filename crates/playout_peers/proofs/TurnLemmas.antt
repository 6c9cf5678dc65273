-- What a turn of one connection did.
use Rattle.std.proofs.Common.{◌≡◌, refl, ℕ, true, List, [], ◌∷◌, ◌++◌, take, drop, append-nil, take-append-drop, sym}
use Rattle.std.proofs.Common.{ap, subst}
use Rattle.std.specs.Prelude.{slice_range}
use Rattle.channel_view_model.specs.Centre.{Centre}
use Rattle.http_office_requests.specs.Piece.{Piece, message, IsPiece}
use Rattle.http_office_requests.specs.FoundPiece.{IsNext}
use Rattle.http_office_requests.specs.Request.{request_of}
use Rattle.http_office_requests.specs.declared.piece.MessageSpans.{MessageSpans}
use Rattle.http_office_requests.specs.declared.piece.FoundPiece.TheVariants.{Message, Last}
use Rattle.http_office_requests.specs.declared.piece.HttpError.{HttpError}
use Rattle.http_office_requests.specs.FoundPiece.{status_of}
use Rattle.http_office_requests.specs.Piece.{last}
use Rattle.std.specs.Prelude.{false}
use Rattle.http_office_requests.proofs.PieceLemmas.{one_piece}
use Rattle.http_office.specs.Run.{HasAnswered}
use Rattle.http_office.specs.Stream.{goes_on}
use Rattle.http_office_answers.specs.declared.answers.Answer.{Answer}
use Rattle.http_office.proofs.RunLemmas.{did_nothing}
use Rattle.playout_peers.specs.Wire.{Wire}
use Rattle.playout_peers.specs.Peers.{pieces_of, answers_of}
use Rattle.playout_peers.specs.Turn.{IsOpenPeer, ComesTo, TakesTurn}
use Rattle.playout_peers.specs.declared.peer.Peer.{Peer}
use Rattle.playout_peers.specs.declared.peer.Turned.{Turned}
use Rattle.playout_peers.proofs.PartLemmas.{one, own_piece, own_answer, other_piece, other_answer}

-- the piece that was found is the one that was answered
alike : (bytes : List ℕ) (n : ℕ) (p q : Piece) → IsPiece (take n bytes) p → IsPiece (take n bytes) q
    → goes_on p ≡ goes_on q
alike bytes n p q h k =
    ap goes_on
    (one_piece bytes (take n bytes) (drop n bytes) (take n bytes) (drop n bytes) p q (take-append-drop n bytes)
    (take-append-drop n bytes) h k).1

pub message_goes : (bytes : List ℕ) (m : MessageSpans) (p : Piece) → IsNext bytes (Message m)
    → IsPiece (take m.len bytes) p → goes_on p ≡ true
message_goes bytes m p at piece = alike bytes m.len p (message at.0 (slice_range bytes m.body m.len)) piece at.1.whole

pub last_goes : (bytes : List ℕ) (n : ℕ) (status : HttpError) (p : Piece) → IsNext bytes (Last n status)
    → IsPiece (take n bytes) p → goes_on p ≡ false
last_goes bytes n status p at piece = alike bytes n p (last (status_of status)) piece at.2

-- by other names
comes_as : (turned : Turned) (ps ps' : List Piece) (xs xs' : List Answer) (first now : Wire) (number : ℕ) → ps' ≡ ps
    → xs' ≡ xs
    → ComesTo turned ps xs first now number → ComesTo turned ps' xs' first now number
comes_as turned ps ps' xs xs' first now number e1 e2 h =
    subst (λ (l : List Piece). ComesTo turned l xs' first now number) (sym e1)
    (subst (λ (l : List Answer). ComesTo turned ps l first now number) (sym e2) h)

module _ {S : Type 0} (is_clean : S → Type 0) (stands_for may_leave : S → Centre → Type 0) (leaves_sets : S → Type 0)
  where
    -- no message was answered
    pub took_none : (old new : S) (before now : Wire) (peer : Peer) (turned : Turned) → new ≡ old
        → ((ps : List Piece) (xs : List Answer) (first : Wire) → IsOpenPeer ps xs first before peer
        → ComesTo turned ps xs first now peer.connection.seat.number)
        → TakesTurn is_clean stands_for may_leave leaves_sets old new before now peer turned
    took_none old new before now peer turned same comes = record {
      done = [];
      did =
          subst (λ (s : S). HasAnswered is_clean stands_for may_leave leaves_sets old s [] []) (sym same)
          (did_nothing is_clean stands_for may_leave leaves_sets old);
      comes =
          λ ps xs first o. comes_as turned ps (ps ++ []) xs (xs ++ []) first now peer.connection.seat.number
          (append-nil ps) (append-nil xs) (comes ps xs first o);
      others = λ m ne. (refl, refl);
    }

    -- one was
    pub took_one : (old new : S) (before now : Wire) (peer : Peer) (turned : Turned) (p : Piece) (a : Answer)
        → HasAnswered is_clean stands_for may_leave leaves_sets old new (request_of p ∷ []) (a ∷ [])
        → ((ps : List Piece) (xs : List Answer) (first : Wire) → IsOpenPeer ps xs first before peer
        → ComesTo turned (ps ++ p ∷ []) (xs ++ a ∷ []) first now peer.connection.seat.number)
        → TakesTurn is_clean stands_for may_leave leaves_sets old new before now peer turned
    took_one old new before now peer turned p a did comes =
        let n = peer.connection.seat.number in
        record {
          done = one n p a;
          did = did;
          comes = λ ps xs first o.
              comes_as turned (ps ++ p ∷ []) (ps ++ pieces_of n (one n p a)) (xs ++ a ∷ [])
              (xs ++ answers_of n (one n p a)) first now n
              (ap (λ (l : List Piece). ps ++ l) (own_piece n p a))
              (ap (λ (l : List Answer). xs ++ l) (own_answer n p a))
              (comes ps xs first o);
          others = λ m ne. (other_piece n p a m ne, other_answer n p a m ne);
        }
