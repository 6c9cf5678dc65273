-- One message by itself, and what an answered command did.
use Rattle.std.proofs.Common.{◌≡◌, ◌≤◌, ℕ, List, [], length, take, drop, take_all, take-append-drop, length-take-le}
use Rattle.std.proofs.Common.{append-nil, arith, Some, inl, inr, refl, sym, ap, ◌∙◌, subst}
use Rattle.std.specs.Prelude.{slice_range}
use Rattle.std.specs.Bool.{⊤}
use Rattle.http_office_requests.specs.Piece.{Piece, message, last, IsPiece}
use Rattle.http_office_requests.specs.Request.{Asked, refused, request_of}
use Rattle.http_office_requests.specs.FoundPiece.{IsNext, IsMessageAt, status_of}
use Rattle.http_office_requests.specs.Found.{OfPiece, len_found}
use Rattle.httparse.specs.Grammar.{RequestHead}
use Rattle.channel_view_model.specs.Centre.{Centre}
use Rattle.http_office.specs.Message.{IsAskedBy, rows_left}
use Rattle.http_office_answers.specs.declared.answers.Answer.{Answer}
use Rattle.http_office_answers.specs.declared.answers.Answer.TheVariants.{Given, Unavailable}
use Rattle.http_office_requests.specs.declared.piece.MessageSpans.{MessageSpans}
use Rattle.http_office_requests.specs.declared.piece.FoundPiece.{FoundPiece}
use Rattle.http_office_requests.specs.declared.piece.FoundPiece.TheVariants.{Partial, Message, Last}
use Rattle.http_office_requests.proofs.PieceLemmas.{one_piece}

-- the piece that was found is the whole
pub whole_asked : (bytes : List ℕ) (next : FoundPiece) (Q : Asked → Type 0) → len_found next ≡ Some (length bytes)
    → OfPiece bytes next (λ p. Q (request_of p)) → (a : Asked) × IsAskedBy bytes a × Q a
whole_asked bytes (Partial seen) Q len found = cc
whole_asked bytes (Message m) Q len found =
    let len_is : m.len ≡ length bytes = cc in
    let all : take m.len bytes ≡ bytes = take_all m.len bytes (omega (arith, len_is)) in
    (request_of found.0, inl (found.0, subst (λ (l : List ℕ). IsPiece l found.0) all found.1, refl), found.2)
whole_asked bytes (Last n fault) Q len found =
    let len_is : n ≡ length bytes = cc in
    let all : take n bytes ≡ bytes = take_all n bytes (omega (arith, len_is)) in
    (request_of found.0, inl (found.0, subst (λ (l : List ℕ). IsPiece l found.0) all found.1, refl), found.2)

some_piece : (bytes : List ℕ) (next : FoundPiece) → IsNext bytes next → OfPiece bytes next (λ p. ⊤)
some_piece bytes (Partial seen) found = tt
some_piece bytes (Message m) (h, at) = (message h (slice_range bytes m.body m.len), at.whole, tt)
some_piece bytes (Last n status) found = (last (status_of status), found.2, tt)

-- and asks something
pub something_asked : (bytes : List ℕ) (next : FoundPiece) → IsNext bytes next → len_found next ≡ Some (length bytes)
    → (a : Asked) × IsAskedBy bytes a
something_asked bytes next found len =
    let a = whole_asked bytes next (λ a. ⊤) len (some_piece bytes next found) in (a.0, a.1)

-- another piece than the whole
other_piece : (bytes : List ℕ) (n : ℕ) (q : Piece) → n ≤ length bytes → IsPiece (take n bytes) q
    → (Some n ≡ Some (length bytes) → ⊥) → (p : Piece) → IsPiece bytes p → ⊥
other_piece bytes n q within found other p piece =
    let same =
    (one_piece bytes (take n bytes) (drop n bytes) bytes [] q p (take-append-drop n bytes) (append-nil bytes) found
    piece).0 in
    other (ap Some (sym (length-take-le n bytes within) ∙ ap length same))

no_piece : (bytes : List ℕ) (next : FoundPiece) → IsNext bytes next → (len_found next ≡ Some (length bytes) → ⊥)
    → (p : Piece) → IsPiece bytes p → ⊥
no_piece bytes (Partial seen) found other p piece = found.0 bytes [] p (append-nil bytes) piece
no_piece bytes (Message m) (h, at) other p piece =
    other_piece bytes m.len (message h (slice_range bytes m.body m.len)) at.fits at.whole other p piece
no_piece bytes (Last n fault) found other p piece =
    other_piece bytes n (last (status_of fault)) found.0 found.2 other p piece

pub bad_message : (bytes : List ℕ) (next : FoundPiece) → IsNext bytes next → (len_found next ≡ Some (length bytes) → ⊥)
    → IsAskedBy bytes (refused 400)
bad_message bytes next found other = inr (no_piece bytes next found other, refl)

-- what bytes ask is one thing
pub one_request : (bytes : List ℕ) (a b : Asked) → IsAskedBy bytes a → IsAskedBy bytes b → a ≡ b
one_request bytes a b (inl (p, p_is, asked)) (inl (q, q_is, asked')) =
    asked ∙ ap request_of (one_piece bytes bytes [] bytes [] p q (append-nil bytes) (append-nil bytes) p_is q_is).1
    ∙ sym asked'
one_request bytes a b (inl (p, p_is, asked)) (inr (none, refused')) = absurd (none p p_is)
one_request bytes a b (inr (none, is)) (inl (q, q_is, asked)) = absurd (none q q_is)
one_request bytes a b (inr (none, is)) (inr (none', is')) = is ∙ sym is'

-- a message that was found asks what its head and its body say
pub found_message : (bytes : List ℕ) (next : FoundPiece) (m : MessageSpans) (Q : Piece → Type 0) → next ≡ Message m
    → IsNext bytes next
    → ((h : RequestHead) → IsMessageAt bytes m h → Q (message h (slice_range bytes m.body m.len)))
    → OfPiece bytes next Q
found_message bytes next m Q is found made =
    let here : IsNext bytes (Message m) = subst (IsNext bytes) is found in
    subst (λ (n : FoundPiece). OfPiece bytes n Q) (sym is)
    (message here.0 (slice_range bytes m.body m.len), here.1.whole, made here.0 here.1)

-- a message that asks nothing of a channel leaves the rows
pub rows_left-refused : (rows : Centre) (status : ℕ) (r : Answer) → rows_left rows (refused status) r ≡ rows
rows_left-refused rows status (Given bytes) = refl
rows_left-refused rows status Unavailable = refl

-- what holds of the piece that was found, from what else holds of it
pub OfPiece-weaker : (bytes : List ℕ) (next : FoundPiece) (P Q : Piece → Type 0) → ((p : Piece) → P p → Q p)
    → OfPiece bytes next P → OfPiece bytes next Q
OfPiece-weaker bytes (Partial seen) P Q f h = tt
OfPiece-weaker bytes (Message m) P Q f h = (h.0, h.1, f h.0 h.2)
OfPiece-weaker bytes (Last n status) P Q f h = (h.0, h.1, f h.0 h.2)
