-- What the code finds at the front of the bytes.
use Rattle.std.specs.Prelude.{◌≡◌, ℕ, ◌<◌, ◌≤◌, ◌⊎◌, List, [], ◌∷◌, None, length, take, slice_range}
use Rattle.httparse.specs.Grammar.{RequestHead}
use Rattle.httparse.specs.declared.spans.Span.{Span}
use Rattle.httparse.specs.Spans.{span_bytes, IsWithin}
use Rattle.http_office_requests.specs.Piece.{IsPiece, IsPartial, message, last, IsAccepted, IsHeadText, head_len}
use Rattle.http_office_requests.specs.Piece.{head_limit}
use Rattle.http_office_requests.specs.Piece.{framing_of, Framing, body, ends}
use Rattle.http_office_requests.specs.declared.piece.FoundPiece.{FoundPiece}
use Rattle.http_office_requests.specs.declared.piece.FoundPiece.TheVariants.{Partial, Message, Last}
use Rattle.http_office_requests.specs.declared.piece.MessageSpans.{MessageSpans}
use Rattle.http_office_requests.specs.declared.piece.FramingProgress.{FramingProgress}
use Rattle.http_office_requests.specs.declared.piece.FramingProgress.TheVariants.{NoEnd, Head}
use Rattle.http_office_requests.specs.declared.piece.WholeHead.{WholeHead}
use Rattle.http_office_requests.specs.declared.piece.Framed.{Framed}
use Rattle.http_office_requests.specs.declared.piece.Framed.TheVariants.{Body, Ends}
use Rattle.http_office_requests.specs.declared.piece.Values.{Values}
use Rattle.http_office_requests.specs.declared.piece.Values.TheVariants.{Nothing, One, Several}
use Rattle.http_office_requests.specs.declared.piece.HttpError.{HttpError}
use Rattle.http_office_requests.specs.declared.piece.HttpError.TheVariants.{BadMessage, NotFound, TooLarge}
use Rattle.http_office_requests.specs.declared.piece.HttpError.TheVariants.{NotImplemented}

abbrev pub status_of : HttpError → ℕ
status_of BadMessage = 400
status_of NotFound = 404
status_of TooLarge = 413
status_of NotImplemented = 501

-- a whole message with this head: where it ends, its body begins, and its method and path are
pub record IsMessageAt (bytes : List ℕ) (m : MessageSpans) (h : RequestHead) : Type 0 where
  pub fits : m.len ≤ length bytes
  pub some : 0 < m.len
  pub begins : m.body ≤ m.len
  pub whole : IsPiece (take m.len bytes) (message h (slice_range bytes m.body m.len))
  pub method_in : IsWithin m.body m.method
  pub path_in : IsWithin m.body m.path
  pub method : span_bytes bytes m.method ≡ h.method
  pub path : span_bytes bytes m.path ≡ h.target

-- what follows an accepted head, or why nothing does
abbrev pub IsFramed : List ℕ → Framed → Type 0
IsFramed head (Body method path n) =
    (h : RequestHead) × IsAccepted head h × (framing_of h ≡ body n)
    × IsWithin (length head) method × IsWithin (length head) path × (span_bytes head method ≡ h.method)
    × (span_bytes head path ≡ h.target)
IsFramed head (Ends status) =
    ((status_of status ≡ 400) × ((h : RequestHead) → IsAccepted head h → ⊥))
    ⊎ ((h : RequestHead) × IsAccepted head h × (framing_of h ≡ ends (status_of status)))

-- the head at the front of the bytes, and what its fields say of a body
pub record IsWholeHead (bytes : List ℕ) (head : WholeHead) : Type 0 where
  pub within : head.end ≤ length bytes
  pub text : IsHeadText (take head.end bytes)
  pub framed : IsFramed (take head.end bytes) (Body head.method head.path head.content)

-- What was found of the bytes before more came. It is what a reader keeps, and no term of RFC 9112: it says why the front
-- of a long piece isn't read again at each read. What is answered rests on IsPiece alone.
abbrev pub IsFramingProgress : List ℕ → FramingProgress → Type 0
IsFramingProgress bytes (NoEnd n) = (n ≤ length bytes) × (n ≤ head_limit) × (head_len (take n bytes) ≡ None)
IsFramingProgress bytes (Head head) = IsWholeHead bytes head

abbrev pub IsNext : List ℕ → FoundPiece → Type 0
IsNext bytes (Partial seen) = IsPartial bytes × IsFramingProgress bytes seen
IsNext bytes (Message m) = (h : RequestHead) × IsMessageAt bytes m h
IsNext bytes (Last len status) = (len ≤ length bytes) × (0 < len) × IsPiece (take len bytes) (last (status_of status))

-- what the fields say, with the method and the path beside it
abbrev pub FramesBy : Span → Span → Framing → Framed → Type 0
FramesBy method path framing (Body m p n) = (framing ≡ body n) × (m ≡ method) × (p ≡ path)
FramesBy method path framing (Ends status) = framing ≡ ends (status_of status)

-- no value, one, or more
abbrev pub AreValues : List (List ℕ) → Values → Type 0
AreValues vs Nothing = vs ≡ []
AreValues vs (One v) = vs ≡ v.now ∷ []
AreValues vs Several = (a : List ℕ) × (b : List ℕ) × (more : List (List ℕ)) × (vs ≡ a ∷ b ∷ more)

-- at most one value was found, and more may come
abbrev pub FoundSoFar : List (List ℕ) → Values → List (List ℕ) → Type 0
FoundSoFar all Nothing more = all ≡ more
FoundSoFar all (One v) more = all ≡ v.now ∷ more
FoundSoFar all Several more = ⊥
