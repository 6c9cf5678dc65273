-- What the code makes of a message.
use Rattle.std.specs.Prelude.{◌≡◌, ℕ, List, true, Option, Some, None, Result, Ok, Err, take}
use Rattle.std.specs.Bool.{⊤}
use Rattle.std.specs.List.{list_all}
use Rattle.std.specs.Char.{is_ascii}
use Rattle.matchit.specs.Rows.{RowsOf}
use Rattle.matchit.specs.Router.{RouteOf, rename}
use Rattle.http_office_requests.specs.declared.routes.Route.{Route}
use Rattle.http_office_requests.specs.Request.{Asked, refused, command}
use Rattle.http_office_requests.specs.Piece.{Piece, IsPiece}
use Rattle.http_office_requests.specs.declared.piece.FoundPiece.{FoundPiece}
use Rattle.http_office_requests.specs.declared.piece.FoundPiece.TheVariants.{Partial, Message, Last}
use Rattle.http_office_requests.specs.FoundPiece.{status_of}
use Rattle.http_office_requests.specs.declared.request.ParsedRequest.{ParsedRequest}
use Rattle.http_office_requests.specs.declared.request.ParsedRequest.TheVariants as found
use Rattle.http_office_requests.specs.declared.fault.AskFault.{AskFault}
use Rattle.http_office_requests.specs.declared.fault.AskFault.TheVariants as faults

-- what the code found that a message asks
abbrev pub IsAsked : Asked → ParsedRequest → Type 0
IsAsked a (found.Refused status) = a ≡ refused (status_of status)
IsAsked a (found.Command ch c) = a ≡ command ch c

-- what the code found in a path or a body, or the answer's status; where memory ran out nothing is said
abbrev pub Finds : {X : Type 0} → Result X ℕ → Result X AskFault → Type 0
Finds wanted (Ok x) = wanted ≡ Ok x
Finds wanted (Err faults.NotFound) = wanted ≡ Err 404
Finds wanted (Err faults.BadBody) = wanted ≡ Err 400
Finds wanted (Err faults.Unavailable) = ⊤

-- the texts of the routes are ASCII
abbrev pub HasPlainTexts : RowsOf (RouteOf Route) → Type 0
HasPlainTexts rows = rename (λ r. list_all is_ascii r.text) rows ≡ rename (λ r. true) rows

-- the piece that was found at the front of the bytes, of which Q holds; of bytes with no piece nothing is said
abbrev pub OfPiece : List ℕ → FoundPiece → (Piece → Type 0) → Type 0
OfPiece bytes (Partial seen) Q = ⊤
OfPiece bytes (Message m) Q = (p : Piece) × IsPiece (take m.len bytes) p × Q p
OfPiece bytes (Last len status) Q = (p : Piece) × IsPiece (take len bytes) p × Q p

-- how long the piece is that was found
abbrev pub len_found : FoundPiece → Option ℕ
len_found (Partial seen) = None
len_found (Message m) = Some m.len
len_found (Last len status) = Some len
