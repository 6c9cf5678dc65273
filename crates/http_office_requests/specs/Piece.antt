-- Part of the promise: what stands at the front of a stream: a message, or what ends the connection (RFC 9112, sections
-- 2, 3, 5 and 6).
use Rattle.std.specs.Prelude.{◌≡◌, ℕ, suc, ◌≤◌, ◌⊎◌, Bool, ◌&&◌, List, [], ◌∷◌, ◌++◌, length, map, filter}
use Rattle.std.specs.Prelude.{if◌then◌else◌, ◌==◌, nat_le, Option, Some, None, option_map, codes}
use Rattle.std.specs.Str.{str_eq_ignore_ascii_case}
use Rattle.timecode.specs.Decimal.{decimal_number}
use Rattle.http_office_requests.specs.Limits.{most_body_bytes}
use Rattle.httparse.specs.Grammar.{RequestHead, ReadsRequest}
use Rattle.httparse.specs.Spans.{name_and_value}

-- CR LF CR LF
abbrev pub is_empty_line : ℕ → ℕ → ℕ → ℕ → Bool
is_empty_line a b c d = a == 13 && b == 10 && c == 13 && d == 10

-- how long the head is: up to and with the first empty line
unfoldable pub head_len : List ℕ → Option ℕ
head_len (a ∷ b ∷ c ∷ d ∷ rest) =
    if is_empty_line a b c d then Some 4 else option_map suc (head_len (b ∷ c ∷ d ∷ rest))
head_len (a ∷ b ∷ c ∷ []) = None
head_len (a ∷ b ∷ []) = None
head_len (a ∷ []) = None
head_len [] = None

-- the longest head, the most fields of a head
abbrev pub head_limit : ℕ
head_limit = 8192

abbrev pub field_limit : ℕ
field_limit = 32

-- the bytes end with their first empty line, and are no more than a head may have
pub record IsHeadText (head : List ℕ) : Type 0 where
  pub ends : head_len head ≡ Some (length head)
  pub fits : length head ≤ head_limit

-- all of the head is one of the grammar, and its fields have room
pub record IsAccepted (head : List ℕ) (h : RequestHead) : Type 0 where
  pub reads : ReadsRequest head h []
  pub room : length h.fields ≤ field_limit

-- of fields by name and value: the values of those of this name, in whichever case its letters are
unfoldable pub values_of : List ℕ → List (List ℕ × List ℕ) → List (List ℕ)
values_of name fields = map (λ f. f.1) (filter (λ f. str_eq_ignore_ascii_case f.0 name) fields)

-- the body's length: 0 where no field gives one
abbrev pub content_length : List (List ℕ) → Option ℕ
content_length [] = Some 0
content_length (v ∷ []) = decimal_number 10 v
content_length (v ∷ w ∷ more) = None

-- what follows a head: a body of so many bytes, or nothing, since the connection ends with an answer of this status
pub data Framing : Type 0 where
  body : ℕ → Framing
  ends : ℕ → Framing

abbrev pub framing_by : Option ℕ → List (List ℕ) → Framing
framing_by None codings = ends 400
framing_by (Some n) (v ∷ more) = ends 501
framing_by (Some n) [] = if nat_le n most_body_bytes then body n else ends 413

abbrev pub framing_in : List (List ℕ × List ℕ) → Framing
framing_in fields = framing_by (content_length (values_of (codes "content-length") fields))
    (values_of (codes "transfer-encoding") fields)

unfoldable pub framing_of : RequestHead → Framing
framing_of h = framing_in (map name_and_value h.fields)

-- one message of a stream, or what ends the connection, with the status of its answer
pub data Piece : Type 0 where
  message : RequestHead → List ℕ → Piece
  last : ℕ → Piece

-- a head and its body
pub record IsMessage (bytes : List ℕ) (h : RequestHead) (content : List ℕ) : Type 0 where
  pub head : List ℕ
  pub whole : bytes ≡ head ++ content
  pub text : IsHeadText head
  pub accepted : IsAccepted head h
  pub framed : framing_of h ≡ body (length content)

-- as many bytes as a head may have, and no end of a head in them
abbrev pub IsEndless : List ℕ → Type 0
IsEndless bytes = (length bytes ≡ head_limit) × (head_len bytes ≡ None)

-- a head that is not accepted
abbrev pub IsRefused : List ℕ → Type 0
IsRefused bytes = IsHeadText bytes × ((h : RequestHead) → IsAccepted bytes h → ⊥)

-- a head whose fields end the connection
abbrev pub IsUnframed : List ℕ → ℕ → Type 0
IsUnframed bytes status = IsHeadText bytes × (h : RequestHead) × IsAccepted bytes h × (framing_of h ≡ ends status)

-- the bytes are this piece
abbrev pub IsPiece : List ℕ → Piece → Type 0
IsPiece bytes (message h content) = IsMessage bytes h content
IsPiece bytes (last status) =
    ((status ≡ 400) × (IsEndless bytes ⊎ IsRefused bytes)) ⊎ IsUnframed bytes status

-- a rest in which no piece is whole
abbrev pub IsPartial : List ℕ → Type 0
IsPartial rest = (front more : List ℕ) (p : Piece) → front ++ more ≡ rest → IsPiece front p → ⊥
