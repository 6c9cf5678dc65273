-- The pieces of a stream, and what is written for them.
use Rattle.std.specs.Prelude.{◌≡◌, ℕ, ◌⊎◌, Bool, true, false, List, [], ◌∷◌, ◌++◌, take, map}
use Rattle.std.specs.Bool.{⊤}
use Rattle.std.specs.List.{concat}
use Rattle.http_office_requests.specs.Piece.{Piece, message, last, IsPiece, IsPartial}
use Rattle.http_office_answers.specs.Answer.{answer_bytes}
use Rattle.http_office_answers.specs.declared.answers.Answer.{Answer}

-- whether more may follow a piece (RFC 9112, section 9)
abbrev pub goes_on : Piece → Bool
goes_on (message h content) = true
goes_on (last status) = false

-- the stream begins with these pieces, none behind one that ends it, and rest is what follows them
abbrev pub Begins : List ℕ → List Piece → List ℕ → Type 0
Begins stream [] rest = stream ≡ rest
Begins stream (p ∷ ps) rest =
    (front : List ℕ) × (after : List ℕ) × (stream ≡ front ++ after) × IsPiece front p × (goes_on p ≡ false → ps ≡ [])
    × Begins after ps rest

-- more may follow each of these pieces
abbrev pub AllGoOn : List Piece → Type 0
AllGoOn [] = ⊤
AllGoOn (p ∷ ps) = (goes_on p ≡ true) × AllGoOn ps

-- the last of the pieces ends the stream
abbrev pub EndsWithLast : List Piece → Type 0
EndsWithLast pieces = (front : List Piece) × (p : Piece) × (pieces ≡ front ++ p ∷ []) × (goes_on p ≡ false)

-- the stream is these pieces, up to one that ends it or to a rest in which none is whole
abbrev pub IsCut : List ℕ → List Piece → List ℕ → Type 0
IsCut stream pieces rest = Begins stream pieces rest × (IsPartial rest ⊎ EndsWithLast pieces)

-- the bytes of answers, one after another
abbrev pub bytes_of_all : List Answer → List ℕ
bytes_of_all answers = concat (map answer_bytes answers)

-- the bytes of the answers, and of the last of them only a beginning
abbrev pub StopsIn : List Answer → List ℕ → Type 0
StopsIn answers written =
    (front : List Answer) × (a : Answer) × (n : ℕ) × (answers ≡ front ++ a ∷ [])
    × (written ≡ bytes_of_all front ++ take n (answer_bytes a))
