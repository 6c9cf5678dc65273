-- Part of the promise: what messages came to: those that were given an answer, and the answers. One answered
-- Unavailable did nothing, so it is as if it hadn't been sent, and one that is sent until it is given its answer as if
-- it had been sent once.
use Rattle.std.specs.Prelude.{ℕ, List, [], ◌∷◌}
use Rattle.http_office_requests.specs.Request.{Asked}
use Rattle.http_office_answers.specs.declared.answers.Answer.{Answer}
use Rattle.http_office_answers.specs.declared.answers.Answer.TheVariants.{Given, Unavailable}

-- what was asked by those that were given an answer
abbrev pub given_asked : List Asked → List Answer → List Asked
given_asked [] xs = []
given_asked (a ∷ asked) [] = []
given_asked (a ∷ asked) (Unavailable ∷ answers) = given_asked asked answers
given_asked (a ∷ asked) (Given bytes ∷ answers) = a ∷ given_asked asked answers

-- the bytes that they were given
abbrev pub given_bytes : List Answer → List (List ℕ)
given_bytes [] = []
given_bytes (Unavailable ∷ answers) = given_bytes answers
given_bytes (Given bytes ∷ answers) = bytes.items ∷ given_bytes answers
