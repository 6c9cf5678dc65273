-- Part of the promise: the messages of one channel: the commands that were done, the bytes that the channel was given
-- for its own, and what a stop may leave of them.
use Rattle.std.specs.Prelude.{◌≡◌, ℕ, List, [], ◌∷◌, ◌==◌, if◌then◌else◌}
use Rattle.std.specs.Bool.{⊤}
use Rattle.channel_view_model.specs.Centre.{Centre, Request, view_of}
use Rattle.channel_view_laws.specs.Runs.{in_doubt_after}
use Rattle.http_office_requests.specs.Request.{Asked, refused, command}
use Rattle.http_office.specs.Message.{rows_left, outcome_of}
use Rattle.http_office_answers.specs.declared.answers.Answer.{Answer}
use Rattle.http_office_answers.specs.declared.answers.Answer.TheVariants.{Given, Unavailable}

-- the commands of channels that weren't answered Unavailable; a message that asks nothing of a channel is none
abbrev pub kept_commands : List Asked → List Answer → List Request
kept_commands [] xs = []
kept_commands (a ∷ asked) [] = []
kept_commands (refused status ∷ asked) (x ∷ answers) = kept_commands asked answers
kept_commands (command b q ∷ asked) (Unavailable ∷ answers) = kept_commands asked answers
kept_commands (command b q ∷ asked) (Given bytes ∷ answers) = (b, q) ∷ kept_commands asked answers

-- the bytes that channel c was given for its commands, answer by answer
abbrev pub given_to : ℕ → List Asked → List Answer → List (List ℕ)
given_to c [] xs = []
given_to c (a ∷ asked) [] = []
given_to c (refused status ∷ asked) (x ∷ answers) = given_to c asked answers
given_to c (command b q ∷ asked) (Unavailable ∷ answers) = given_to c asked answers
given_to c (command b q ∷ asked) (Given bytes ∷ answers) =
    if b == c then bytes.items ∷ given_to c asked answers else given_to c asked answers

-- two sets that the channel of a command sees alike; what asks nothing of a channel is answered by none
abbrev pub SeesAlike : Asked → Centre → Centre → Type 0
SeesAlike (refused status) rows others = ⊤
SeesAlike (command c q) rows others = view_of c rows ≡ view_of c others

-- P, where both answers were given
abbrev pub OnBothGiven : Answer → Answer → Type 0 → Type 0
OnBothGiven Unavailable y P = ⊤
OnBothGiven (Given bytes) Unavailable P = ⊤
OnBothGiven (Given bytes) (Given others) P = P

-- the commands in doubt after these: those answered Unavailable since the last one given that changed rows, the last
-- first
abbrev pub in_doubt_behind : List Request → Centre → List Asked → List Answer → List Request
in_doubt_behind in_doubt rows [] xs = in_doubt
in_doubt_behind in_doubt rows (a ∷ asked) [] = in_doubt
in_doubt_behind in_doubt rows (refused status ∷ asked) (x ∷ answers) = in_doubt_behind in_doubt rows asked answers
in_doubt_behind in_doubt rows (command b q ∷ asked) (x ∷ answers) =
    in_doubt_behind (in_doubt_after in_doubt rows (b, q) (outcome_of rows (b, q) x))
    (rows_left rows (command b q) x) asked answers
