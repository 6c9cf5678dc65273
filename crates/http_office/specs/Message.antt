-- Part of the promise: one message by itself: what it asks, what it is answered, which rows it leaves, and which a stop
-- may leave.
use Rattle.std.specs.Prelude.{◌≡◌, List, ℕ, ◌⊎◌}
use Rattle.std.specs.Bool.{⊤}
use Rattle.channel_view_model.specs.declared.command.Outcome.{Outcome}
use Rattle.channel_view_model.specs.declared.command.Outcome.TheVariants as outcomes
use Rattle.channel_view_model.specs.Centre.{Centre, Request, reply_to, after}
use Rattle.channel_view_laws.specs.Requests.{stop_after}
use Rattle.http_office_requests.specs.Piece.{Piece, IsPiece}
use Rattle.http_office_requests.specs.Request.{Asked, refused, command, request_of}
use Rattle.http_office_answers.specs.Answer.{status_answer, bytes_of}
use Rattle.http_office_answers.specs.declared.answers.Answer.{Answer}
use Rattle.http_office_answers.specs.declared.answers.Answer.TheVariants.{Given, Unavailable}

-- what bytes by themselves ask: one piece what it asks, and other bytes are a bad message
abbrev pub IsAskedBy : List ℕ → Asked → Type 0
IsAskedBy bytes a =
    ((p : Piece) × IsPiece bytes p × (a ≡ request_of p)) ⊎ (((p : Piece) → IsPiece bytes p → ⊥) × (a ≡ refused 400))

-- the answer to what is asked, over these rows
abbrev pub answer_to : Centre → Asked → List ℕ
answer_to rows (refused status) = status_answer status
answer_to rows (command channel q) = bytes_of (reply_to rows (channel, q))

-- the rows after it
abbrev pub rows_asked : Centre → Asked → Centre
rows_asked rows (refused status) = rows
rows_asked rows (command channel q) = after rows (channel, q)

-- What is asked is answered, or the office is unavailable.
abbrev pub Answers : Centre → Asked → Answer → Type 0
Answers rows a Unavailable = ⊤
Answers rows a (Given bytes) = bytes.items ≡ answer_to rows a

-- the rows that it leaves: unavailable, the office did nothing
abbrev pub rows_left : Centre → Asked → Answer → Centre
rows_left rows a Unavailable = rows
rows_left rows a (Given bytes) = rows_asked rows a

-- what became of a command that was answered so
abbrev pub outcome_of : Centre → Request → Answer → Outcome
outcome_of rows r Unavailable = outcomes.Unavailable
outcome_of rows r (Given bytes) = reply_to rows r

-- what a stop may leave after the answer, where before it might leave what P says
abbrev pub stop_asked : (Centre → Type 0) → Centre → Asked → Answer → Centre → Type 0
stop_asked P rows (refused status) answer left = P left
stop_asked P rows (command channel q) answer left =
    stop_after P rows (channel, q) (outcome_of rows (channel, q) answer) left
