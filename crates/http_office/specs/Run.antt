-- Part of the promise: things asked one after another: their answers, the rows that they leave, and those that a stop
-- may leave.
use Rattle.std.specs.Prelude.{◌≡◌, ◌⊎◌, ℕ, List, [], ◌∷◌, length}
use Rattle.std.specs.Bool.{⊤}
use Rattle.channel_view_model.specs.Centre.{Centre}
use Rattle.channel_view_model.specs.Rules.{KeepsRules}
use Rattle.channel_view_model.specs.Store.{WhileClean}
use Rattle.http_office_requests.specs.Request.{Asked}
use Rattle.http_office.specs.Message.{IsAskedBy, Answers, rows_left, stop_asked}
use Rattle.http_office.specs.Alone.{kept_commands}
use Rattle.http_office_answers.specs.declared.answers.Answer.{Answer}

-- each of these messages by itself asks this
abbrev pub AreAskedBy : List (List ℕ) → List Asked → Type 0
AreAskedBy [] [] = ⊤
AreAskedBy (m ∷ messages) (a ∷ asked) = IsAskedBy m a × AreAskedBy messages asked
AreAskedBy [] (a ∷ asked) = ⊥
AreAskedBy (m ∷ messages) [] = ⊥

-- each is answered over the rows that those before it left
abbrev pub AnswersAll : Centre → List Asked → List Answer → Type 0
AnswersAll rows [] [] = ⊤
AnswersAll rows (a ∷ asked) (x ∷ answers) = Answers rows a x × AnswersAll (rows_left rows a x) asked answers
AnswersAll rows [] (x ∷ answers) = ⊥
AnswersAll rows (a ∷ asked) [] = ⊥

-- the rows that all of them leave
abbrev pub rows_left_by : Centre → List Asked → List Answer → Centre
rows_left_by rows [] answers = rows
rows_left_by rows (a ∷ asked) [] = rows
rows_left_by rows (a ∷ asked) (x ∷ answers) = rows_left_by (rows_left rows a x) asked answers

-- what a stop may leave after them, where before them it might leave what P says
abbrev pub stop_after_messages : (Centre → Type 0) → Centre → List Asked → List Answer → Centre → Type 0
stop_after_messages P rows [] answers left = P left
stop_after_messages P rows (a ∷ asked) [] left = P left
stop_after_messages P rows (a ∷ asked) (x ∷ answers) left =
    stop_after_messages (stop_asked P rows a x) (rows_left rows a x) asked answers left

-- What a store did between two moments: it answered what was asked, and nothing else was done.
pub record HasAnswered {S : Type 0} (is_clean : S → Type 0) (stands_for may_leave : S → Centre → Type 0)
    (leaves_sets : S → Type 0) (old new : S)
    (asked : List Asked) (answers : List Answer) : Type 0 where
  pub clean : is_clean new → is_clean old
  -- each has one answer
  pub each : length asked ≡ length answers
  -- where a command was given its answer, the rows kept the integrity rules
  pub rules : WhileClean (is_clean new) (stands_for old) (λ rows. (kept_commands asked answers ≡ []) ⊎ KeepsRules rows)
  pub answered : WhileClean (is_clean new) (stands_for old) (λ rows. AnswersAll rows asked answers)
  pub rows : WhileClean (is_clean new) (stands_for old) (λ rows. stands_for new (rows_left_by rows asked answers))
  pub stop : WhileClean (is_clean new) (stands_for old)
      (λ rows. (left : Centre) → may_leave new left → stop_after_messages (may_leave old) rows asked answers left)
  -- all that a stop may leave holds a set, where it did before
  pub sets : WhileClean (is_clean new) (stands_for old) (λ rows. leaves_sets old → leaves_sets new)
