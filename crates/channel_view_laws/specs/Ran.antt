-- Part of the promise: what a run came to.
--
-- What a run of requests over a set of rows came to.
use Rattle.std.specs.Prelude.{◌≡◌, ◌⊎◌, ℕ, Bool, true, List, []}
use Rattle.channel_view_model.specs.declared.command.Outcome.{Outcome}
use Rattle.channel_view_model.specs.Centre.{Centre, Request, view_of, outcomes, after_all}
use Rattle.channel_view_model.specs.Rules.{KeepsRules}
use Rattle.channel_view_model.specs.Solo.{solo_outcomes, feed, outcomes_to, replies_to, purge}
use Rattle.channel_view_laws.specs.Parts.{rows_part, IsClosedPart}
use Rattle.channel_view_laws.specs.Runs.{kept, kept_outcomes, stop_after_all, in_doubt_after_all, MayRemain}

-- Those that weren't answered Unavailable were answered as defined, and the store stands for the set after them.
pub record HasRun (stands_for : Centre → Type 0) (rows : Centre) (rs : List Request) (os : List Outcome) : Type 0 where
  pub outcomes : kept_outcomes os ≡ outcomes rows (kept rs os)
  pub stands : stands_for (after_all rows (kept rs os))
  -- where there was one, the set kept the integrity rules
  pub rules : (kept rs os ≡ []) ⊎ KeepsRules rows

-- What each channel was answered depends on what it sees, and on what others offer it.
pub record AnswersEachAlone (rows : Centre) (rs : List Request) (os : List Outcome) : Type 0 where
  -- it is what its own machine says, whatever the others asked
  pub alone : (c : ℕ) → outcomes_to c (kept rs os) (kept_outcomes os)
      ≡ solo_outcomes (view_of c rows) (feed c rows (kept rs os))
  -- and the same without the requests of the channels that lend it nothing
  pub purged : (c : ℕ) → outcomes_to c (kept rs os) (kept_outcomes os)
      ≡ replies_to c rows (purge c rows (kept rs os))

-- Over a closed part of a whole each channel of the part was answered what the whole says, and the store stands for the
-- part of the set after the whole.
pub record AnswersAsWhole (stands_for : Centre → Type 0) (rows : Centre) (rs : List Request) (os : List Outcome) : Type
    0
  where
    pub outcomes : (mine : ℕ → Bool) (whole : Centre) (all : List Request)
        → IsClosedPart mine whole all rows (kept rs os)
        → (c : ℕ) → mine c ≡ true → outcomes_to c (kept rs os) (kept_outcomes os) ≡ replies_to c whole all
    pub stands : (mine : ℕ → Bool) (whole : Centre) (all : List Request) → IsClosedPart mine whole all rows (kept rs os)
        → stands_for (rows_part mine (after_all whole all))

-- What a stop may leave, where before it might leave what `left_before` says.
pub record StopsBetween (left_before left_now : Centre → Type 0) (rows : Centre) (rs : List Request) (os : List Outcome)
    : Type 0 where
  -- request by request
  pub each : (left : Centre) → left_now left → stop_after_all left_before rows rs os left
  -- so: the set after the acknowledged requests, or that with one request done that was answered Unavailable since the
  -- last acknowledged one that changed rows
  pub remains : (in_doubt : List Request) → ((left : Centre) → left_before left → MayRemain in_doubt rows left)
      → (left : Centre) → left_now left
      → MayRemain (in_doubt_after_all in_doubt rows rs os) (after_all rows (kept rs os)) left
