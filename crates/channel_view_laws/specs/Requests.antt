-- Part of the promise: requests over a store: those that it served, and those that it had no means for.
use Rattle.std.specs.Prelude.{◌≡◌, ◌⊎◌, ℕ, Bool, true, false, Option, Some, None, IfSome}
use Rattle.std.specs.Bool.{⊤}
use Rattle.std.specs.Option.{option_map}
use Rattle.channel_plan.specs.declared.plan.PlanRow.{PlanRow}
use Rattle.channel_view_model.specs.declared.command.Change.{Change}
use Rattle.channel_view_model.specs.declared.command.Change.TheVariants.{Nothing, Vault, Day as OnDay}
use Rattle.channel_view_model.specs.declared.command.Change.TheVariants.{Airing as OnAiring}
use Rattle.channel_view_model.specs.declared.command.Command.{Command}
use Rattle.channel_view_model.specs.declared.command.Outcome.{Outcome}
use Rattle.channel_view_model.specs.declared.command.Outcome.TheVariants.{Replied, NoChannel, Unavailable}
use Rattle.channel_view_model.specs.Decide.{Decided, decision}
use Rattle.channel_view_model.specs.Seen.{seen_in}
use Rattle.channel_view_model.specs.Centre.{Centre, Request, plan_of, seen_by, view_of, changed, reply_to, after}
use Rattle.channel_view_model.specs.Centre.{IsChangeOf}

-- P, where the request wasn't answered Unavailable
abbrev pub UnlessUnavailable : Outcome → Type 0 → Type 0
UnlessUnavailable Unavailable P = ⊤
UnlessUnavailable NoChannel P = P
UnlessUnavailable (Replied reply) P = P

-- the set after a request and what it was answered
abbrev pub rows_after : Centre → Request → Outcome → Centre
rows_after rows r Unavailable = rows
rows_after rows r NoChannel = after rows r
rows_after rows r (Replied reply) = after rows r

-- What was decided is the request's step: its reply is the request's, and its change leaves the set after it.
abbrev pub IsStepOf : Centre → Request → Option Decided → Type 0
IsStepOf rows r None = (NoChannel ≡ reply_to rows r) × (rows ≡ after rows r)
IsStepOf rows r (Some decided) = (Replied decided.0 ≡ reply_to rows r) × (changed r.0 decided.1 rows ≡ after rows r)

-- whether a change is one of rows
abbrev pub is_made : Change → Bool
is_made Nothing = false
is_made (Vault put change) = true
is_made (OnDay change) = true
is_made (OnAiring airing) = true

abbrev pub changes_at : Option PlanRow → Centre → Request → Bool
changes_at None rows r = false
changes_at (Some plan) rows r = is_made (decision (seen_by r.0 plan rows) r.1).1

-- whether a request changes rows
unfoldable pub changes : Centre → Request → Bool
changes rows r = changes_at (plan_of r.0 rows) rows r

-- What was decided of a request over a set of rows: its reply and its change, or none where the channel isn't in the
-- plan.
pub record Prepares (rows : Centre) (channel : ℕ) (command : Command) (decided : Option Decided) : Type 0 where
  -- it is decided by what the channel sees alone
  pub seen : decided ≡ option_map (λ v. decision (seen_in v) command) (view_of channel rows)
  -- which is what the whole set gives
  pub of_set : decided ≡ option_map (λ p. decision (seen_by channel p rows) command) (plan_of channel rows)
  -- committing the change is the request's step
  pub may_commit : IfSome decided (λ d. IsChangeOf channel d.1 rows)
  pub step : IsStepOf rows (channel, command) decided
  -- it changes rows where the request does
  pub has_change : IfSome decided (λ d. is_made d.1 ≡ changes rows (channel, command))

-- what a stop may leave after a request, where before it might leave what P says
abbrev pub stop_after : (Centre → Type 0) → Centre → Request → Outcome → Centre → Type 0
stop_after P rows r Unavailable left = P left ⊎ (left ≡ after rows r)
stop_after P rows r NoChannel left = P left
stop_after P rows r (Replied reply) left = (left ≡ after rows r) ⊎ ((changes rows r ≡ false) × P left)
