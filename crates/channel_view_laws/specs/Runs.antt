-- Part of the promise: runs of requests over a store: which of them it served, and what a stop may leave.
use Rattle.std.specs.Prelude.{◌≡◌, ◌⊎◌, List, [], ◌∷◌, Contains, if◌then◌else◌}
use Rattle.channel_view_model.specs.declared.command.Outcome.{Outcome}
use Rattle.channel_view_model.specs.declared.command.Outcome.TheVariants.{Replied, NoChannel, Unavailable}
use Rattle.channel_view_model.specs.Centre.{Centre, Request, after}
use Rattle.channel_view_laws.specs.Requests.{rows_after, changes, stop_after}

-- the requests that weren't answered Unavailable, and what these were answered
abbrev pub kept : List Request → List Outcome → List Request
kept [] os = []
kept (r ∷ rs) [] = []
kept (r ∷ rs) (Unavailable ∷ os) = kept rs os
kept (r ∷ rs) (NoChannel ∷ os) = r ∷ kept rs os
kept (r ∷ rs) (Replied reply ∷ os) = r ∷ kept rs os

abbrev pub kept_outcomes : List Outcome → List Outcome
kept_outcomes [] = []
kept_outcomes (Unavailable ∷ os) = kept_outcomes os
kept_outcomes (NoChannel ∷ os) = NoChannel ∷ kept_outcomes os
kept_outcomes (Replied reply ∷ os) = Replied reply ∷ kept_outcomes os

-- what a stop may leave after several requests
abbrev pub stop_after_all : (Centre → Type 0) → Centre → List Request → List Outcome → Centre → Type 0
stop_after_all P rows [] os = P
stop_after_all P rows (r ∷ rs) [] = P
stop_after_all P rows (r ∷ rs) (o ∷ os) = stop_after_all (stop_after P rows r o) (rows_after rows r o) rs os

-- The requests in doubt: those answered Unavailable since the last acknowledged one that changed rows, the last first.
-- A stop may leave one of them done.
abbrev pub in_doubt_after : List Request → Centre → Request → Outcome → List Request
in_doubt_after in_doubt rows r Unavailable = r ∷ in_doubt
in_doubt_after in_doubt rows r NoChannel = in_doubt
in_doubt_after in_doubt rows r (Replied reply) = if changes rows r then [] else in_doubt

abbrev pub in_doubt_after_all : List Request → Centre → List Request → List Outcome → List Request
in_doubt_after_all in_doubt rows [] os = in_doubt
in_doubt_after_all in_doubt rows (r ∷ rs) [] = in_doubt
in_doubt_after_all in_doubt rows (r ∷ rs) (o ∷ os) =
    in_doubt_after_all (in_doubt_after in_doubt rows r o) (rows_after rows r o) rs os

-- the rows, or these after one of the requests in doubt
abbrev pub MayRemain : List Request → Centre → Centre → Type 0
MayRemain in_doubt rows left = (left ≡ rows) ⊎ ((r : Request) × Contains in_doubt r × (left ≡ after rows r))
