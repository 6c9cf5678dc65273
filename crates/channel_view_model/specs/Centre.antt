-- Part of the promise: the centre: one set of rows of all channels, what a request is answered and what it does to the
-- set. Nothing here mentions what a single channel sees, but `view_of`.
use Rattle.std.specs.Prelude.{◌≡◌, ℕ, List, [], ◌∷◌, true, ◌==◌, Option, Some, None, find}
use Rattle.std.specs.List.Sorted.{IsNonDecreasingBy}
use Rattle.std.specs.Option.{option_map}
use Rattle.channel_plan.specs.declared.plan.PlanRow.{PlanRow}
use Rattle.vault_core.specs.declared.tape.Tape.{Tape}
use Rattle.vault_core.specs.declared.clip.Clip.{Clip}
use Rattle.vault_core.specs.declared.offer.Offer.{Offer}
use Rattle.playlist_core.specs.Day.{Day}
use Rattle.asrun_match.specs.declared.day.DayAsRun.{DayAsRun}
use Rattle.channel_view_model.specs.declared.view.View.{View}
use Rattle.channel_view_model.specs.declared.command.Command.{Command}
use Rattle.channel_view_model.specs.declared.command.Change.{Change}
use Rattle.channel_view_model.specs.declared.command.Change.TheVariants.{Nothing, Vault as OnVault, Day as OnDay}
use Rattle.channel_view_model.specs.declared.command.Change.TheVariants.{Airing as OnAiring}
use Rattle.channel_view_model.specs.declared.command.VaultChange.{VaultChange}
use Rattle.channel_view_model.specs.declared.command.VaultChange.TheVariants.{Tape as TapeRow, Clip as ClipRow}
use Rattle.channel_view_model.specs.declared.command.VaultChange.TheVariants.{Offer as OfferRow}
use Rattle.channel_view_model.specs.declared.command.Outcome.{Outcome}
use Rattle.channel_view_model.specs.declared.command.Outcome.TheVariants.{Replied, NoChannel}
use Rattle.vault_core.specs.Own.{Own, OwnSeen}
use Rattle.channel_view_model.specs.Tables.{Table, picked, of_channel, rows_of, replace_row}
use Rattle.channel_view_model.specs.Tables.{is_in_order}
use Rattle.channel_view_model.specs.Seen.{Seen, grant_of, grants_to}
use Rattle.channel_view_model.specs.Decide.{decision}

pub record Centre : Type 0 where
  pub channels : List PlanRow
  pub tapes : Table Tape
  pub clips : Table Clip
  pub offers : Table Offer
  pub days : Table Day
  pub aired : Table DayAsRun

-- The channels, and the rows of each table, in the order of their channels.
pub record IsInOrder (rows : Centre) : Type 0 where
  pub channels : IsNonDecreasingBy (λ p. p.ch) rows.channels
  pub tapes : is_in_order rows.tapes ≡ true
  pub clips : is_in_order rows.clips ≡ true
  pub offers : is_in_order rows.offers ≡ true
  pub days : is_in_order rows.days ≡ true
  pub aired : is_in_order rows.aired ≡ true

-- a plan and nothing else
abbrev pub plan_alone : List PlanRow → Centre
plan_alone plan = record { channels = plan; tapes = []; clips = []; offers = []; days = []; aired = [] }

-- a channel and its command
abbrev pub Request : Type 0
Request = ℕ × Command

abbrev pub plan_of : ℕ → Centre → Option PlanRow
plan_of c rows = find (λ p. p.ch == c) rows.channels

-- what a command of channel c may ask of the whole set
abbrev pub own_seen_by : ℕ → PlanRow → Centre → OwnSeen
own_seen_by c plan rows =
    record {
      plan = plan;
      tapes = of_channel c rows.tapes;
      clips = of_channel c rows.clips;
      offers = of_channel c rows.offers;
    }

abbrev pub seen_by : ℕ → PlanRow → Centre → Seen
seen_by c plan rows =
    record {
      own = own_seen_by c plan rows;
      days = of_channel c rows.days;
      aired = of_channel c rows.aired;
      lent = picked (λ r. r.1.grantee == c) grant_of rows.offers;
    }

-- the set after a change of channel c: a row stands in the place of the one with its number, or as one more
abbrev pub own_changed : ℕ → VaultChange → Centre → Centre
own_changed c (TapeRow t) rows = record rows { tapes = replace_row (λ u. u.n) c t rows.tapes }
own_changed c (ClipRow k) rows = record rows { clips = replace_row (λ u. u.n) c k rows.clips }
own_changed c (OfferRow o) rows = record rows { offers = replace_row (λ u. u.n) c o rows.offers }

abbrev pub day_changed : ℕ → Day → Centre → Centre
day_changed c day rows = record rows { days = replace_row (λ d. d.number) c day rows.days }

abbrev pub airing_changed : ℕ → DayAsRun → Centre → Centre
airing_changed c airing rows = record rows { aired = replace_row (λ a. a.day) c airing rows.aired }

unfoldable pub changed : ℕ → Change → Centre → Centre
changed c Nothing rows = rows
changed c (OnVault put change) rows = own_changed c change rows
changed c (OnDay change) rows = day_changed c change.day rows
changed c (OnAiring airing) rows = airing_changed c airing rows

abbrev pub reply_at : Option PlanRow → Centre → Request → Outcome
reply_at None rows r = NoChannel
reply_at (Some plan) rows r = Replied (decision (seen_by r.0 plan rows) r.1).0

abbrev pub after_at : Option PlanRow → Centre → Request → Centre
after_at None rows r = rows
after_at (Some plan) rows r = changed r.0 (decision (seen_by r.0 plan rows) r.1).1 rows

-- what a request is answered: one of a channel that isn't in the plan nothing of a channel
unfoldable pub reply_to : Centre → Request → Outcome
reply_to rows r = reply_at (plan_of r.0 rows) rows r

-- the set after it
unfoldable pub after : Centre → Request → Centre
after rows r = after_at (plan_of r.0 rows) rows r

-- the own rows of channel c
abbrev pub own_of : ℕ → PlanRow → Centre → Own
own_of c plan rows =
    record { plan = plan; tapes = rows_of c rows.tapes; clips = rows_of c rows.clips; offers = rows_of c rows.offers }

-- what channel c sees of the set, if it is in the plan
abbrev pub view_at : ℕ → Centre → PlanRow → View
view_at c rows plan =
    record {
      own = own_of c plan rows;
      days = rows_of c rows.days;
      aired = rows_of c rows.aired;
      lent = grants_to c rows.offers;
    }

unfoldable pub view_of : ℕ → Centre → Option View
view_of c rows = option_map (view_at c rows) (plan_of c rows)

-- what each request of a run is answered, and the set after all of them
abbrev pub outcomes : Centre → List Request → List Outcome
outcomes rows [] = []
outcomes rows (r ∷ rs) = reply_to rows r ∷ outcomes (after rows r) rs

abbrev pub after_all : Centre → List Request → Centre
after_all rows [] = rows
after_all rows (r ∷ rs) = after_all (after rows r) rs

-- The change is that of some command of c on the set as it stands.
abbrev pub IsChangeOf : ℕ → Change → Centre → Type 0
IsChangeOf c change rows =
    (q : Command) × (p : PlanRow) × (plan_of c rows ≡ Some p) × (change ≡ (decision (seen_by c p rows) q).1)
