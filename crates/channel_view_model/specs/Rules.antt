-- Part of the promise: the integrity rules of the set.
use Rattle.std.specs.Prelude.{◌≡◌, ◌⊎◌, ℕ, ◌+◌, List, [], ◌∷◌, Bool, true, false, ◌&&◌, ◌==◌, nat_lt, nat_le, length}
use Rattle.std.specs.Prelude.{Option, Some, None}
use Rattle.std.proofs.Common.{inl, inr}
use Rattle.std.specs.List.{list_any, list_all, AllByRecursion}
use Rattle.channel_plan.specs.declared.plan.PlanRow.{PlanRow}
use Rattle.channel_plan.specs.Plan.{is_plan_in_order}
use Rattle.timecode.specs.Rate.{is_same_rate}
use Rattle.timecode.specs.Counting.{day_length}
use Rattle.vault_core.specs.declared.clip.Clip.{Clip}
use Rattle.vault_core.specs.Window.{is_in}
use Rattle.vault_core.specs.Rules.{KeepsOwnRules}
use Rattle.grant_core.specs.declared.grant.Grant.{Grant}
use Rattle.playlist_core.specs.declared.item.Item.{Item}
use Rattle.playlist_core.specs.declared.source.Source.{Source}
use Rattle.playlist_core.specs.declared.source.Source.TheVariants.{Black, Bars}
use Rattle.playlist_core.specs.declared.day.DayState.{DayState}
use Rattle.playlist_core.specs.declared.day.DayState.TheVariants.{NotThere, Open, Sealed}
use Rattle.playlist_core.specs.Source.{SourcesSeen, found}
use Rattle.playlist_core.specs.Day.{Day, KeepsDayRules}
use Rattle.asrun_match.specs.declared.day.DayAsRun.{DayAsRun}
use Rattle.asrun_match.specs.Aired.{KeepsAiringRules}
use Rattle.channel_view_model.specs.Seen.{sources_seen}
use Rattle.channel_view_model.specs.Tables.{Table, rows_of, is_in_order}
use Rattle.channel_view_model.specs.Centre.{Centre, plan_of, own_of, seen_by}

-- whether channel c is in the plan
abbrev pub is_planned : List PlanRow → ℕ → Bool
is_planned plan c = list_any (λ p. p.ch == c) plan

-- channel after channel, and each of the plan
abbrev pub is_table_of : {A : Type 0} → List PlanRow → Table A → Bool
is_table_of plan table = is_in_order table && list_all (λ r. is_planned plan r.0) table

-- each table of own rows is one of the plan
abbrev pub are_tables : Centre → Bool
are_tables rows = is_table_of rows.channels rows.tapes && is_table_of rows.channels rows.clips
    && is_table_of rows.channels rows.offers

-- whether a clip of these frames holds an item's
abbrev pub holds : ℕ → ℕ → Item → Bool
holds first frames i = nat_le first i.src_first && nat_le (i.src_first + i.frames) (first + frames)

-- whether what an item of day n shows is there and holds its frames; a lent clip has the channel's rate, and the day
-- lies in its window
abbrev pub row_holds : PlanRow → ℕ → Item → Option (Clip ⊎ Grant) → Bool
row_holds plan n i None = false
row_holds plan n i (Some (inl k)) = holds k.src_first k.frames i
row_holds plan n i (Some (inr g)) =
    is_in g.offer.window n && is_same_rate g.offer.rate plan.rate
    && holds g.offer.src_first g.offer.frames i

abbrev pub source_holds : PlanRow → ℕ → SourcesSeen → Item → Source → Bool
source_holds plan n seen i Black = true
source_holds plan n seen i Bars = true
source_holds plan n seen i source = row_holds plan n i (found seen source)

abbrev pub is_there : DayState → Bool
is_there NotThere = false
is_there Open = true
is_there Sealed = true

-- a day of a channel, over the clips and lent clips that its items may show: it is there, has the frames of a day at
-- the channel's rate, and each item shows what is there for it
abbrev pub is_day_of : PlanRow → SourcesSeen → Day → Bool
is_day_of plan seen day = is_there day.state && day.frames == day_length plan.rate
    && list_all (λ i. source_holds plan day.number seen i i.src) day.items

-- days of a channel, their numbers rising
abbrev pub are_days_of : PlanRow → SourcesSeen → ℕ → List Day → Bool
are_days_of plan seen last [] = true
are_days_of plan seen last (d ∷ days) =
    nat_lt last d.number && is_day_of plan seen d && are_days_of plan seen d.number days

-- the days of channel c are such
abbrev pub has_days : Centre → ℕ → PlanRow → Bool
has_days rows c plan = are_days_of plan (sources_seen (seen_by c plan rows)) 0 (rows_of c rows.days)

abbrev pub is_sealed : DayState → Bool
is_sealed NotThere = false
is_sealed Open = false
is_sealed Sealed = true

-- the numbers of days rise
abbrev pub numbers_rise : ℕ → List Day → Bool
numbers_rise last [] = true
numbers_rise last (d ∷ days) = nat_lt last d.number && numbers_rise d.number days

-- one of the days has this number, and is sealed
abbrev pub has_sealed : ℕ → List Day → Bool
has_sealed n days = list_any (λ d. d.number == n && is_sealed d.state) days

-- what was aired of a day of a channel with these days: the day is sealed, and has the frames of a day at the channel's
-- rate; a batch is there
abbrev pub is_airing_of : PlanRow → List Day → DayAsRun → Bool
is_airing_of plan days a =
    nat_lt 0 (length a.aired.batches) && a.aired.frames == day_length plan.rate && has_sealed a.day days

-- what was aired of days of a channel, their numbers rising
abbrev pub are_airings_of : PlanRow → List Day → ℕ → List DayAsRun → Bool
are_airings_of plan days last [] = true
are_airings_of plan days last (a ∷ more) =
    nat_lt last a.day && is_airing_of plan days a && are_airings_of plan days a.day more

-- what was aired of the days of channel c is such
abbrev pub has_airings : Centre → ℕ → PlanRow → Bool
has_airings rows c plan = are_airings_of plan (rows_of c rows.days) 0 (rows_of c rows.aired)

-- The rules of own rows: tables of the plan's channels, and each channel's own rules.
pub record KeepsTables (rows : Centre) : Type 0 where
  pub tables : are_tables rows ≡ true
  pub own : (c : ℕ) (p : PlanRow) → plan_of c rows ≡ Some p → KeepsOwnRules (own_of c p rows)

-- The rules of the days: a table of the plan's channels, each day by its own rules, each channel's numbered and shown.
pub record KeepsDays (rows : Centre) : Type 0 where
  pub table : is_table_of rows.channels rows.days ≡ true
  pub each : AllByRecursion (λ r. KeepsDayRules r.1) rows.days
  pub seen : (c : ℕ) (p : PlanRow) → plan_of c rows ≡ Some p → has_days rows c p ≡ true

-- The rules of what was aired: a table of the plan's channels, each day's by its own rules, each channel's of sealed
-- days.
pub record KeepsAirings (rows : Centre) : Type 0 where
  pub table : is_table_of rows.channels rows.aired ≡ true
  pub each : AllByRecursion (λ r. KeepsAiringRules r.1.aired) rows.aired
  pub sealed : (c : ℕ) (p : PlanRow) → plan_of c rows ≡ Some p → has_airings rows c p ≡ true

-- The rules of the set: a plan in order, tables of its channels, each channel's own rules and days, and what was aired
-- of these.
pub record KeepsRules (rows : Centre) : Type 0 where
  pub plan : is_plan_in_order rows.channels ≡ true
  pub tables : are_tables rows ≡ true
  pub own : (c : ℕ) (p : PlanRow) → plan_of c rows ≡ Some p → KeepsOwnRules (own_of c p rows)
  pub days : KeepsDays rows
  pub aired : KeepsAirings rows
