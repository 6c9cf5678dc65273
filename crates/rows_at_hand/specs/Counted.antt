-- What is known of the days tables of channels.
use Rattle.std.specs.Prelude.{◌≡◌, ◌⊎◌, ℕ, ◌+◌, ◌<◌, ◌≤◌, List, [], ◌∷◌, ◌++◌, Bool, true, false, ◌==◌, nat_le, Option, Some, None}
use Rattle.std.specs.Prelude.{if◌then◌else◌, find, is_some, length, map}
use Rattle.std.specs.List.{All, flat_map, sum_by}
use Rattle.report_texts.specs.declared.counts.DayCounts.{DayCounts}
use Rattle.report_texts.specs.Days.{counts_line, days_end}
use Rattle.channel_view_model.specs.Tables.{rows_of}
use Rattle.channel_view_model.specs.Centre.{Centre, plan_of}
use Rattle.channel_view_model.specs.Rules.{KeepsRules}
use Rattle.channel_view_model.specs.Counts.{counts_of}
use Rattle.rows_at_hand.specs.declared.counts.ChannelCounts.{ChannelCounts}

-- what the days table tells of each day of channel c
abbrev pub counts_in : Centre → ℕ → List DayCounts
counts_in rows c = counts_of (rows_of c rows.aired) (rows_of c rows.days)

-- the table that tells this
abbrev pub counts_text : List DayCounts → List ℕ
counts_text counts = flat_map counts_line counts ++ days_end (length counts)

-- the rows keep the rules and have the channel, and this is told of its days
pub record IsCounted (rows : Centre) (known : ChannelCounts) : Type 0 where
  pub rules : KeepsRules rows
  pub planned : is_some (plan_of known.channel rows) ≡ true
  pub counts : known.counts.items ≡ counts_in rows known.channel

abbrev pub AreCounted : Centre → List ChannelCounts → Type 0
AreCounted rows channels = All (IsCounted rows) channels

abbrev pub is_channel : ℕ → ChannelCounts → Bool
is_channel c known = known.channel == c

-- the most days of which this is at hand at once
abbrev pub most_counted : ℕ
most_counted = 500000

-- the days of which it is
abbrev pub days_counted : List ChannelCounts → ℕ
days_counted channels = sum_by (λ k. length k.counts.items) channels

-- those of these channels that are left where one with so many days comes: all, where there is room for it
abbrev pub left_beside : ℕ → List ChannelCounts → List ChannelCounts
left_beside days channels = if nat_le (days_counted channels + days) most_counted then channels else []

-- The channel is known beside those that are left, or for want of memory these alone are. One with more days than there is
-- room for leaves all as they are.
abbrev pub Learns : ChannelCounts → List ChannelCounts → List ChannelCounts → Type 0
Learns known channels after =
    ((most_counted < length known.counts.items) × (after ≡ channels))
    ⊎ ((length known.counts.items ≤ most_counted) × ((after ≡ left_beside (length known.counts.items) channels)
    ⊎ (after ≡ left_beside (length known.counts.items) channels ++ known ∷ [])))

-- the batches that are told of the day of this number
abbrev pub batches_in : Option DayCounts → ℕ
batches_in None = 0
batches_in (Some day) = day.batches

abbrev pub batches_told : List DayCounts → ℕ → ℕ
batches_told counts n = batches_in (find (λ k. k.number == n) counts)

-- whether this is told of the day of this number
abbrev pub is_told_at : ℕ → Option DayCounts → Bool
is_told_at n None = false
is_told_at n (Some day) = day.number == n

-- so many batches are told of the day of this number
abbrev pub with_batches : ℕ → ℕ → DayCounts → DayCounts
with_batches n batches day = if day.number == n then record day { batches = batches } else day
