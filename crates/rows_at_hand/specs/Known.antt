-- What is known of a set of rows: some days of its channels, and of some of these what was aired.
use Rattle.std.specs.Prelude.{◌≡◌, ◌⊎◌, ℕ, ◌+◌, ◌*◌, ◌<◌, List, [], ◌∷◌, ◌++◌, Bool, true, false, not, ◌&&◌, ◌==◌}
use Rattle.std.specs.Prelude.{nat_lt, nat_le, Option, Some, None, IfSome, filter, find, length, drop, slice_index_or}
use Rattle.std.specs.List.{All, remove, sum_by}
use Rattle.std.specs.Option.{option_map}
use Rattle.vault_core.specs.Questions.{listed}
use Rattle.playlist_core.specs.Day.{Day}
use Rattle.asrun_match.specs.Aired.{Airing, all_rows}
use Rattle.channel_view_model.specs.declared.need.Need.{Need}
use Rattle.channel_view_model.specs.declared.part.Part.{Part}
use Rattle.channel_view_model.specs.declared.command.Change.{Change}
use Rattle.channel_view_model.specs.declared.command.Change.TheVariants.{Nothing, Vault as OnVault, Day as OnDay}
use Rattle.channel_view_model.specs.declared.command.Change.TheVariants.{Airing as OnAiring}
use Rattle.channel_view_model.specs.Tables.{rows_of}
use Rattle.channel_view_model.specs.Airings.{airing_at}
use Rattle.channel_view_model.specs.Centre.{Centre, plan_of}
use Rattle.channel_view_model.specs.Need.{items_asked}
use Rattle.channel_view_model.specs.Rules.{KeepsRules}
use Rattle.rows_at_hand.specs.declared.known.KnownDay.{KnownDay}

-- the most days that are at hand at once
abbrev pub most_days : ℕ
most_days = 4096

-- the most rows that these take together: their items, and what was aired of them
abbrev pub most_rows : ℕ
most_rows = 2000000

-- this is the channel's day of its number
abbrev pub HasDay : Centre → ℕ → Day → Type 0
HasDay rows c day = find (λ d. d.number == day.number) (rows_of c rows.days) ≡ Some day

-- what was aired of the channel's day of this number, if the channel is in the plan
abbrev pub airing_in : Centre → ℕ → ℕ → Option Airing
airing_in rows c n = option_map (λ p. airing_at p (listed (rows_of c rows.aired)) n) (plan_of c rows)

-- this was aired of the channel's day of this number
abbrev pub HasAiring : Centre → ℕ → ℕ → Airing → Type 0
HasAiring rows c n airing = airing_in rows c n ≡ Some airing

-- the rows keep the rules, and have the day so, and what was aired of it, where that is known
pub record IsKnown (rows : Centre) (known : KnownDay) : Type 0 where
  pub rules : KeepsRules rows
  pub has : HasDay rows known.channel known.day
  pub aired : IfSome known.aired (HasAiring rows known.channel known.day.number)

abbrev pub AreKnown : Centre → List KnownDay → Type 0
AreKnown rows days = All (IsKnown rows) days

-- the channel's day of this number
abbrev pub is_day_of : ℕ → ℕ → KnownDay → Bool
is_day_of c n known = known.channel == c && known.day.number == n

-- what was aired takes two rows for each, one in its batch and one among all, where it is known
abbrev pub aired_rows : Option Airing → ℕ
aired_rows None = 0
aired_rows (Some airing) = 2 * length (all_rows airing.batches)

-- the rows that a day takes: its items, and what was aired of it
abbrev pub rows_in : KnownDay → ℕ
rows_in known = length known.day.items + aired_rows known.aired

-- the rows that all these days take
abbrev pub rows_at_hand : List KnownDay → ℕ
rows_at_hand days = sum_by rows_in days

-- whether a day with so many rows has room beside these
abbrev pub has_room : ℕ → List KnownDay → Bool
has_room rows days = nat_lt (length days) most_days && nat_le (rows_at_hand days + rows) most_rows

-- Of these days, the one that was asked for least lately first, some went from the front: no more of them than leave
-- room for a day with so many rows.
pub record LeavesLatest (rows : ℕ) (days left : List KnownDay) : Type 0 where
  pub gone : ℕ
  pub latest : left ≡ drop gone days
  pub room : has_room rows left ≡ true
  pub no_more : (n : ℕ) → n < gone → has_room rows (drop n days) ≡ false

-- The day is the latest, behind those that leave room for it, or for want of memory these alone are left. One with more
-- rows than there is room for leaves all as they are.
abbrev pub Inserts : KnownDay → List KnownDay → List KnownDay → Type 0
Inserts known days after =
    ((most_rows < rows_in known) × (after ≡ days))
    ⊎ ((left : List KnownDay) × LeavesLatest (rows_in known) days left
    × ((after ≡ left) ⊎ (after ≡ left ++ known ∷ [])))

-- these days are left, or of them those that leave room for one, which is now the latest
abbrev pub KeepsOthers : List KnownDay → List KnownDay → Type 0
KeepsOthers days after = (after ≡ days) ⊎ ((known : KnownDay) × Inserts known days after)

-- the day at this place is now the latest
abbrev pub IsAskedLast : ℕ → List KnownDay → List KnownDay → Type 0
IsAskedLast place days after =
    (place < length days) × ((d : KnownDay) → after ≡ remove days place ++ slice_index_or days place d ∷ [])

-- of these days those that a change of the channel isn't about
abbrev pub kept_beside : ℕ → Change → List KnownDay → List KnownDay
kept_beside c Nothing days = days
kept_beside c (OnVault put change) days = days
kept_beside c (OnDay change) days = filter (λ k. not (is_day_of c change.day.number k)) days
kept_beside c (OnAiring airing) days = filter (λ k. not (is_day_of c airing.day k)) days

-- all that a need asks for beside the day, whose items are at hand; none, where it asks for no day
pub record AsksBeside (day : Option Day) (need beside : Need) : Type 0 where
  pub others : beside ≡ record need { day = None; items = beside.items }
  pub items : (own : Option Day) → items_asked beside.items own ≡ items_asked need.items day

-- a part with this day in it, or with none
abbrev pub with_day : Option Day → Option Part → Option Part
with_day day None = None
with_day day (Some part) = Some (record part { day = day })

-- a part with this in it as what was aired, or with nothing that was asked for
abbrev pub with_airing : Option Airing → Option Part → Option Part
with_airing airing None = None
with_airing airing (Some part) = Some (record part { aired = airing })
